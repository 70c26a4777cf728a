-- What the terminal takes off the rows that its calls are answered by.
use Rattle.std.specs.Prelude.{ℕ, ◌+◌, ◌*◌, ◌/◌, Bool, true, false, cond, List, length, drop, Some, None, Ok, Err, Option, Result, nat_lt, slice_index_or}
use Rattle.chip.specs.declared.calls.Answer.{Answer}
use Rattle.chip.specs.declared.refusals.Refusal.{Refusal}
use Rattle.terminal.specs.declared.error.BusError.{BusError}
use Rattle.terminal.specs.declared.error.BusError.TheVariants.{Silent, Refused}

-- A stand-in past the last row.
abbrev pub no_row : Answer
no_row = record { sda = false; refusal = None }

-- The level that the module leaves on SDA at a row; past the last row it is released.
abbrev pub level_at : List Answer → ℕ → Bool
level_at rows row = cond (nat_lt row (length rows)) (slice_index_or rows row no_row).sda true

abbrev pub bit_at : List Answer → ℕ → ℕ
bit_at rows row = cond (level_at rows row) 1 0

-- The byte of nine pulses that begin the rows: each second row is a rise, the highest bit comes first, and the ninth is none of it.
abbrev pub byte_of : List Answer → ℕ
byte_of rows =
    128 * bit_at rows 1 + 64 * bit_at rows 3 + 32 * bit_at rows 5 + 16 * bit_at rows 7
    + 8 * bit_at rows 9 + 4 * bit_at rows 11 + 2 * bit_at rows 13 + bit_at rows 15

-- The rows of a byte: two for each of nine pulses.
abbrev pub byte_rows : ℕ
byte_rows = 18

-- Byte k of the rows; FFh, a released wire, where they have not as many.
abbrev pub byte_at : List Answer → ℕ → ℕ
byte_at rows k = cond (nat_lt k (length rows / byte_rows)) (byte_of (drop (byte_rows * k) rows)) 0xFF

-- Of a write of n data bytes, from the row of its start on: the ninth rise of its last byte, and its stop.
abbrev pub last_ninth : ℕ → ℕ
last_ninth n = byte_rows * (n + 3)

abbrev pub stop_row : ℕ → ℕ
stop_row n = byte_rows * (n + 3) + 3

abbrev pub stop_outcome : Option Refusal → Result Unit BusError
stop_outcome None = Ok tt
stop_outcome (Some refusal) = Err (Refused refusal)

-- The last byte was not acknowledged, or the stop is refused, or all is well. A byte is acknowledged only where every byte before it was.
abbrev pub write_outcome : List Answer → ℕ → Result Unit BusError
write_outcome rows n =
    cond (level_at rows (last_ninth n)) (Err Silent)
    (cond (nat_lt (stop_row n) (length rows)) (stop_outcome (slice_index_or rows (stop_row n) no_row).refusal) (Ok tt))
