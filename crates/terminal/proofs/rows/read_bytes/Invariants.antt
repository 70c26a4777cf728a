use Rattle.std.proofs.Common.{◌≡◌, ℕ, ◌*◌, ◌<◌, drop, get_or}
use Rattle.terminal.specs.Rows.{byte_at, byte_rows}
use Rattle.terminal.proofs.rows.read_bytes.Given as goal

abbrev pub invariant-loop-byte : goal.invariant-loop-byte
invariant-loop-byte l =
    (l.left ≡ drop (byte_rows * l.byte-index) l.rows) × ((k : ℕ) → k < l.byte-index → get_or l.bytes k 0 ≡ byte_at l.rows k)
