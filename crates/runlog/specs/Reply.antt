-- The reply: its rows, their text, and the room that it is written to.
use Rattle.std.specs.Prelude.{◌≡◌, ℕ, ◌+◌, ◌-◌, Bool, cond, List, [], ◌∷◌, ◌++◌, length, Some, None, decimal, Option}
use Rattle.std.specs.List.{replace_range}
use Rattle.chip.specs.Refusals.{report, area_number}
use Rattle.chip.specs.declared.calls.Answer.{Answer}
use Rattle.chip.specs.declared.refusals.Refusal.{Refusal}
use Rattle.runlog.specs.declared.reply.Reply.{Reply}
use Rattle.runlog.specs.declared.reply.Row.{Row}
use Rattle.runlog.specs.Texts.{space, lf}

-- The level on SDA as a number.
abbrev pub level_number : Bool → ℕ
level_number sda = cond sda 1 0

-- The number of the refusal with its area and its address, or zeros where there is none.
abbrev pub row_with : ℕ → ℕ → Option Refusal → Row
row_with line sda None = record { line = line; sda = sda; fault = 0; area = 0; address = 0 }
row_with line sda (Some r) =
    record { line = line; sda = sda; fault = (report r).number; area = area_number (report r).area; address = (report r).address }

-- The row of a line that was answered so.
abbrev pub row_of : ℕ → Answer → Row
row_of line answer = row_with line (level_number answer.sda) answer.refusal

-- A number in decimal, and the byte that ends it.
abbrev pub field : ℕ → ℕ → List ℕ
field n end = decimal n ++ end ∷ []

-- The text of a row: five numbers, one space between two, and LF at the end.
abbrev pub row_text : Row → List ℕ
row_text r =
    field r.line space
    ++ (field r.sda space ++ (field r.fault space ++ (field r.area space ++ field r.address lf)))

-- The most bytes of a field, five digits and the byte that ends it, and of a row.
abbrev pub most_field : ℕ
most_field = 6

abbrev pub most_row : ℕ
most_row = 30

-- Room that is enough for the rows of any log.
abbrev pub rows_room : ℕ
rows_room = 32000

-- The bytes of the room that are not written yet.
abbrev pub room_left : Reply → ℕ
room_left r = length r.room.now - r.used

-- The bytes of a text stand after those written before; the other bytes of the room are as they were, and it is the room that was lent.
pub record Appends (before after : Reply) (text : List ℕ) : Type 0 where
  pub bytes : after.room.now ≡ replace_range before.room.now before.used (before.used + length text) text
  pub used : after.used ≡ before.used + length text
  pub loan : after.room.ghost_name ≡ before.room.ghost_name
