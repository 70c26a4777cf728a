-- Reading a reply: the rows that a text shows, and what a row that was written shows.
use Rattle.std.specs.Prelude.{◌≡◌, ℕ, List, [], ◌∷◌, ◌++◌, map, Some, Option}
use Rattle.runlog.specs.declared.reply.Row.{Row}
use Rattle.runlog.specs.Texts.{lines, words}
use Rattle.runlog.specs.Numbers.{number}
use Rattle.runlog.specs.Reply.{row_text}
use Rattle.runlog.specs.Run.{rows_text}

-- The numbers of a line: each of its words is read as a number of a log is.
abbrev pub numbers_in : List ℕ → List (Option ℕ)
numbers_in line = map number (words line)

-- The same of each line of a text.
abbrev pub rows_read : List ℕ → List (List (Option ℕ))
rows_read text = map numbers_in (lines text)

-- The five numbers of a row, each of which can be read.
abbrev pub columns : Row → List (Option ℕ)
columns r = Some r.line ∷ Some r.sda ∷ Some r.fault ∷ Some r.area ∷ Some r.address ∷ []

-- The text of a row is read back as that row, whatever stands after it.
abbrev pub ReadsBack : Row → Type 0
ReadsBack r = (rest : List ℕ) → rows_read (row_text r ++ rest) ≡ columns r ∷ rows_read rest

-- The text of rows is read back as those rows.
abbrev pub RowsReadBack : List Row → Type 0
RowsReadBack rows = rows_read (rows_text rows) ≡ map columns rows
