-- The lines of a log, one after the other.
use Rattle.std.specs.Prelude.{◌≡◌, ℕ, ◌+◌, ◌≤◌, List, [], ◌∷◌, length, Some, None, Option, MatchOption}
use Rattle.runlog.specs.declared.lines.Lines.{Lines}
use Rattle.runlog.specs.Texts.{lines}
use Rattle.runlog.specs.Run.{named}

-- The bytes of pieces with one more for each, as of lines with their LF.
abbrev pub bytes_of : List (List ℕ) → ℕ
bytes_of [] = 0
bytes_of (p ∷ ps) = length p + 1 + bytes_of ps

-- The value lines of a log whose first line is the names; with an LF for each they are no longer than the log.
abbrev pub Values : List ℕ → Option Lines → Type 0
Values log r =
    MatchOption r (named (lines log) ≡ None)
    (λ v. (named (lines log) ≡ Some (lines v.rest.now)) × (bytes_of (lines v.rest.now) ≤ length log))
