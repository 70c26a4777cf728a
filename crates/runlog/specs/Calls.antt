-- The value lines of a log, and the calls that they make.
use Rattle.std.specs.Prelude.{ℕ, cond, List, [], ◌∷◌, replicate, Some, None, codes, Option, ◌==◌}
use Rattle.std.specs.Str.{bytes_eq}
use Rattle.chip.specs.declared.calls.Call.{Call}
use Rattle.chip.specs.declared.calls.Call.TheVariants.{Level, Tick, Supply}
use Rattle.runlog.specs.declared.calls.Name.{Name}
use Rattle.runlog.specs.declared.calls.Name.TheVariants.{Level as LevelName, Tick as TickName, Supply as SupplyName}
use Rattle.runlog.specs.declared.calls.LineCall.{LineCall}
use Rattle.runlog.specs.Texts.{words}
use Rattle.runlog.specs.Numbers.{number}

-- The name that a word is.
abbrev pub name_of : List ℕ → Option Name
name_of word =
    cond (bytes_eq word (codes "level")) (Some LevelName)
    (cond (bytes_eq word (codes "tick")) (Some TickName) (cond (bytes_eq word (codes "supply")) (Some SupplyName) None))

-- After tick and supply the second number is 0.
abbrev pub asked : Name → ℕ → ℕ → Option LineCall
asked LevelName one two = Some (record { call = Level one two; times = 1 })
asked TickName one two = cond (two == 0) (Some (record { call = Tick; times = one })) None
asked SupplyName one two = cond (two == 0) (Some (record { call = Supply one; times = 1 })) None

-- A name and two numbers, each of which can be read.
abbrev pub call_of : Option Name → Option ℕ → Option ℕ → Option LineCall
call_of None one two = None
call_of (Some name) None two = None
call_of (Some name) (Some one) None = None
call_of (Some name) (Some one) (Some two) = asked name one two

abbrev pub call_in : List (List ℕ) → Option LineCall
call_in [] = None
call_in (name ∷ []) = None
call_in (name ∷ one ∷ []) = None
call_in (name ∷ one ∷ two ∷ []) = call_of (name_of name) (number one) (number two)
call_in (name ∷ one ∷ two ∷ more ∷ rest) = None

-- What a value line asks for: its words are a name and two numbers, and nothing more; none where it cannot be read.
abbrev pub line_call : List ℕ → Option LineCall
line_call text = call_in (words text)

-- The calls that a line makes, one after the other.
abbrev pub calls_of : LineCall → List Call
calls_of line = replicate line.times line.call
