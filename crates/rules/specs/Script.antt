-- Scripts: lists of calls for frames, in the order in which a terminal makes them.
use Rattle.std.specs.Prelude.{ℕ, zero, suc, ◌/◌, ◌%◌, ◌^◌, true, List, [], ◌∷◌, ◌++◌, reverse, replicate, None}
use Rattle.memory.specs.Model.{Mem}
use Rattle.chip.specs.declared.calls.Answer.{Answer}
use Rattle.chip.specs.declared.calls.Call.{Call}
use Rattle.chip.specs.declared.calls.Call.TheVariants.{Level, Tick, Supply}
use Rattle.rules.specs.Past.{History}
use Rattle.rules.specs.History.{history, answer}

-- SCL falls, SDA takes a level, SCL rises.
abbrev pub pulse : ℕ → List Call
pulse d = Level 0 d ∷ Level 1 d ∷ []

-- n pulses with the bits of a byte from bit n - 1 down.
abbrev pub bits : ℕ → ℕ → List Call
bits zero b = []
bits (suc n) b = pulse (b / 2 ^ n % 2) ++ bits n b

-- A byte, and SDA released for its acknowledge.
abbrev pub byte : ℕ → List Call
byte b = bits 8 b ++ pulse 1

abbrev pub bytes : List ℕ → List Call
bytes [] = []
bytes (b ∷ bs) = byte b ++ bytes bs

-- From both levels high: SDA falls.
abbrev pub start : List Call
start = Level 1 0 ∷ []

-- SDA low, one more rise, and SDA rises.
abbrev pub stop : List Call
stop = Level 0 0 ∷ Level 1 0 ∷ Level 1 1 ∷ []

-- A whole frame.
abbrev pub frame : List ℕ → List Call
frame bs = start ++ (bytes bs ++ stop)

abbrev pub power_up : List Call
power_up = Supply 1 ∷ []

-- n ticks.
abbrev pub ticks : ℕ → List Call
ticks n = replicate n Tick

-- The same, shut: for runs that are too long to compute with.
unfoldable pub tick_run : ℕ → List Call
tick_run n = ticks n

-- The history of a script.
abbrev pub past : Mem → List Call → History
past was calls = history was (reverse calls)

abbrev pub answer_of : Mem → List Call → Answer
answer_of was [] = record { sda = true; refusal = None }
answer_of was (c ∷ cs) = answer was c cs

-- What the last call of a script is answered.
abbrev pub last_answer : Mem → List Call → Answer
last_answer was calls = answer_of was (reverse calls)
