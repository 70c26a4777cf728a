-- The past: what an entry of a history is, and the few ways to look back over one.
use Rattle.std.specs.Prelude.{ℕ, suc, Bool, true, false, List, [], ◌∷◌, Some, None, Option}
use Rattle.calendar.specs.declared.clock.Clock.{Clock}
use Rattle.chip.specs.declared.calls.Event.{Event}
use Rattle.chip.specs.declared.calls.Event.TheVariants.{Given, Ticked, Supplied}
use Rattle.chip.specs.declared.calls.Supply.{Supply}
use Rattle.chip.specs.declared.calls.Supply.TheVariants.{Off, Main, Battery}
use Rattle.chip.specs.declared.refusals.Refusal.{Refusal}
use Rattle.chip.specs.declared.slaves.Area.{Area}
use Rattle.chip.specs.declared.wires.Edge.{Edge}
use Rattle.chip.specs.declared.wires.Edge.TheVariants.{Start, Stop, Rise, Fall, Still}
use Rattle.chip.specs.declared.wires.Levels.{Levels}

-- A write that a stop closes: where its first data byte goes, and its data bytes in the order sent.
pub record Write : Type 0 where
  pub area : Area
  pub address : ℕ
  pub bytes : List ℕ

-- What a call did as a stop.
pub data Outcome : Type 0 where
  -- it is no stop, or one that closes no write
  Idle : Outcome
  -- the write was refused
  Refused : Refusal → Outcome
  -- a lawful write: its bytes are stored
  Stored : Write → Outcome
  -- a clock write that passed: these eight bytes wait for the next second mark
  Waits : Clock → Outcome
  -- a status write of this byte
  Status : ℕ → Outcome

-- An entry of a history: a call that was taken, and what came of it.
pub record Entry : Type 0 where
  pub event : Event
  -- what the module heard on the wires
  pub edge : Edge
  -- whether the module pulls SDA after it
  pub pulls : Bool
  pub outcome : Outcome

-- A history: the entries of the calls that were taken, the newest first.
abbrev pub History : Type 0
History = List Entry

-- A moment of a history: an entry, and all that came before it.
pub record Moment : Type 0 where
  pub entry : Entry
  pub before : History

-- The moments of a history, the newest first.
abbrev pub moments : History → List Moment
moments [] = []
moments (e ∷ h) = record { entry = e; before = h } ∷ moments h

-- What the latest moment that has an answer answers.
abbrev pub latest : {A : Type 0} → (Moment → Option A) → List Moment → Option A
latest f [] = None
latest f (m ∷ ms) = elim (f m) [ Some x ↦ Some x | None ↦ latest f ms ]

-- The moments since the latest at which p holds; all of them where it never holds.
abbrev pub since : (Moment → Bool) → List Moment → List Moment
since p [] = []
since p (m ∷ ms) = elim (p m) [ true ↦ [] | false ↦ m ∷ since p ms ]

-- What all the moments that have an answer answer, the newest first.
abbrev pub all_of : {A : Type 0} → (Moment → Option A) → List Moment → List A
all_of f [] = []
all_of f (m ∷ ms) = elim (f m) [ Some x ↦ x ∷ all_of f ms | None ↦ all_of f ms ]

-- At how many moments p holds.
abbrev pub count_of : (Moment → Bool) → List Moment → ℕ
count_of p [] = 0
count_of p (m ∷ ms) = elim (p m) [ true ↦ suc (count_of p ms) | false ↦ count_of p ms ]

-- Whether p holds at some moment.
abbrev pub any_of : (Moment → Bool) → List Moment → Bool
any_of p [] = false
any_of p (m ∷ ms) = elim (p m) [ true ↦ true | false ↦ any_of p ms ]

-- What an event is.

abbrev pub levels_given : Event → Option Levels
levels_given (Given l) = Some l
levels_given Ticked = None
levels_given (Supplied s) = None

abbrev pub supply_given : Event → Option Supply
supply_given (Given l) = None
supply_given Ticked = None
supply_given (Supplied s) = Some s

abbrev pub is_tick : Event → Bool
is_tick (Given l) = false
is_tick Ticked = true
is_tick (Supplied s) = false

abbrev pub is_main : Supply → Bool
is_main Off = false
is_main Main = true
is_main Battery = false

abbrev pub is_off : Supply → Bool
is_off Off = true
is_off Main = false
is_off Battery = false

-- The event ends main supply, or finds it ended.
abbrev pub leaves_main : Event → Bool
leaves_main (Given l) = false
leaves_main Ticked = false
leaves_main (Supplied Off) = true
leaves_main (Supplied Main) = false
leaves_main (Supplied Battery) = true

-- The event takes all supply away, or finds it away.
abbrev pub loses_supply : Event → Bool
loses_supply (Given l) = false
loses_supply Ticked = false
loses_supply (Supplied Off) = true
loses_supply (Supplied Main) = false
loses_supply (Supplied Battery) = false

abbrev pub is_start : Edge → Bool
is_start Start = true
is_start Stop = false
is_start (Rise v) = false
is_start Fall = false
is_start Still = false

abbrev pub is_stop : Edge → Bool
is_stop Start = false
is_stop Stop = true
is_stop (Rise v) = false
is_stop Fall = false
is_stop Still = false

abbrev pub is_fall : Edge → Bool
is_fall Start = false
is_fall Stop = false
is_fall (Rise v) = false
is_fall Fall = true
is_fall Still = false

-- The level that a rise sampled.
abbrev pub rise_level : Edge → Option Bool
rise_level Start = None
rise_level Stop = None
rise_level (Rise v) = Some v
rise_level Fall = None
rise_level Still = None

-- What a stop did.

abbrev pub lawful_write : Outcome → Option Write
lawful_write Idle = None
lawful_write (Refused r) = None
lawful_write (Stored w) = Some w
lawful_write (Waits c) = None
lawful_write (Status b) = None

abbrev pub clock_write : Outcome → Option Clock
clock_write Idle = None
clock_write (Refused r) = None
clock_write (Stored w) = None
clock_write (Waits c) = Some c
clock_write (Status b) = None

abbrev pub status_write : Outcome → Option ℕ
status_write Idle = None
status_write (Refused r) = None
status_write (Stored w) = None
status_write (Waits c) = None
status_write (Status b) = Some b

abbrev pub refusal_of : Outcome → Option Refusal
refusal_of Idle = None
refusal_of (Refused r) = Some r
refusal_of (Stored w) = None
refusal_of (Waits c) = None
refusal_of (Status b) = None
