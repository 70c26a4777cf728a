-- The law over every run: what is promised of a module made over a fit memory and worked by any list of calls.
use Rattle.std.specs.Prelude.{◌≡◌, ℕ, zero, suc, ◌+◌, ◌<◌, ◌≤◌, Bool, true, false, not, ◌&&◌, List, [], ◌∷◌, reverse, length, get_or, take, is_some, None, Ok, Err, Option, Result, slice_index, slice_index_or}
use Rattle.std.specs.Option.{unwrap_or}
use Rattle.memory.specs.Model.{Mem}
use Rattle.memory.specs.Sizes.{places}
use Rattle.calendar.specs.Dates.{exists, Plus}
use Rattle.calendar.specs.declared.clock.Clock.{Clock}
use Rattle.chip.specs.Calls.{accepted}
use Rattle.chip.specs.Slaves.{slave_named}
use Rattle.chip.specs.declared.calls.Answer.{Answer}
use Rattle.chip.specs.declared.calls.Call.{Call}
use Rattle.chip.specs.declared.calls.Call.TheVariants.{Tick}
use Rattle.chip.specs.declared.calls.Event.{Event}
use Rattle.chip.specs.declared.calls.Event.TheVariants.{Given, Ticked, Supplied}
use Rattle.chip.specs.declared.pins.Pin.{Pin}
use Rattle.chip.specs.declared.refusals.Refusal.{Refusal}
use Rattle.chip.specs.declared.wires.Levels.{Levels}
use Rattle.rules.specs.Past.{History, is_main, lawful_write}
use Rattle.rules.specs.Wires.{levels, hears, wire_level, edge_heard}
use Rattle.rules.specs.Frames.{number_from}
use Rattle.rules.specs.Stored.{sent_to}
use Rattle.rules.specs.Clock.{taken_over, marks_since}
use Rattle.rules.specs.History.{history, outcome_at, answer}
use Rattle.rules.specs.Show.{show_answer, pin}

-- Call k of a list, in the order in which the calls are made.
abbrev pub call_at : List Call → ℕ → Call
call_at calls k = slice_index_or calls k Tick

-- The first k calls, the newest first.
abbrev pub first : ℕ → List Call → List Call
first k calls = reverse (take k calls)

-- The history of the first k calls.
abbrev pub history_at : Mem → List Call → ℕ → History
history_at was calls k = history was (first k calls)

-- What stands on no row.
abbrev pub no_answer : Answer
no_answer = record { sda = true; refusal = None }

-- Every call is answered as the rules say.
abbrev pub Answers : Mem → List Call → List Answer → Type 0
Answers was calls rows =
    (k : ℕ) → k < length calls → slice_index_or rows k no_answer ≡ answer was (call_at calls k) (first k calls)

-- Before the first call and after each, the clock holds a date that exists.
abbrev pub Exists : List Call → (ℕ → Clock) → Type 0
Exists calls clock_after = (k : ℕ) → k ≤ length calls → exists (clock_after k) ≡ true

-- That date is the one taken over last and one second more for each second mark since, while this lies before 2100.
abbrev pub Counts : Mem → List Call → (ℕ → Clock) → Type 0
Counts was calls clock_after =
    (k : ℕ) → k ≤ length calls
    → Plus (taken_over (history_at was calls k)) (marks_since (history_at was calls k)) (clock_after k)

abbrev pub sent_by : Mem → Result Event Refusal → History → ℕ → Option ℕ
sent_by was (Err r) h p = None
sent_by was (Ok e) h p = sent_to p (lawful_write (outcome_at was (edge_heard e h) h))

-- The byte that call k last sends to a place, where it is a stop that closes a lawful write.
abbrev pub sent : Mem → List Call → ℕ → ℕ → Option ℕ
sent was calls k p = sent_by was (accepted (call_at calls k)) (history_at was calls k) p

-- A stored byte changes at a call exactly when that call is a stop closing a lawful write that last sends its place another byte, and
-- then holds that byte: after a call each place holds the byte that the call sends it, else the byte it held.
abbrev pub Keeps : Mem → List Call → (ℕ → List ℕ) → Type 0
Keeps was calls bytes_after =
    (bytes_after 0 ≡ was.bytes)
    × ((k p : ℕ) → k < length calls → p < places
    → slice_index (bytes_after (suc k)) p ≡ unwrap_or (sent was calls k p) (slice_index (bytes_after k) p))

-- Before the first call and after each, every place shows what the rules say: the byte stored there, the clock's byte, or status with
-- its flags and latches; a place above that of status is refused.
abbrev pub Shows : Mem → List Call → (ℕ → ℕ → Result ℕ Refusal) → Type 0
Shows was calls shown_after =
    (k p : ℕ) → k ≤ length calls → shown_after k p ≡ show_answer was (history_at was calls k) p

-- Before the first call and after each, the pin does what the rules say.
abbrev pub Pins : Mem → List Call → (ℕ → Result Pin Refusal) → Type 0
Pins was calls pin_after = (k : ℕ) → k ≤ length calls → pin_after k ≡ Ok (pin was (history_at was calls k))

-- SCL after a call against SCL before it.
abbrev pub rises_at : Mem → List Call → ℕ → Bool
rises_at was calls k = not (levels (history_at was calls k)).scl && (levels (history_at was calls (suc k))).scl

abbrev pub falls_at : Mem → List Call → ℕ → Bool
falls_at was calls k = (levels (history_at was calls k)).scl && not (levels (history_at was calls (suc k))).scl

-- At how many of the n calls from call i on a test holds.
abbrev pub count_from : (ℕ → Bool) → ℕ → ℕ → ℕ
count_from p i zero = 0
count_from p i (suc n) = elim (p (i + n)) [ true ↦ suc (count_from p i n) | false ↦ count_from p i n ]

-- The call gives SDA high, or is refused, a tick, or a supply that keeps main.
abbrev pub releases : Result Event Refusal → Bool
releases (Err r) = true
releases (Ok (Given l)) = l.sda
releases (Ok Ticked) = true
releases (Ok (Supplied s)) = is_main s

-- Call i, on main supply outside a write cycle, gives SCL low and SDA high; SDA stays high in the n calls after it (refused calls, ticks
-- and supplies that keep main may come between), and SCL rises ten times in them. Then at one of these rises the wire is high, which
-- the call's answer shows, and the bus hears.
abbrev pub Frees : Mem → List Call → List Answer → Type 0
Frees was calls rows =
    (i n : ℕ) → i + n < length calls
    → hears (history_at was calls i) ≡ true
    → accepted (call_at calls i) ≡ Ok (Given (record { scl = false; sda = true }))
    → ((k : ℕ) → i < k → k ≤ i + n → releases (accepted (call_at calls k)) ≡ true)
    → count_from (rises_at was calls) (i + 1) n ≡ 10
    → (k : ℕ) × ((i < k) × (k ≤ i + n) × (rises_at was calls k ≡ true)
    × (wire_level (history_at was calls (suc k)) ≡ true) × ((get_or rows k no_answer).sda ≡ true)
    × (hears (history_at was calls (suc k)) ≡ true))

-- The call leaves SDA as it is where SCL was high and stays so; a refused call, a tick and a supply that keeps main do so too.
abbrev pub leaves_sda : Levels → Result Event Refusal → Bool
leaves_sda before (Err r) = true
leaves_sda before (Ok (Given l)) =
    elim (before.scl && l.scl) [
      | true ↦ elim before.sda [ true ↦ l.sda | false ↦ not l.sda ]
      | false ↦ true
    ]
leaves_sda before (Ok Ticked) = true
leaves_sda before (Ok (Supplied s)) = is_main s

-- The call is no supply, or one that keeps main.
abbrev pub keeps_main : Result Event Refusal → Bool
keeps_main (Err r) = true
keeps_main (Ok (Given l)) = true
keeps_main (Ok Ticked) = true
keeps_main (Ok (Supplied s)) = is_main s

-- The master's SDA at the rises among the n calls from call i on, the oldest first after those in hand.
abbrev pub bits_from : Mem → List Call → ℕ → ℕ → List Bool → List Bool
bits_from was calls i zero later = later
bits_from was calls i (suc n) later =
    elim (rises_at was calls (i + n)) [
      | true ↦ bits_from was calls i n ((levels (history_at was calls (suc (i + n)))).sda ∷ later)
      | false ↦ bits_from was calls i n later
    ]

-- Call i is a start: on main supply outside a write cycle SCL is high, the wire is high, and SDA goes low. In the n calls after it main
-- supply lasts, SCL falls nine times, until the ninth fall SDA does not move while SCL stays high, and the master's SDA at the eight
-- rises before the ninth fall is one of our slave bytes. Then the last of these calls is answered by 0: so is every call from the
-- ninth fall on until the tenth.
abbrev pub Hears : Mem → List Call → List Answer → Type 0
Hears was calls rows =
    (i n m : ℕ) → i + n + m < length calls
    → hears (history_at was calls i) ≡ true
    → (levels (history_at was calls i)).scl ≡ true
    → wire_level (history_at was calls i) ≡ true
    → accepted (call_at calls i) ≡ Ok (Given (record { scl = true; sda = false }))
    → ((k : ℕ) → i < k → k ≤ i + n → leaves_sda (levels (history_at was calls k)) (accepted (call_at calls k)) ≡ true)
    → count_from (falls_at was calls) (i + 1) n ≡ 9
    → falls_at was calls (i + n) ≡ true
    → is_some (slave_named (number_from 0 (bits_from was calls (i + 1) n []))) ≡ true
    → ((k : ℕ) → i + n < k → k ≤ i + n + m → keeps_main (accepted (call_at calls k)) ≡ true)
    → count_from (falls_at was calls) (i + n + 1) m ≡ 0
    → (get_or rows (i + n + m) no_answer).sda ≡ false

-- The law, whole. `rows` are the answers; after the first k calls `clock_after k` and `bytes_after k` are the clock and the stored bytes,
-- `shown_after k place` is what a board is shown at a place, and `pin_after k` what it is told of the pin.
pub record Law (was : Mem) (calls : List Call) (rows : List Answer) (clock_after : ℕ → Clock) (bytes_after : ℕ → List ℕ) (shown_after : ℕ → ℕ → Result ℕ Refusal) (pin_after : ℕ → Result Pin Refusal) : Type 0 where
  -- every call answers as the rules say
  pub answers : Answers was calls rows
  -- the clock always holds a date that exists
  pub dates : Exists calls clock_after
  -- which is the date last taken over plus one second for each second mark since, while before 2100
  pub counts : Counts was calls clock_after
  -- a stored byte changes exactly at a stop that closes a lawful write which last sends its place another byte
  pub keeps : Keeps was calls bytes_after
  -- every place shows what the rules say: stored bytes, clock and status, with its flags and latches
  pub shows : Shows was calls shown_after
  -- the pin does what the rules say
  pub pins : Pins was calls pin_after
  -- ten clock pulses with SDA released include one with the wire high
  pub frees : Frees was calls rows
  -- a start is heard: whichever of our slave bytes is sent next is acknowledged
  pub hears_start : Hears was calls rows
