-- A run: what the clock and the stored bytes are after each of its calls, and the law of it.
use Rattle.std.specs.Prelude.{◌≡◌, ℕ, ◌<◌, true, List, Some, Err, Result, slice_index_or}
use Rattle.memory.specs.Model.{Mem}
use Rattle.calendar.specs.declared.clock.Clock.{Clock}
use Rattle.chip.specs.declared.calls.Answer.{Answer}
use Rattle.chip.specs.declared.calls.Call.{Call}
use Rattle.chip.specs.declared.pins.Pin.{Pin}
use Rattle.chip.specs.declared.refusals.Refusal.{Refusal}
use Rattle.chip.specs.declared.refusals.Refusal.TheVariants.{Unfit}
use Rattle.rules.specs.Law.{Law, first, no_answer}
use Rattle.x1226.specs.declared.state.State.{State}
use Rattle.x1226.specs.Service.{show, pin}
use Rattle.x1226.specs.State.{made}
use Rattle.x1226.specs.Step.{left}

-- The clock that the module holds after the first k calls, each worked as its own contract says.
abbrev pub clock_after : Mem → List Call → ℕ → Clock
clock_after was calls k = (left was (first k calls)).state.timer.clock

-- The bytes that the memory holds after the first k calls.
abbrev pub bytes_after : Mem → List Call → ℕ → List ℕ
bytes_after was calls k = (left was (first k calls)).mem.bytes

-- What `show` answers at a place after the first k calls, as its own contract says.
abbrev pub shown_after : Mem → List Call → ℕ → ℕ → Result ℕ Refusal
shown_after was calls k place = show (left was (first k calls)).state (left was (first k calls)).mem place

-- What `pin` answers after the first k calls, as its own contract says.
abbrev pub pin_after : Mem → List Call → ℕ → Result Pin Refusal
pin_after was calls k = pin (left was (first k calls)).state (left was (first k calls)).mem

-- The law of a run, whole: `was` is the memory at making, `calls` the calls in their order, `rows` the answers.
abbrev pub Lawful : Mem → List Call → List Answer → Type 0
Lawful was calls rows =
    Law was calls rows (clock_after was calls) (bytes_after was calls) (shown_after was calls) (pin_after was calls)

-- Over an unfit memory every call is refused by 3, the service calls too, and module and memory stay as they were.
pub record Unmoved (n : ℕ) (was : Mem) (rows : List Answer) (s : State) (m : Mem) : Type 0 where
  pub row : (k : ℕ) → k < n → slice_index_or rows k no_answer ≡ record { sda = true; refusal = Some Unfit }
  pub state : s ≡ made
  pub mem : m ≡ was
  pub show_refused : (place : ℕ) → show s m place ≡ Err Unfit
  pub pin_refused : pin s m ≡ Err Unfit
