-- The staging record by itself: how it begins, what is read of it, and how its bytes are stored or refused.
use Rattle.std.specs.Prelude.{ℕ, false, cond, Some, None, Ok, Err, Option, Result, nat_lt, slice_index_or}
use Rattle.memory.specs.Model.{Mem}
use Rattle.calendar.specs.Dates.{first_bad}
use Rattle.calendar.specs.declared.clock.Clock.{Clock}
use Rattle.chip.specs.Locks.{is_locked}
use Rattle.chip.specs.Registers.{joined_with}
use Rattle.chip.specs.declared.refusals.Refusal.{Refusal}
use Rattle.chip.specs.declared.refusals.Refusal.TheVariants.{Worn, RwelOff, NotADate, PageLocked}
use Rattle.chip.specs.declared.slaves.Area.{Area}
use Rattle.chip.specs.declared.slaves.Area.TheVariants.{Array, Registers}
use Rattle.x1226.specs.declared.state.Latches.{Latches}
use Rattle.x1226.specs.declared.state.Staging.{Staging}
use Rattle.x1226.specs.declared.state.Timer.{Timer}
use Rattle.x1226.specs.State.{empty_places}
use Rattle.x1226.specs.Stop.{count_held, stored_held, lock_byte}

-- No byte staged yet, of a write whose first data byte goes to an address.
abbrev pub staged_from : ℕ → Staging
staged_from address = record { address = address; held = empty_places }

-- The byte staged for a register.
abbrev pub sent_to : Staging → ℕ → Option ℕ
sent_to staging register = slice_index_or staging.held register None

-- The answer of a store, and the memory after it.
pub record Stored : Type 0 where
  pub answer : Result Unit Refusal
  pub mem : Mem

abbrev pub refused_by : Refusal → Mem → Stored
refused_by r m = record { answer = Err r; mem = m }

-- The staged bytes go to the memory if its life lasts for all of them.
abbrev pub store : Area → Staging → Mem → Stored
store area g m =
    cond (nat_lt m.life (count_held g.held 64))
    (refused_by (Worn area g.address m.life) m)
    (record { answer = Ok tt; mem = stored_held area g.address g.held 64 m })

-- A page: refused where it is locked, then by the life.
abbrev pub store_page : Staging → Mem → Stored
store_page g m = cond (is_locked (lock_byte m) g.address) (refused_by (PageLocked g.address) m) (store Array g m)

-- Registers: refused where RWEL is off, then by the life.
abbrev pub store_registers : Latches → Staging → Mem → Stored
store_registers l g m = cond l.rwel (store Registers g m) (refused_by (RwelOff g.address) m)

-- The clock bytes that the staged ones make of the clock copied.
abbrev pub clock_joined : Clock → Staging → Clock
clock_joined copied g = joined_with copied (sent_to g)

-- Clock bytes that are no date are refused with the register to blame.
abbrev pub date_checked : Option ℕ → Clock → Result Clock Refusal
date_checked None c = Ok c
date_checked (Some register) c = Err (NotADate register)

-- The clock asked for: refused where RWEL is off, then where it is no date.
abbrev pub date_asked : Latches → Staging → Clock → Result Clock Refusal
date_asked l g copied = cond l.rwel (date_checked (first_bad (clock_joined copied g)) (clock_joined copied g)) (Err (RwelOff g.address))

-- The clock bytes wait for the next second mark, and RTCF goes off.
abbrev pub waiting_for : Clock → Timer → Timer
waiting_for c t = record { rtcf = false; divider = t.divider; clock = t.clock; waiting = Some c }

-- RWEL goes off.
abbrev pub rwel_spent : Latches → Latches
rwel_spent l = record { wel = l.wel; rwel = false }

-- A refusal as the answer of a call.
abbrev pub verdict : Option Refusal → Result Unit Refusal
verdict None = Ok tt
verdict (Some r) = Err r
