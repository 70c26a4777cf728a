-- What a stop does.
use Rattle.std.specs.Prelude.{ℕ, zero, suc, ◌+◌, Bool, true, false, cond, ◌&&◌, List, get_or, Some, None, Option, ◌==◌, nat_lt, slice_index, slice_index_or}
use Rattle.std.specs.Option.{unwrap_or}
use Rattle.memory.specs.Model.{Mem, written}
use Rattle.calendar.specs.Dates.{first_bad}
use Rattle.calendar.specs.declared.clock.Clock.{Clock}
use Rattle.chip.specs.Locks.{is_locked}
use Rattle.chip.specs.Pages.{page_first}
use Rattle.chip.specs.Places.{place_of, stores}
use Rattle.chip.specs.Registers.{section_of, joined_with}
use Rattle.chip.specs.Sizes.{lock_register, status_register, write_cycle}
use Rattle.chip.specs.declared.refusals.Refusal.{Refusal}
use Rattle.chip.specs.declared.refusals.Refusal.TheVariants.{Worn, RwelOff, NotADate, PageLocked}
use Rattle.chip.specs.declared.registers.Section.{Section}
use Rattle.chip.specs.declared.registers.Section.TheVariants.{Alarm0, Alarm1, Control, Clock as ClockSection, Status}
use Rattle.chip.specs.declared.slaves.Area.{Area}
use Rattle.chip.specs.declared.slaves.Area.TheVariants.{Array, Registers}
use Rattle.x1226.specs.declared.state.Phase.{Phase}
use Rattle.x1226.specs.declared.state.Phase.TheVariants.{Deaf, Receiving, Acknowledging, Sending, Listening}
use Rattle.x1226.specs.declared.state.Latches.{Latches}
use Rattle.x1226.specs.declared.state.State.{State}
use Rattle.x1226.specs.State.{with_phase, with_staging, with_latches, with_cycle, with_timer, nothing_staged}

-- What a call leaves, and what it refuses.
pub record Left : Type 0 where
  pub state : State
  pub mem : Mem
  pub refusal : Option Refusal

-- How many of the first n staged places have a byte.
unfoldable pub count_held : List (Option ℕ) → ℕ → ℕ
count_held held zero = 0
count_held held (suc j) = elim (slice_index_or held j None) [ Some b ↦ suc (count_held held j) | None ↦ count_held held j ]

-- The address that staged place j stands for.
abbrev pub address_staged : Area → ℕ → ℕ → ℕ
address_staged Array address j = page_first address + j
address_staged Registers address j = j

abbrev pub store_held : Area → ℕ → ℕ → Option ℕ → Mem → Mem
store_held area address j None m = m
store_held area address j (Some b) m =
    written m (place_of area (address_staged area address j)) (stores area (address_staged area address j) b)

-- The memory after the first n staged places are stored, rising.
unfoldable pub stored_held : Area → ℕ → List (Option ℕ) → ℕ → Mem → Mem
stored_held area address held zero m = m
stored_held area address held (suc j) m =
    store_held area address j (slice_index_or held j None) (stored_held area address held j m)

-- The byte stored for BL.
abbrev pub lock_byte : Mem → ℕ
lock_byte m = slice_index m.bytes (place_of Registers lock_register)

-- Refused: the memory and all but the frame are as before.
abbrev pub refused : Refusal → State → Mem → Left
refused r s m = record { state = s; mem = m; refusal = Some r }

abbrev pub passed : State → Mem → Left
passed s m = record { state = s; mem = m; refusal = None }

-- The staged bytes go to the memory if its life lasts, and a write cycle opens.
abbrev pub storing : State → State → Mem → Left
storing s then m =
    cond (nat_lt m.life (count_held s.staging.held 64))
    (refused (Worn s.area s.staging.address m.life) s m)
    (passed (with_cycle write_cycle then) (stored_held s.area s.staging.address s.staging.held 64 m))

-- An array write: a locked page first, then the life.
abbrev pub array_stop : State → Mem → Left
array_stop s m =
    cond (is_locked (lock_byte m) s.staging.address) (refused (PageLocked s.staging.address) s m) (storing s s m)

abbrev pub rwel_off : State → State
rwel_off s = with_latches (record { wel = s.latches.wel; rwel = false }) s

-- A register write: RWEL first, then the life; RWEL goes off.
abbrev pub register_stop : State → Mem → Left
register_stop s m = cond s.latches.rwel (storing s (rwel_off s) m) (refused (RwelOff s.staging.address) s m)

-- The clock bytes that the staged ones make of the clock copied.
abbrev pub clock_asked : State → Clock
clock_asked s = joined_with s.copies.clock (λ r. get_or s.staging.held r None)

abbrev pub clock_waits : Clock → State → State
clock_waits c s =
    with_timer (record { rtcf = false; divider = s.timer.divider; clock = s.timer.clock; waiting = Some c }) (rwel_off s)

abbrev pub clock_tested : Option ℕ → Clock → State → Mem → Left
clock_tested (Some register) c s m = refused (NotADate register) s m
clock_tested None c s m = passed (clock_waits c s) m

-- A clock write: RWEL first, then the date; RTCF and RWEL go off.
abbrev pub clock_stop : State → Mem → Left
clock_stop s m =
    cond s.latches.rwel
    (clock_tested (first_bad (clock_asked s)) (clock_asked s) s m)
    (refused (RwelOff s.staging.address) s m)

-- What a status write makes of the latches: 02h puts WEL on and RWEL off, 00h puts both off, 06h puts RWEL on where WEL is on.
abbrev pub latches_after : ℕ → Latches → Latches
latches_after byte l =
    cond (byte == 0x02) (record { wel = true; rwel = false })
    (cond (byte == 0x00) (record { wel = false; rwel = false })
    (cond (byte == 0x06) (record { wel = l.wel; rwel = cond l.wel true l.rwel }) l))

abbrev pub status_stop : State → Mem → Left
status_stop s m =
    passed (with_latches (latches_after (unwrap_or (slice_index_or s.staging.held status_register None) 0) s.latches) s) m

abbrev pub section_stop : Option Section → State → Mem → Left
section_stop None s m = passed s m
section_stop (Some Alarm0) s m = register_stop s m
section_stop (Some Alarm1) s m = register_stop s m
section_stop (Some Control) s m = register_stop s m
section_stop (Some ClockSection) s m = clock_stop s m
section_stop (Some Status) s m = status_stop s m

abbrev pub area_stop : Area → State → Mem → Left
area_stop Array s m = array_stop s m
area_stop Registers s m = section_stop (section_of s.staging.address) s m

-- A stop closes a write exactly where one bit of a further byte has come after a data byte.
abbrev pub closes : Phase → Bool
closes Deaf = false
closes (Receiving stage bits shift) = stage == 4 && bits == 1
closes (Acknowledging stage byte) = false
closes (Sending sent byte) = false
closes Listening = false

-- On every way out the module is deaf and nothing is staged.
abbrev pub ended : Left → Left
ended l = record { state = with_phase Deaf (with_staging nothing_staged l.state); mem = l.mem; refusal = l.refusal }

abbrev pub stopped : State → Mem → Left
stopped s m = ended (cond (closes s.phase) (area_stop s.area s m) (passed s m))
