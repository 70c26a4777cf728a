-- What a start, a rise and a fall do.
use Rattle.std.specs.Prelude.{ℕ, ◌+◌, ◌-◌, ◌%◌, Bool, true, false, cond, is_some, Some, None, Option, ◌==◌, nat_lt, slice_index, slice_set}
use Rattle.memory.specs.Model.{Mem}
use Rattle.calendar.specs.Clock.{byte_of}
use Rattle.chip.specs.Bits.{is_zero_bit, shifted}
use Rattle.chip.specs.Counter.{address_in, next_written, next_read, at_status, takes_data}
use Rattle.chip.specs.Places.{place_of}
use Rattle.chip.specs.Registers.{section_of}
use Rattle.chip.specs.Sizes.{register_space, clock_base}
use Rattle.chip.specs.Slaves.{slave_named, area_of, reads}
use Rattle.chip.specs.Status.{status_byte}
use Rattle.chip.specs.declared.calls.Supply.{Supply}
use Rattle.chip.specs.declared.calls.Supply.TheVariants.{Off, Main, Battery}
use Rattle.chip.specs.declared.registers.Section.{Section}
use Rattle.chip.specs.declared.registers.Section.TheVariants.{Alarm0, Alarm1, Control, Clock, Status}
use Rattle.chip.specs.declared.slaves.Area.{Area}
use Rattle.chip.specs.declared.slaves.Area.TheVariants.{Array, Registers}
use Rattle.chip.specs.declared.slaves.Slave.{Slave}
use Rattle.x1226.specs.declared.state.Phase.{Phase}
use Rattle.x1226.specs.declared.state.Phase.TheVariants.{Deaf, Receiving, Acknowledging, Sending, Listening}
use Rattle.x1226.specs.declared.state.State.{State}
use Rattle.x1226.specs.State.{with_phase, with_area, with_high, with_counter, with_staging, with_flags, with_copies, nothing_staged, no_alarms, empty_places}

-- The module pulls SDA for an acknowledge and for a 0 sent.
abbrev pub pulls : Phase → Bool
pulls Deaf = false
pulls (Receiving stage bits shift) = false
pulls (Acknowledging stage byte) = true
pulls (Sending sent byte) = is_zero_bit byte sent
pulls Listening = false

-- A start opens a frame with nothing staged.
abbrev pub started : State → State
started s = with_phase (Receiving 0 0 0) (with_staging nothing_staged s)

-- A rise takes a bit; a high ninth level of a byte sent makes the module deaf.
abbrev pub phase_risen : Bool → Phase → Phase
phase_risen level Deaf = Deaf
phase_risen level (Receiving stage bits shift) = cond (nat_lt bits 8) (Receiving stage (bits + 1) (shifted shift level)) (Receiving stage bits shift)
phase_risen level (Acknowledging stage byte) = Acknowledging stage byte
phase_risen level (Sending sent byte) = Sending sent byte
phase_risen level Listening = cond level Deaf Listening

abbrev pub risen : Bool → State → State
risen level s = with_phase (phase_risen level s.phase) s

-- Whether the byte just received is acknowledged.
abbrev pub takes : State → ℕ → ℕ → Bool
takes s stage byte =
    cond (stage == 0) (is_some (slave_named byte))
    (cond (nat_lt stage 3) true (takes_data s.latches.wel s.area s.staging.address (stage == 3)))

abbrev pub is_battery : Supply → Bool
is_battery Off = false
is_battery Main = false
is_battery Battery = true

-- Status as it stands.
abbrev pub status_of : State → ℕ
status_of s =
    status_byte
    (record {
      bat = is_battery s.supply;
      al1 = s.flags.second;
      al0 = s.flags.first;
      rwel = s.latches.rwel;
      wel = s.latches.wel;
      rtcf = s.timer.rtcf;
    })

-- A register's byte: the memory's; of the clock and of status as copied; 00h at an empty address.
abbrev pub register_to_send : State → Mem → Option Section → ℕ → ℕ
register_to_send s m None r = 0
register_to_send s m (Some Alarm0) r = slice_index m.bytes (place_of Registers r)
register_to_send s m (Some Alarm1) r = slice_index m.bytes (place_of Registers r)
register_to_send s m (Some Control) r = slice_index m.bytes (place_of Registers r)
register_to_send s m (Some Clock) r = byte_of s.copies.clock (r - clock_base)
register_to_send s m (Some Status) r = s.copies.status

abbrev pub to_send : State → Mem → Area → ℕ
to_send s m Array = slice_index m.bytes s.counter
to_send s m Registers = register_to_send s m (section_of (s.counter % register_space)) (s.counter % register_space)

-- The next byte is sent, from its highest bit on.
abbrev pub sending : State → Mem → State
sending s m = with_phase (Sending 0 (to_send s m s.area)) s

-- Clock and status are copied, and no alarm has matched since.
abbrev pub copied : State → State
copied s = with_copies (record { clock = s.timer.clock; status = status_of s; matched = no_alarms }) s

-- The slave byte's acknowledge ends: a read copies and sends, a write goes on to its address.
abbrev pub addressed_as : Option Slave → State → Mem → State
addressed_as None s m = with_phase Deaf s
addressed_as (Some slave) s m =
    cond (reads slave)
    (sending (copied (with_area (area_of slave) s)) m)
    (with_phase (Receiving 1 0 0) (with_area (area_of slave) s))

-- The second address byte's acknowledge ends: the counter takes the address, and the clock is copied.
abbrev pub located : ℕ → State → State
located address s =
    with_phase (Receiving 3 0 0)
    (with_counter address
    (with_staging (record { address = address; held = empty_places })
    (with_copies (record { clock = s.timer.clock; status = s.copies.status; matched = s.copies.matched }) s)))

-- A data byte's acknowledge ends: the byte is staged, and the counter moves on.
abbrev pub staged : ℕ → State → State
staged byte s =
    with_phase (Receiving 4 0 0)
    (with_counter (next_written s.area s.counter)
    (with_staging (record { address = s.staging.address; held = slice_set s.staging.held (s.counter % 64) (Some byte) }) s))

-- An acknowledge ends.
abbrev pub acknowledged : ℕ → ℕ → State → Mem → State
acknowledged stage byte s m =
    cond (stage == 0) (addressed_as (slave_named byte) s m)
    (cond (stage == 1) (with_phase (Receiving 2 0 0) (with_high byte s))
    (cond (stage == 2) (located (address_in s.area s.high byte) s)
    (staged byte s)))

-- The eighth bit of a byte sent is over. Status is sent once, and clears the flags that did not match again since it was copied; else
-- the counter moves on and the master is asked for more.
abbrev pub sent_whole : State → State
sent_whole s =
    cond (at_status s.area s.counter)
    (with_phase Deaf (with_flags s.copies.matched s))
    (with_phase Listening (with_counter (next_read s.area s.counter) s))

-- What a fall does in each phase.
abbrev pub fallen_in : Phase → State → Mem → State
fallen_in Deaf s m = s
fallen_in (Receiving stage bits shift) s m =
    cond (bits == 8) (with_phase (cond (takes s stage shift) (Acknowledging stage shift) Deaf) s) s
fallen_in (Acknowledging stage byte) s m = acknowledged stage byte s m
fallen_in (Sending sent byte) s m = cond (nat_lt sent 7) (with_phase (Sending (sent + 1) byte) s) (sent_whole s)
fallen_in Listening s m = sending s m

abbrev pub fallen : State → Mem → State
fallen s m = fallen_in s.phase s m
