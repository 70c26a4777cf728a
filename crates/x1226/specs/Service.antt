-- What a board is told without the bus: the byte at a place, and the pin. Nothing changes by it.
use Rattle.std.specs.Prelude.{ℕ, ◌+◌, ◌-◌, ◌/◌, ◌%◌, Bool, cond, ◌&&◌, ◌||◌, Ok, Err, Result, ◌==◌, nat_lt, slice_index}
use Rattle.memory.specs.Model.{Mem}
use Rattle.memory.specs.Sizes.{places}
use Rattle.calendar.specs.Clock.{byte_of}
use Rattle.chip.specs.Places.{place_of}
use Rattle.chip.specs.Registers.{length_of}
use Rattle.chip.specs.Sizes.{interrupt_register, second}
use Rattle.chip.specs.declared.pins.Pin.{Pin}
use Rattle.chip.specs.declared.pins.Pin.TheVariants.{Low, Released, Crystal}
use Rattle.chip.specs.declared.refusals.Refusal.{Refusal}
use Rattle.chip.specs.declared.refusals.Refusal.TheVariants.{Unfit, BadPlace}
use Rattle.chip.specs.declared.registers.Section.TheVariants.{Clock}
use Rattle.chip.specs.declared.slaves.Area.TheVariants.{Registers}
use Rattle.x1226.specs.declared.state.State.{State}
use Rattle.x1226.specs.Frame.{status_of}
use Rattle.x1226.specs.Timer.{is_supplied}

-- The place at which status is shown: after the stored bytes and those of the clock. It is the last.
abbrev pub status_place : ℕ
status_place = places + length_of Clock

-- The byte at a place: the memory's, then the clock's and status as they stand.
abbrev pub byte_shown : State → Mem → ℕ → ℕ
byte_shown s m place =
    cond (nat_lt place places) (slice_index m.bytes place)
    (cond (nat_lt place status_place) (byte_of s.timer.clock (place - places)) (status_of s))

-- The byte at a place up to that of status; a place above it is refused.
abbrev pub shown : State → Mem → ℕ → Result ℕ Refusal
shown s m place = cond (nat_lt status_place place) (Err (BadPlace place)) (Ok (byte_shown s m place))

-- What `show` answers: an unfit memory is refused first, then a place above that of status.
abbrev pub show : State → Mem → ℕ → Result ℕ Refusal
show s m place = cond m.fit (shown s m place) (Err Unfit)

-- The byte stored for INT.
abbrev pub interrupt_byte : Mem → ℕ
interrupt_byte m = slice_index m.bytes (place_of Registers interrupt_register)

-- The byte stored at a place; an unfit memory is refused.
abbrev pub byte_read : Mem → ℕ → Result ℕ Refusal
byte_read m place = cond m.fit (Ok (slice_index m.bytes place)) (Err Unfit)

-- The byte stored for INT; an unfit memory is refused.
abbrev pub interrupt_read : Mem → Result ℕ Refusal
interrupt_read m = byte_read m (place_of Registers interrupt_register)

-- AL1 is on with INT bit 6, or AL0 with INT bit 5.
abbrev pub alarm_interrupts : State → ℕ → Bool
alarm_interrupts s int = (s.flags.second && int / 64 % 2 == 1) || (s.flags.first && int / 32 % 2 == 1)

-- The pin is low while this holds, else released.
abbrev pub low_while : Bool → Pin
low_while b = cond b Low Released

-- The pin by INT bits 4 and 3: 00 by the alarms; 01 the crystal; 10 low in the first half of each eight ticks; 11 low in the first
-- half of each second.
abbrev pub pin_by : State → ℕ → Pin
pin_by s int =
    cond (int / 8 % 4 == 0) (low_while (alarm_interrupts s int))
    (cond (int / 8 % 4 == 1) Crystal
    (cond (int / 8 % 4 == 2) (low_while (nat_lt (s.timer.divider % 8) 4))
    (low_while (nat_lt s.timer.divider (second / 2)))))

-- The pin as it stands: by INT while supplied, else released.
abbrev pub pin_shown : State → Mem → Pin
pin_shown s m = cond (is_supplied s.supply) (pin_by s (interrupt_byte m)) Released

-- What `pin` answers: an unfit memory is refused.
abbrev pub pin : State → Mem → Result Pin Refusal
pin s m = cond m.fit (Ok (pin_shown s m)) (Err Unfit)
