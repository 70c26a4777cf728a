-- What a board sees without the bus: the bytes shown, and the pin.
use Rattle.std.specs.Prelude.{ℕ, ◌+◌, ◌-◌, ◌/◌, ◌%◌, Bool, true, false, cond, ◌&&◌, Ok, Err, Result, ◌==◌, nat_lt}
use Rattle.memory.specs.Model.{Mem}
use Rattle.memory.specs.Sizes.{places}
use Rattle.calendar.specs.Clock.{byte_of}
use Rattle.chip.specs.Places.{place_of}
use Rattle.chip.specs.Registers.{length_of}
use Rattle.chip.specs.Sizes.{interrupt_register, second}
use Rattle.chip.specs.declared.pins.Pin.{Pin}
use Rattle.chip.specs.declared.pins.Pin.TheVariants.{Low, Released, Crystal}
use Rattle.chip.specs.declared.refusals.Refusal.{Refusal}
use Rattle.chip.specs.declared.refusals.Refusal.TheVariants.{BadPlace}
use Rattle.chip.specs.declared.registers.Section.TheVariants.{Alarm0, Alarm1, Clock as ClockSection}
use Rattle.chip.specs.declared.slaves.Area.TheVariants.{Registers}
use Rattle.rules.specs.Past.{History}
use Rattle.rules.specs.Wires.{supplied}
use Rattle.rules.specs.Stored.{stored}
use Rattle.rules.specs.Clock.{clock, divider}
use Rattle.rules.specs.Alarms.{flag}
use Rattle.rules.specs.Reads.{status}

-- The byte shown at a place up to 540: the stored bytes first, then the eight clock bytes, then status. Showing clears no flag.
abbrev pub shown : Mem → History → ℕ → ℕ
shown was h p =
    elim (nat_lt p places) [
      | true ↦ stored was h p
      | false ↦ elim (nat_lt p (places + 8)) [ true ↦ byte_of (clock h) (p - places) | false ↦ status was h ]
    ]

-- The place at which status is shown, the last: it comes after the stored bytes and those of the clock.
abbrev pub status_place : ℕ
status_place = places + length_of ClockSection

-- What a board is answered that asks for the byte at a place: a place above that of status is refused.
abbrev pub show_answer : Mem → History → ℕ → Result ℕ Refusal
show_answer was h p = elim (nat_lt status_place p) [ true ↦ Err (BadPlace p) | false ↦ Ok (shown was h p) ]

abbrev pub low_while : Bool → Pin
low_while b = cond b Low Released

abbrev pub either : Bool → Bool → Bool
either true b = true
either false b = b

-- Bit k of a byte is on, given 2 to the k.
abbrev pub bit_on : ℕ → ℕ → Bool
bit_on b 2^k = b / 2^k % 2 == 1

-- INT bits 4 and 3: 00 low when AL1 with INT bit 6, or AL0 with INT bit 5, is on; 01 the crystal; 10 low while the divider modulo 8 is
-- below 4; 11 low while the divider is in its first half.
abbrev pub pin_by : Mem → History → ℕ → Pin
pin_by was h int =
    elim (int / 8 % 4 == 0) [
      | true ↦ low_while (either (flag was Alarm1 h && bit_on int 64) (flag was Alarm0 h && bit_on int 32))
      | false ↦
          elim (int / 8 % 4 == 1) [
            | true ↦ Crystal
            | false ↦
                elim (int / 8 % 4 == 2) [
                  | true ↦ low_while (nat_lt (divider h % 8) 4)
                  | false ↦ low_while (nat_lt (divider h) (second / 2))
                ]
          ]
    ]

-- The pin: as INT says; released without supply.
abbrev pub pin : Mem → History → Pin
pin was h =
    elim (supplied h) [ true ↦ pin_by was h (stored was h (place_of Registers interrupt_register)) | false ↦ Released ]
