-- The stop: when it closes a write, and what becomes of the write.
use Rattle.std.specs.Prelude.{ℕ, zero, suc, ◌-◌, ◌/◌, ◌%◌, Bool, true, false, ◌&&◌, List, [], ◌∷◌, ◌++◌, map, length, Some, None, Option, ◌==◌, nat_eq, nat_le, nat_lt}
use Rattle.std.specs.Option.{unwrap_or}
use Rattle.memory.specs.Model.{Mem}
use Rattle.calendar.specs.Dates.{first_bad}
use Rattle.calendar.specs.declared.clock.Clock.{Clock}
use Rattle.chip.specs.Places.{place_of}
use Rattle.chip.specs.Sizes.{lock_register, status_register}
use Rattle.chip.specs.Locks.{is_locked}
use Rattle.chip.specs.Registers.{section_of, joined_with}
use Rattle.chip.specs.declared.refusals.Refusal.TheVariants.{Worn, RwelOff, NotADate, PageLocked}
use Rattle.chip.specs.declared.registers.Section.{Section}
use Rattle.chip.specs.declared.registers.Section.TheVariants.{Alarm0, Alarm1, Control, Clock as ClockSection, Status as StatusSection}
use Rattle.chip.specs.declared.slaves.Area.{Area}
use Rattle.chip.specs.declared.slaves.Area.TheVariants.{Array, Registers}
use Rattle.rules.specs.Past.{History, Moment, Write, Outcome, Idle, Refused, Stored, Waits, Status, moments, latest, since, is_start, is_fall}
use Rattle.rules.specs.Frames.{Sample, in_frame, sampled, acknowledged, slave, area_written, address, data_byte}
use Rattle.rules.specs.Stored.{stored, life_left, cost, sent_raw}
use Rattle.rules.specs.Latches.{rwel}
use Rattle.rules.specs.Clock.{clock}

-- 0, 1 and so on, n numbers.
abbrev pub up : ℕ → List ℕ
up zero = []
up (suc n) = up n ++ (n ∷ [])

-- A stop acts only after exactly 9n + 1 rises since the last start, n at least 4, with every byte acknowledged.
abbrev pub complete : List Sample → Bool
complete xs =
    elim (length xs % 9 == 1 && nat_le 4 (length xs / 9)) [ true ↦ acknowledged (length xs / 9) xs | false ↦ false ]

-- The write that a complete frame asks for: all its bytes after the two address bytes are data.
abbrev pub write_in : Area → List Sample → Write
write_in area xs =
    record { area = area; address = address area xs; bytes = map (data_byte xs) (up (length xs / 9 - 3)) }

abbrev pub closes_in : Option Area → List Sample → Option Write
closes_in None xs = None
closes_in (Some area) xs = elim (complete xs) [ true ↦ Some (write_in area xs) | false ↦ None ]

-- The write that a stop closes.
abbrev pub closes : History → Option Write
closes h = elim (in_frame h) [ true ↦ closes_in (area_written (slave (sampled h))) (sampled h) | false ↦ None ]

-- The fall that ends the second address byte's acknowledge.
abbrev pub addresses : Moment → Bool
addresses m = elim (is_fall m.entry.edge) [ true ↦ nat_eq (length (sampled m.before)) 27 | false ↦ false ]

-- The clock as copied there, for a clock write to join its bytes to.
abbrev pub clock_addressed : History → Clock
clock_addressed h =
    clock
    (unwrap_or
    (latest (λ m. elim (addresses m) [ true ↦ Some m.before | false ↦ None ]) (since (λ m. is_start m.entry.edge) (moments h)))
    h)

-- The eight bytes that a clock write asks for: to each register the last byte sent to it, else the byte copied.
abbrev pub clock_asked : History → Write → Clock
clock_asked h w = joined_with (clock_addressed h) (λ r. sent_raw w (place_of Registers r))

-- A life below the number of different places is refused by 5; else the write is lawful.
abbrev pub stored_or_worn : Mem → History → Write → Outcome
stored_or_worn was h w =
    elim (nat_lt (life_left was h) (cost w)) [
      | true ↦ Refused (Worn w.area w.address (life_left was h))
      | false ↦ Stored w
    ]

-- Array: a locked page is refused by 8; then the life counts.
abbrev pub array_outcome : Mem → History → Write → Outcome
array_outcome was h w =
    elim (is_locked (stored was h (place_of Registers lock_register)) w.address) [
      | true ↦ Refused (PageLocked w.address)
      | false ↦ stored_or_worn was h w
    ]

-- Registers 00h to 13h: RWEL off is refused by 6; then the life counts.
abbrev pub register_outcome : Mem → History → Write → Outcome
register_outcome was h w =
    elim (rwel h) [ true ↦ stored_or_worn was h w | false ↦ Refused (RwelOff w.address) ]

-- Eight bytes that are a date wait; else the register that is bad is named, by 7.
abbrev pub waits_or_bad : Clock → Option ℕ → Outcome
waits_or_bad c None = Waits c
waits_or_bad c (Some register) = Refused (NotADate register)

-- Clock: RWEL off is refused by 6; then the joined bytes must be a date.
abbrev pub clock_outcome : History → Write → Outcome
clock_outcome h w =
    elim (rwel h) [
      | true ↦
          waits_or_bad (clock_asked h w) (first_bad (clock_asked h w))
      | false ↦ Refused (RwelOff w.address)
    ]

abbrev pub section_outcome : Mem → History → Write → Option Section → Outcome
section_outcome was h w None = Idle
section_outcome was h w (Some Alarm0) = register_outcome was h w
section_outcome was h w (Some Alarm1) = register_outcome was h w
section_outcome was h w (Some Control) = register_outcome was h w
section_outcome was h w (Some ClockSection) = clock_outcome h w
section_outcome was h w (Some StatusSection) = Status (unwrap_or (sent_raw w (place_of Registers status_register)) 0)

abbrev pub area_outcome : Mem → History → Write → Area → Outcome
area_outcome was h w Array = array_outcome was h w
area_outcome was h w Registers = section_outcome was h w (section_of w.address)

-- What becomes of the write that a stop closes.
abbrev pub outcome_of : Mem → History → Option Write → Outcome
outcome_of was h None = Idle
outcome_of was h (Some w) = area_outcome was h w w.area
