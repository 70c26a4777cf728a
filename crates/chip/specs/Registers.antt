-- The registers: sections, moves inside a section, and the mask of each stored register.
use Rattle.std.specs.Prelude.{ℕ, ◌+◌, ◌-◌, ◌%◌, cond, List, [], ◌∷◌, Some, None, Option, ◌==◌, bit_and, nat_lt, slice_index}
use Rattle.std.specs.Option.{unwrap_or}
use Rattle.calendar.specs.declared.clock.Clock.{Clock as ClockBytes}
use Rattle.chip.specs.declared.registers.Section.{Section}
use Rattle.chip.specs.declared.registers.Section.TheVariants.{Alarm0, Alarm1, Control, Clock, Status}
use Rattle.chip.specs.Sizes.{clock_base, status_register, lock_register}

-- The first register of each section.
abbrev pub first_of : Section → ℕ
first_of Alarm0 = 0x00
first_of Alarm1 = 0x08
first_of Control = lock_register
first_of Clock = clock_base
first_of Status = status_register

-- The number of registers of each section.
abbrev pub length_of : Section → ℕ
length_of Alarm0 = 8
length_of Alarm1 = 8
length_of Control = 4
length_of Clock = 8
length_of Status = 1

-- The sections are 00h-07h, 08h-0Fh, 10h-13h, 30h-37h, and 3Fh alone; every other address is empty.
abbrev pub section_of : ℕ → Option Section
section_of r =
    cond (nat_lt r 0x08) (Some Alarm0)
    (cond (nat_lt r 0x10) (Some Alarm1)
    (cond (nat_lt r 0x14) (Some Control)
    (cond (nat_lt r 0x30) None
    (cond (nat_lt r 0x38) (Some Clock)
    (cond (r == 0x3F) (Some Status) None)))))

-- One register on inside a section; after its last comes its first.
abbrev pub next_in : Section → ℕ → ℕ
next_in s r = first_of s + ((r - first_of s) % length_of s + 1) % length_of s

abbrev pub next_by : Option Section → ℕ → ℕ
next_by None r = r
next_by (Some s) r = next_in s r

-- One register on inside its section; status is alone, and an empty address does not move.
abbrev pub next_register : ℕ → ℕ
next_register r = next_by (section_of r) r

-- The bits that a write may set in an alarm's registers, and in BL, INT, ATR and DTR.
abbrev pub masks : List ℕ
masks =
    0xFF ∷ 0xFF ∷ 0xBF ∷ 0xBF ∷ 0x9F ∷ 0x00 ∷ 0x87 ∷ 0x39
    ∷ 0xFF ∷ 0xFF ∷ 0xBF ∷ 0xBF ∷ 0x9F ∷ 0x00 ∷ 0x87 ∷ 0x39
    ∷ 0xE0 ∷ 0xF8 ∷ 0x3F ∷ 0x07 ∷ []

-- What a write of a byte stores in a register: the byte under the register's mask; all of it where no mask is listed.
abbrev pub masked : ℕ → ℕ → ℕ
masked r b = cond (nat_lt r 20) (bit_and b (slice_index masks r)) b

-- The clock bytes joined with what was sent to registers 30h to 37h: the byte sent, else the byte as it was.
abbrev pub joined_with : ClockBytes → (ℕ → Option ℕ) → ClockBytes
joined_with c sent =
    record {
      seconds = unwrap_or (sent 0x30) c.seconds;
      minutes = unwrap_or (sent 0x31) c.minutes;
      hours = unwrap_or (sent 0x32) c.hours;
      date = unwrap_or (sent 0x33) c.date;
      month = unwrap_or (sent 0x34) c.month;
      year = unwrap_or (sent 0x35) c.year;
      weekday = unwrap_or (sent 0x36) c.weekday;
      century = unwrap_or (sent 0x37) c.century;
    }
