-- The eight clock bytes in the order of their registers, 30h to 37h. Assumes nothing.
use Rattle.std.specs.Prelude.{ℕ, List, [], ◌∷◌, slice_index, slice_set}
use Rattle.calendar.specs.declared.clock.Clock.{Clock}
use Rattle.calendar.specs.declared.clock.Register.{Register}
use Rattle.calendar.specs.declared.clock.Register.TheVariants.{Seconds, Minutes, Hours, Date, Month, Year, Weekday, Century}

-- The registers of the eight bytes.
abbrev pub register_number : Register → ℕ
register_number Seconds = 0x30
register_number Minutes = 0x31
register_number Hours = 0x32
register_number Date = 0x33
register_number Month = 0x34
register_number Year = 0x35
register_number Weekday = 0x36
register_number Century = 0x37

-- The eight bytes: seconds, minutes, hours, date, month, year, weekday, century.
abbrev pub listed : Clock → List ℕ
listed c = c.seconds ∷ c.minutes ∷ c.hours ∷ c.date ∷ c.month ∷ c.year ∷ c.weekday ∷ c.century ∷ []

-- The clock of eight bytes.
abbrev pub unlisted : List ℕ → Clock
unlisted bytes = record {
  seconds = slice_index bytes 0;
  minutes = slice_index bytes 1;
  hours = slice_index bytes 2;
  date = slice_index bytes 3;
  month = slice_index bytes 4;
  year = slice_index bytes 5;
  weekday = slice_index bytes 6;
  century = slice_index bytes 7;
}

-- Byte k, of register 30h + k; 0 past the last.
abbrev pub byte_of : Clock → ℕ → ℕ
byte_of c k = slice_index (listed c) k

-- The clock with byte k replaced by the byte sent; past the last nothing changes.
abbrev pub joined : Clock → ℕ → ℕ → Clock
joined c k byte = unlisted (slice_set (listed c) k byte)

-- 1 January 2000, 12:00:00 AM.
abbrev pub start_date : Clock
start_date = unlisted (0x00 ∷ 0x00 ∷ 0x12 ∷ 0x01 ∷ 0x01 ∷ 0x00 ∷ 0x00 ∷ 0x20 ∷ [])
