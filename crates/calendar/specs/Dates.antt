-- Dates that exist, the number of a date, and a date plus n seconds. Assumes nothing.
use Rattle.std.specs.Prelude.{◌≡◌, ℕ, ◌+◌, ◌-◌, ◌*◌, ◌/◌, ◌%◌, Bool, true, cond, not, ◌||◌, is_some, Some, None, Option, Ok, Err, Result, ◌==◌, nat_le, nat_lt}
use Rattle.std.specs.Option.{option_map}
use Rattle.calendar.specs.declared.clock.Clock.{Clock}
use Rattle.calendar.specs.declared.clock.Register.{Register}
use Rattle.calendar.specs.declared.clock.Register.TheVariants.{Seconds, Minutes, Hours, Date as DateRegister, Month, Year, Weekday, Century}
use Rattle.calendar.specs.declared.date.Date.{Date}
use Rattle.calendar.specs.declared.day.Day.{Day}
use Rattle.calendar.specs.declared.time.Time.{Time}
use Rattle.calendar.specs.Clock.{register_number}
use Rattle.calendar.specs.Digits.{count_of, in_range}
use Rattle.calendar.specs.Hours.{form_of, good_hours, hour_of}
use Rattle.calendar.specs.Years.{days_before_month, days_before_year, leap_year, month_length}

-- The day that the eight bytes say.
abbrev pub day_of : Clock → Day
day_of c = record {
  date = count_of c.date;
  month = count_of c.month;
  year = 100 * count_of c.century + count_of c.year;
}

-- The time of day that they say.
abbrev pub time_of : Clock → Time
time_of c = record { hour = hour_of c.hours; minute = count_of c.minutes; second = count_of c.seconds }

-- All that they say: the day, the time of day, the weekday and the hour form.
abbrev pub date_of : Clock → Date
date_of c = record { day = day_of c; time = time_of c; weekday = c.weekday; form = form_of c.hours }

-- The month has the date.
abbrev pub in_month : Day → Bool
in_month d = nat_le d.date (month_length (leap_year d.year) d.month)

-- A register is the first bad one unless its test passes.
abbrev pub unless : Bool → Register → Option Register → Option Register
unless good register rest = cond good rest (Some register)

-- The first register bad by itself; else that of the date where the month lacks it.
abbrev pub bad_register : Clock → Option Register
bad_register c =
    unless (in_range c.seconds 0 59) Seconds
    (unless (in_range c.minutes 0 59) Minutes
    (unless (good_hours c.hours) Hours
    (unless (in_range c.date 1 31) DateRegister
    (unless (in_range c.month 1 12) Month
    (unless (in_range c.year 0 99) Year
    (unless (nat_le c.weekday 6) Weekday
    (unless (c.century == 0x19 || c.century == 0x20) Century
    (unless (in_month (day_of c)) DateRegister None))))))))

-- A value where no register is bad, else the register to blame.
abbrev pub unless_bad : {A : Type 0} → Option Register → A → Result A Register
unless_bad None x = Ok x
unless_bad (Some register) x = Err register

-- The number of that register, 30h to 37h.
unfoldable pub first_bad : Clock → Option ℕ
first_bad c = option_map register_number (bad_register c)

-- Eight bytes are a date that exists where nothing is bad.
abbrev pub exists : Clock → Bool
exists c = not (is_some (first_bad c))

-- The days from 1 January 1900.
abbrev pub day_number : Day → ℕ
day_number d = days_before_year d.year + days_before_month (leap_year d.year) d.month + (d.date - 1)

-- The seconds since midnight.
abbrev pub second_of_day : Time → ℕ
second_of_day t = 3600 * t.hour + 60 * t.minute + t.second

-- The seconds since 1900 began, 86,400 a day.
abbrev pub seconds_of : Date → ℕ
seconds_of d = 86400 * day_number d.day + second_of_day d.time

-- The number of a date: the seconds from the beginning of 1900 to what its bytes say.
unfoldable pub number : Clock → ℕ
number c = seconds_of (date_of c)

-- A date that exists is fixed by its number, its hour form and its weekday.
abbrev pub Fixed : Clock → Type 0
Fixed a =
    (b : Clock) → exists a ≡ true → exists b ≡ true → number a ≡ number b → form_of a.hours ≡ form_of b.hours → a.weekday ≡ b.weekday → a ≡ b

-- The number of the first second of a year.
abbrev pub first_second : ℕ → ℕ
first_second year = 86400 * days_before_year year

-- The number shown after s seconds: s itself before 2100; from there on the hundred years from 2000 come again and again.
abbrev pub rolled : ℕ → ℕ
rolled s = cond (nat_lt s (first_second 2100)) s (first_second 2000 + (s - first_second 2100) % (first_second 2100 - first_second 2000))

-- The midnights that n seconds from the number s on come to.
abbrev pub midnights : ℕ → ℕ → ℕ
midnights s n = (s + n) / 86400 - s / 86400

-- b is a plus n seconds: the number of a plus n, the same hour form, and the weekday moved on at each midnight, 6 to 0.
pub record Plus (a : Clock) (n : ℕ) (b : Clock) : Type 0 where
  pub number_moved : number b ≡ rolled (number a + n)
  pub form_kept : form_of b.hours ≡ form_of a.hours
  pub weekday_moved : b.weekday ≡ (a.weekday + midnights (number a) n) % 7
