-- One second later. Assumes nothing.
use Rattle.std.specs.Prelude.{◌≡◌, ℕ, zero, suc, ◌+◌, ◌/◌, ◌%◌, ◌<◌, true, cond, Some, None, Option, nat_lt}
use Rattle.calendar.specs.declared.clock.Clock.{Clock}
use Rattle.calendar.specs.declared.date.Date.{Date}
use Rattle.calendar.specs.declared.day.Day.{Day}
use Rattle.calendar.specs.declared.time.Time.{Time}
use Rattle.calendar.specs.Dates.{Plus, date_of, exists, first_second, number}
use Rattle.calendar.specs.Digits.{bcd_of}
use Rattle.calendar.specs.Hours.{hours_byte}
use Rattle.calendar.specs.Years.{leap_year, month_length}

-- One second later on the same day; nothing where the day is over.
abbrev pub time_after : Time → Option Time
time_after t =
    cond (nat_lt t.second 59) (Some (record { hour = t.hour; minute = t.minute; second = t.second + 1 }))
    (cond (nat_lt t.minute 59) (Some (record { hour = t.hour; minute = t.minute + 1; second = 0 }))
    (cond (nat_lt t.hour 23) (Some (record { hour = t.hour + 1; minute = 0; second = 0 })) None))

-- After 2099 comes 2000.
abbrev pub year_after : ℕ → ℕ
year_after year = cond (nat_lt year 2099) (year + 1) 2000

-- The next date of the month, else the first of the next month, else 1 January of the next year.
abbrev pub day_after : Day → Day
day_after d =
    cond (nat_lt d.date (month_length (leap_year d.year) d.month)) (record { date = d.date + 1; month = d.month; year = d.year })
    (cond (nat_lt d.month 12) (record { date = 1; month = d.month + 1; year = d.year })
    (record { date = 1; month = 1; year = year_after d.year }))

-- The weekday after 6 is 0.
abbrev pub weekday_after : ℕ → ℕ
weekday_after weekday = cond (nat_lt weekday 6) (weekday + 1) 0

-- The first second of a day.
abbrev pub midnight : Time
midnight = record { hour = 0; minute = 0; second = 0 }

-- A date at its next time of day; where the day is over, the next day and weekday at midnight.
abbrev pub moved : Date → Option Time → Date
moved d (Some t) = record { day = d.day; time = t; weekday = d.weekday; form = d.form }
moved d None = record { day = day_after d.day; time = midnight; weekday = weekday_after d.weekday; form = d.form }

-- One second later.
abbrev pub date_after : Date → Date
date_after d = moved d (time_after d.time)

-- The eight bytes that say a date.
abbrev pub clock_of : Date → Clock
clock_of d = record {
  seconds = bcd_of d.time.second;
  minutes = bcd_of d.time.minute;
  hours = hours_byte d.time.hour d.form;
  date = bcd_of d.day.date;
  month = bcd_of d.day.month;
  year = bcd_of (d.day.year % 100);
  weekday = d.weekday;
  century = bcd_of (d.day.year / 100);
}

-- What the clock shows one second later; bytes that are no date stay as they are.
unfoldable pub next : Clock → Clock
next c = cond (exists c) (clock_of (date_after (date_of c))) c

-- What the clock shows n seconds later.
unfoldable pub after : Clock → ℕ → Clock
after c zero = c
after c (suc n) = next (after c n)

-- n seconds after a date that exists comes a date that exists. It is the date plus n seconds, and no other is; before 2100 its number is n more.
pub record Added (c : Clock) (n : ℕ) : Type 0 where
  pub is_date : exists (after c n) ≡ true
  pub plus : Plus c n (after c n)
  pub no_other : (b : Clock) → exists b ≡ true → Plus c n b → b ≡ after c n
  pub number_more : number c + n < first_second 2100 → number (after c n) ≡ number c + n

-- The same of every n.
abbrev pub StepsAdd : Clock → Type 0
StepsAdd c = (n : ℕ) → exists c ≡ true → Added c n
