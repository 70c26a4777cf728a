-- The text of a date. Assumes nothing.
use Rattle.std.specs.Prelude.{ℕ, ◌/◌, ◌%◌, cond, List, ◌++◌, Some, None, codes, decimal, Option, nat_lt}
use Rattle.calendar.specs.declared.clock.Clock.{Clock}
use Rattle.calendar.specs.declared.clock.Register.{Register}
use Rattle.calendar.specs.declared.date.Date.{Date}
use Rattle.calendar.specs.declared.day.Day.{Day}
use Rattle.calendar.specs.declared.digits.Digits.{Digits}
use Rattle.calendar.specs.declared.time.HourForm.{HourForm}
use Rattle.calendar.specs.declared.time.HourForm.TheVariants.{TwelveHour, TwentyFourHour}
use Rattle.calendar.specs.declared.time.Time.{Time}
use Rattle.calendar.specs.Clock.{register_number}
use Rattle.calendar.specs.Dates.{date_of, first_bad}
use Rattle.calendar.specs.Hours.{twelve}

-- Tens and units, one figure each.
abbrev pub figures : Digits → List ℕ
figures d = decimal d.tens ++ decimal d.units

-- The figures of a number's last two digits.
abbrev pub two : ℕ → List ℕ
two n = decimal (n / 10 % 10) ++ decimal (n % 10)

-- As 1999-12-31.
abbrev pub day_text : Day → List ℕ
day_text d = two (d.year / 100) ++ (two d.year ++ (codes "-" ++ (two d.month ++ (codes "-" ++ two d.date))))

-- Before noon AM, then PM.
abbrev pub half : ℕ → List ℕ
half hour = cond (nat_lt hour 12) (codes "AM") (codes "PM")

-- As 23:59:59, in 12-hour form as 11:59:59 PM.
abbrev pub time_text : Time → HourForm → List ℕ
time_text t TwentyFourHour = two t.hour ++ (codes ":" ++ (two t.minute ++ (codes ":" ++ two t.second)))
time_text t TwelveHour =
    two (twelve t.hour) ++ (codes ":" ++ (two t.minute ++ (codes ":" ++ (two t.second ++ (codes " " ++ half t.hour)))))

-- As 1999-12-31 23:59:59.
abbrev pub date_text : Date → List ℕ
date_text d = day_text d.day ++ (codes " " ++ time_text d.time d.form)

-- A register as 33h.
abbrev pub register_text : Register → List ℕ
register_text r = codes "3" ++ (decimal (register_number r % 16) ++ codes "h")

-- Bytes that are no date name their first bad register, as: no date (register 33h).
abbrev pub said : Date → Option ℕ → List ℕ
said d None = date_text d
said d (Some register) = codes "no date (register 3" ++ (decimal (register % 16) ++ codes "h)")

-- The text of eight clock bytes.
abbrev pub text_of : Clock → List ℕ
text_of c = said (date_of c) (first_bad c)
