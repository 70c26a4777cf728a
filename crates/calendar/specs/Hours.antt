-- The hours byte: the form in bit 7, and in 12-hour form PM in bit 5. Assumes nothing.
use Rattle.std.specs.Prelude.{ℕ, ◌+◌, ◌-◌, ◌*◌, ◌/◌, ◌%◌, Bool, cond, ◌&&◌, ◌==◌, nat_lt}
use Rattle.calendar.specs.declared.time.HourForm.{HourForm}
use Rattle.calendar.specs.declared.time.HourForm.TheVariants.{TwelveHour, TwentyFourHour}
use Rattle.calendar.specs.Digits.{count_of, bcd_of, in_range}

-- Bit 7 means 24-hour form.
abbrev pub form_of : ℕ → HourForm
form_of hours = cond (nat_lt hours 0x80) TwelveHour TwentyFourHour

-- The hour of the day, 0 to 23: in 12-hour form bit 5 adds 12, and 12 stands for 0.
abbrev pub hour_of : ℕ → ℕ
hour_of hours = cond (nat_lt hours 0x80) (count_of (hours % 32) % 12 + 12 * (hours / 32 % 2)) (count_of (hours - 0x80))

-- An hours byte is good: 1 to 12 in 12-hour form, 0 to 23 in 24-hour form, and bit 6 is 0.
abbrev pub good_hours : ℕ → Bool
good_hours hours = cond (nat_lt hours 0x80) (nat_lt hours 0x40 && in_range (hours % 32) 1 12) (in_range (hours - 0x80) 0 23)

-- The hour on a dial of twelve: 0 and 12 are shown as 12.
abbrev pub twelve : ℕ → ℕ
twelve hour = cond (hour % 12 == 0) 12 (hour % 12)

-- The byte that shows an hour of the day in a form.
abbrev pub hours_byte : ℕ → HourForm → ℕ
hours_byte hour TwelveHour = bcd_of (twelve hour) + cond (nat_lt hour 12) 0 0x20
hours_byte hour TwentyFourHour = bcd_of (hour % 24) + 0x80
