-- Days, times and dates in their ranges. Assumes nothing.
use Rattle.std.proofs.Common.{◌<◌, ◌≤◌}
use Rattle.calendar.specs.Years.{leap_year, month_length}
use Rattle.calendar.specs.declared.date.Date.{Date}
use Rattle.calendar.specs.declared.day.Day.{Day}
use Rattle.calendar.specs.declared.time.Time.{Time}

-- A day of the years 1900 to 2099.
pub record IsDay (d : Day) : Type 0 where
  pub from_1900 : 1900 ≤ d.year
  pub to_2099 : d.year ≤ 2099
  pub from_january : 1 ≤ d.month
  pub to_december : d.month ≤ 12
  pub from_first : 1 ≤ d.date
  pub to_last : d.date ≤ month_length (leap_year d.year) d.month

pub record IsTime (t : Time) : Type 0 where
  pub hour_small : t.hour < 24
  pub minute_small : t.minute < 60
  pub second_small : t.second < 60

pub record IsDate (d : Date) : Type 0 where
  pub is_day : IsDay d.day
  pub is_time : IsTime d.time
  pub weekday_small : d.weekday < 7
