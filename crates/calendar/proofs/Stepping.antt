-- One second later, by times, days and dates. Assumes nothing.
use Rattle.std.proofs.Common.{◌≡◌, ℕ, ◌+◌, ◌-◌, ◌*◌, ◌%◌, ◌<◌, ◌≤◌, Bool, cond, ltb, Some, None, Option, sym, refl, ap, ◌∙◌, arith, lit≤}
use Rattle.std.proofs.lemmas.Bool.Decides.{nat_tests}
use Rattle.std.proofs.lemmas.Bool.{cond_both, cond-false, cond-true, le-ltb, lt-ltb, ltb-false, ltb-true}
use Rattle.calendar.specs.Dates.{day_number, midnights, rolled, second_of_day, seconds_of}
use Rattle.calendar.specs.Next.{date_after, day_after, moved, time_after, weekday_after}
use Rattle.calendar.specs.Years.{days_before_month, days_before_year, leap_year, month_length, month_length_after, sum_below, year_length, year_length_after}
use Rattle.calendar.specs.declared.date.Date.{Date}
use Rattle.calendar.specs.declared.day.Day.{Day}
use Rattle.calendar.specs.declared.time.Time.{Time}
use Rattle.calendar.proofs.Ranges.{IsDate, IsDay, IsTime}
use Rattle.calendar.proofs.Lengths.{before_2000, before_2100, month_length_some, months_sum}
use Rattle.calendar.proofs.Rolling.{rolled_after, rolled_before}
use Rattle.calendar.proofs.Sums.{sum_before, sum_more, sum_none}

-- A time has a next one on its day, a second later; else it is the day's last second.
abbrev TimeStep : Time → Option Time → Type 0
TimeStep t (Some u) = IsTime u × (second_of_day u ≡ second_of_day t + 1)
TimeStep t None = second_of_day t ≡ 86399

pub time_step : (t : Time) → IsTime t → TimeStep t (time_after t)
time_step t i =
    cond_both (ltb t.second 59) _ _ (TimeStep t)
    (λ e. let less = ltb-true _ _ e in (record { hour_small = i.hour_small; minute_small = i.minute_small; second_small = omega arith }, omega arith))
    (λ e. let full = ltb-false t.second 59 e in
    cond_both (ltb t.minute 59) _ _ (TimeStep t)
    (λ f. let less = ltb-true _ _ f in (record { hour_small = i.hour_small; minute_small = omega arith; second_small = lit≤ tt }, omega arith))
    (λ f. let full-hour = ltb-false t.minute 59 f in
    cond_both (ltb t.hour 23) _ _ (TimeStep t)
    (λ g. let less = ltb-true _ _ g in (record { hour_small = omega arith; minute_small = lit≤ tt; second_small = lit≤ tt }, omega arith))
    (λ g. let last-hour = ltb-false t.hour 23 g in omega arith)))

-- A day lies inside its month, its year and the calendar.
pub month_inside : (leap : Bool) (month date : ℕ) → 1 ≤ month → month ≤ 12 → 1 ≤ date → date ≤ month_length leap month → days_before_month leap month + (date - 1) < cond leap 366 365
month_inside leap month date from to first last =
    let less : month - 1 < 12 = omega arith in
    let same : (month - 1) + 1 ≡ month = omega arith in
    let bound = sum_before (month_length_after leap) (month - 1) 12 less in
    let length-same = ap (month_length leap) same in
    omega (arith, bound, length-same, months_sum leap)

pub year_inside : (d : Day) → IsDay d → day_number d < days_before_year d.year + year_length d.year
year_inside d i =
    omega (arith, month_inside (leap_year d.year) d.month d.date i.from_january i.to_december i.from_first i.to_last)

pub day_number_small : (d : Day) → IsDay d → day_number d < 73049
day_number_small d i =
    let less : d.year - 1900 < 200 = omega arith in
    let same : 1900 + (d.year - 1900) ≡ d.year = omega arith in
    omega (arith, year_inside d i, sum_before year_length_after (d.year - 1900) 200 less, ap year_length same, before_2100)

-- The day after is a day of the calendar; its number is one more, and 1 January 2000 follows the last.
abbrev day_rolled : ℕ → ℕ
day_rolled n = cond (ltb n 73049) n 36524

pub record DayStep (d e : Day) : Type 0 where
  pub is_day : IsDay e
  pub moved_on : day_number e ≡ day_rolled (day_number d + 1)

-- so where the number is one more, it rolls over nothing
one_more : (d e : Day) → IsDay e → day_number e ≡ day_number d + 1 → DayStep d e
one_more d e i more =
    record { is_day = i; moved_on = more ∙ sym (cond-true _ _ 36524 (lt-ltb _ _ (omega (arith, day_number_small e i)))) }

next_date : (d : Day) → IsDay d → d.date < month_length (leap_year d.year) d.month → DayStep d (record { date = d.date + 1; month = d.month; year = d.year })
next_date d i less =
    one_more d _
    (record {
      from_1900 = i.from_1900;
      to_2099 = i.to_2099;
      from_january = i.from_january;
      to_december = i.to_december;
      from_first = omega arith;
      to_last = omega arith;
    })
    (omega arith)

next_month : (d : Day) → IsDay d → month_length (leap_year d.year) d.month ≤ d.date → d.month < 12 → DayStep d (record { date = 1; month = d.month + 1; year = d.year })
next_month d i full less =
    let leap = leap_year d.year in
    let here : (d.month - 1) + 1 ≡ d.month = omega arith in
    let there : (d.month + 1) - 1 ≡ (d.month - 1) + 1 = omega arith in
    let length-same = ap (month_length leap) here in
    let sum_same = ap (sum_below (month_length_after leap)) there in
    one_more d _
    (record {
      from_1900 = i.from_1900;
      to_2099 = i.to_2099;
      from_january = omega arith;
      to_december = omega arith;
      from_first = lit≤ tt;
      to_last = month_length_some leap (d.month + 1) (omega arith) (omega arith);
    })
    (omega (arith, sum_more (month_length_after leap) (d.month - 1), length-same, sum_same))

-- December is the last month: its end is the year's.
year_end : (d : Day) → IsDay d → month_length (leap_year d.year) d.month ≤ d.date → 12 ≤ d.month → day_number d + 1 ≡ days_before_year d.year + year_length d.year
year_end d i full last =
    let leap = leap_year d.year in
    let here : d.month - 1 ≡ 11 = omega arith in
    let december : d.month ≡ 12 = omega arith in
    let length-same = ap (month_length leap) december in
    let sum_same = ap (sum_below (month_length_after leap)) here in
    omega (arith, sum_more (month_length_after leap) 11, months_sum leap, length-same, sum_same)

january : (year : ℕ) → 1900 ≤ year → year ≤ 2099 → IsDay (record { date = 1; month = 1; year = year })
january year from to =
    record { from_1900 = from; to_2099 = to; from_january = lit≤ tt; to_december = lit≤ tt; from_first = lit≤ tt; to_last = lit≤ tt }

new_year : (year : ℕ) → day_number (record { date = 1; month = 1; year = year }) ≡ days_before_year year
new_year year = omega (arith, sum_none (month_length_after (leap_year year)))

next_year : (d : Day) → IsDay d → day_number d + 1 ≡ days_before_year d.year + year_length d.year → d.year < 2099 → DayStep d (record { date = 1; month = 1; year = d.year + 1 })
next_year d i end less =
    let here : 1900 + (d.year - 1900) ≡ d.year = omega arith in
    let there : (d.year + 1) - 1900 ≡ (d.year - 1900) + 1 = omega arith in
    let length-same = ap year_length here in
    let sum_same = ap (sum_below year_length_after) there in
    one_more d _ (january (d.year + 1) (omega arith) (omega arith))
    (omega (arith, new_year (d.year + 1), sum_more year_length_after (d.year - 1900), length-same, sum_same, end))

after_last : (d : Day) → IsDay d → day_number d + 1 ≡ days_before_year d.year + year_length d.year → 2099 ≤ d.year → DayStep d (record { date = 1; month = 1; year = 2000 })
after_last d i end last =
    let here : d.year - 1900 ≡ 199 = omega arith in
    let year-same : d.year ≡ 2099 = omega arith in
    let sum_same = ap (sum_below year_length_after) here in
    let length-same = ap year_length year-same in
    let over : 73049 ≤ day_number d + 1 = omega (arith, end, sum_more year_length_after 199, sum_same, length-same, before_2100) in
    record {
      is_day = january 2000 (lit≤ tt) (lit≤ tt);
      moved_on = new_year 2000 ∙ before_2000 ∙ sym (cond-false (ltb (day_number d + 1) 73049) (day_number d + 1) 36524 (le-ltb _ _ over));
    }

pub day_step : (d : Day) → IsDay d → DayStep d (day_after d)
day_step d i =
    cond_both (ltb d.date (month_length (leap_year d.year) d.month)) _ _ (DayStep d) (λ e. next_date d i (ltb-true _ _ e))
    (λ e. let full = ltb-false d.date (month_length (leap_year d.year) d.month) e in
    cond_both (ltb d.month 12) _ _ (DayStep d) (λ f. next_month d i full (ltb-true _ _ f))
    (λ f. let end = year_end d i full (ltb-false d.month 12 f) in
    cond_both (ltb d.year 2099) (d.year + 1) 2000 (λ year. DayStep d (record { date = 1; month = 1; year = year }))
    (λ g. next_year d i end (ltb-true _ _ g))
    (λ g. after_last d i end (ltb-false d.year 2099 g))))

-- Which second of the calendar a date is.
pub record Seconds (day second : ℕ) : Type 0 where
  pub day_small : day < 73049
  pub second_small : second < 86400

pub seconds_in : (d : Date) → IsDate d → Seconds (day_number d.day) (second_of_day d.time)
seconds_in d i = record { day_small = day_number_small d.day i.is_day; second_small = omega (arith, i.is_time) }

-- Inside a day no midnight comes, and nothing rolls over.
same_day : (day second : ℕ) → second + 1 < 86400 → midnights (86400 * day + second) 1 ≡ 0
same_day day second more = omega arith

same_number : (day second : ℕ) → day < 73049 → second + 1 < 86400 → rolled ((86400 * day + second) + 1) ≡ (86400 * day + second) + 1
same_number day second small more = rolled_before ((86400 * day + second) + 1) (omega arith)

-- At its end midnight comes, and the number rolls over as the day does.
new_day : (day second : ℕ) → second ≡ 86399 → midnights (86400 * day + second) 1 ≡ 1
new_day day second end = omega arith

new_number : (day second : ℕ) → day < 73049 → second ≡ 86399 → rolled ((86400 * day + second) + 1) ≡ 86400 * day_rolled (day + 1)
new_number day second small end =
    cond_both (ltb (day + 1) 73049) (day + 1) 36524 (λ n. rolled ((86400 * day + second) + 1) ≡ 86400 * n)
    (λ e. let less = ltb-true (day + 1) 73049 e in omega (arith, rolled_before ((86400 * day + second) + 1) (omega arith)))
    (λ e. let last = ltb-false (day + 1) 73049 e in omega (arith, rolled_after ((86400 * day + second) + 1) (omega arith)))

-- The weekday moves on with the midnights.
weekday_stays : (weekday n : ℕ) → weekday < 7 → n ≡ 0 → weekday ≡ (weekday + n) % 7
weekday_stays weekday n small none = omega arith

weekday_moves : (weekday n : ℕ) → weekday < 7 → n ≡ 1 → weekday_after weekday ≡ (weekday + n) % 7
weekday_moves weekday n small one = grind (arith, nat_tests)

weekday_after_small : (weekday : ℕ) → weekday_after weekday < 7
weekday_after_small weekday = grind (arith, nat_tests)

pub record DateStep (d e : Date) : Type 0 where
  pub is_date : IsDate e
  pub number_moved : seconds_of e ≡ rolled (seconds_of d + 1)
  pub form_kept : e.form ≡ d.form
  pub weekday_moved : e.weekday ≡ (d.weekday + midnights (seconds_of d) 1) % 7

date_moved : (d : Date) → IsDate d → (u : Option Time) → TimeStep d.time u → DateStep d (moved d u)
date_moved d i (Some u) h =
    let s = seconds_in d i in
    let day = day_number d.day in
    let second = second_of_day d.time in
    let less : second + 1 < 86400 = omega (arith, h.0) in
    record {
      is_date = record { is_day = i.is_day; is_time = h.0; weekday_small = i.weekday_small };
      number_moved = omega (arith, same_number day second s.day_small less, h.1);
      form_kept = refl;
      weekday_moved = weekday_stays d.weekday (midnights (seconds_of d) 1) i.weekday_small (same_day day second less);
    }
date_moved d i None h =
    let s = seconds_in d i in
    let day = day_number d.day in
    let second = second_of_day d.time in
    let next-day = day_step d.day i.is_day in
    record {
      is_date = record {
        is_day = next-day.is_day;
        is_time = record { hour_small = lit≤ tt; minute_small = lit≤ tt; second_small = lit≤ tt };
        weekday_small = weekday_after_small d.weekday;
      };
      number_moved = omega (arith, new_number day second s.day_small h, next-day.moved_on);
      form_kept = refl;
      weekday_moved = weekday_moves d.weekday (midnights (seconds_of d) 1) i.weekday_small (new_day day second h);
    }

pub date_step : (d : Date) → IsDate d → DateStep d (date_after d)
date_step d i = date_moved d i (time_after d.time) (time_step d.time i.is_time)
