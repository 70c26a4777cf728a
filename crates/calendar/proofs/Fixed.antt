-- A date that exists is fixed by its number, its hour form and its weekday. Assumes nothing.
use Rattle.std.proofs.Common.{◌≡◌, ℕ, ◌+◌, ◌-◌, ◌*◌, ◌<◌, ◌≤◌, Bool, true, sym, ap, ◌∙◌, arith}
use Rattle.calendar.specs.Dates.{date_of, day_number, exists, number, second_of_day, seconds_of}
use Rattle.calendar.specs.Hours.{form_of}
use Rattle.calendar.specs.Next.{clock_of}
use Rattle.calendar.specs.Years.{days_before_month, leap_year, month_length, month_length_after, year_length_after}
use Rattle.calendar.specs.declared.clock.Clock.{Clock}
use Rattle.calendar.specs.declared.date.Date.{Date}
use Rattle.calendar.specs.declared.day.Day.{Day}
use Rattle.calendar.specs.declared.time.Time.{Time}
use Rattle.calendar.proofs.Ranges.{IsDate, IsDay, IsTime}
use Rattle.calendar.proofs.Existing.{clock_back, date_in_range, good_from_exists}
use Rattle.calendar.proofs.Stepping.{month_inside, seconds_in}
use Rattle.calendar.proofs.Sums.{same_place}

-- A second of the day is one time.
same_time : (t u : Time) → IsTime t → IsTime u → second_of_day t ≡ second_of_day u → t ≡ u
same_time t u i j same =
    let hour-same : t.hour ≡ u.hour = omega arith in
    let minute-same : t.minute ≡ u.minute = omega arith in
    let second-same : t.second ≡ u.second = omega arith in
    λ k. record { hour = hour-same k; minute = minute-same k; second = second-same k }

-- A day of the year is one date of one month.
same_month : (leap : Bool) (month other date day : ℕ) → 1 ≤ month → 1 ≤ other → 1 ≤ date → 1 ≤ day → date ≤ month_length leap month → day ≤ month_length leap other → days_before_month leap month + (date - 1) ≡ days_before_month leap other + (day - 1) → (month ≡ other) × (date ≡ day)
same_month leap month other date day some-month some-other some-date some-day in_month in-other same =
    let e : (month - 1) + 1 ≡ month = omega arith in
    let f : (other - 1) + 1 ≡ other = omega arith in
    let here : date - 1 < month_length_after leap (month - 1) = rw e (omega arith) in
    let there : day - 1 < month_length_after leap (other - 1) = rw f (omega arith) in
    let place = same_place (month_length_after leap) (month - 1) (other - 1) (date - 1) (day - 1) here there same in
    (omega (arith, place.0), omega (arith, place.1))

-- A day of the calendar is one day of one year.
day_of_year : Day → ℕ
day_of_year d = days_before_month (leap_year d.year) d.month + (d.date - 1)

in_year : (d : Day) → IsDay d → day_of_year d < year_length_after (d.year - 1900)
unfolding day_of_year
in_year d i =
    let e : 1900 + (d.year - 1900) ≡ d.year = omega arith in
    rw e (month_inside (leap_year d.year) d.month d.date i.from_january i.to_december i.from_first i.to_last)

same_day : (d e : Day) → IsDay d → IsDay e → day_number d ≡ day_number e → d ≡ e
unfolding day_of_year
same_day d e i j same =
    let place = same_place year_length_after (d.year - 1900) (e.year - 1900) (day_of_year d) (day_of_year e) (in_year d i) (in_year e j) (omega arith) in
    let year-same : d.year ≡ e.year = omega (arith, place.0) in
    let leap-same = ap leap_year year-same in
    let last = rw (← leap-same) at j.to_last in
    let both = same_month (leap_year d.year) d.month e.month d.date e.date i.from_january j.from_january i.from_first j.from_first i.to_last last (place.1 ∙ ap (λ (leap : Bool). days_before_month leap e.month + (e.date - 1)) (sym leap-same)) in
    λ k. record { date = both.1 k; month = both.0 k; year = year-same k }

split_second : (day other second at : ℕ) → second < 86400 → at < 86400 → 86400 * day + second ≡ 86400 * other + at → (day ≡ other) × (second ≡ at)
split_second day other second at small little same = (omega arith, omega arith)

same_date : (d e : Date) → IsDate d → IsDate e → seconds_of d ≡ seconds_of e → d.weekday ≡ e.weekday → d.form ≡ e.form → d ≡ e
same_date d e i j same weekday-same form_same =
    let parts = split_second (day_number d.day) (day_number e.day) (second_of_day d.time) (second_of_day e.time) (seconds_in d i).second_small (seconds_in e j).second_small same in
    let day-same = same_day d.day e.day i.is_day j.is_day parts.0 in
    let time-same = same_time d.time e.time i.is_time j.is_time parts.1 in
    λ k. record { day = day-same k; time = time-same k; weekday = weekday-same k; form = form_same k }

pub date_fixed : (a b : Clock) → exists a ≡ true → exists b ≡ true → number a ≡ number b → form_of a.hours ≡ form_of b.hours → a.weekday ≡ b.weekday → a ≡ b
unfolding number
date_fixed a b stands holds number_same form_same weekday-same =
    let g = good_from_exists a stands in
    let h = good_from_exists b holds in
    let dates-same = same_date (date_of a) (date_of b) (date_in_range a g) (date_in_range b h) number_same weekday-same form_same in
    sym (clock_back a g) ∙ ap clock_of dates-same ∙ clock_back b h
