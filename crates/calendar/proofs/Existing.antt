-- Dates that exist: eight good bytes are what their date says, and a date in range is said by good bytes. Assumes nothing.
use Rattle.std.proofs.Common.{◌≡◌, ℕ, ◌+◌, ◌*◌, ◌/◌, ◌%◌, ◌≤◌, Bool, true, false, not, ◌&&◌, ◌||◌, eqb, leb, is_some, Some, None, Option, sym, refl, ap, ◌∙◌, arith, lit≤}
use Rattle.std.specs.Option.{option_map}
use Rattle.std.proofs.lemmas.Bool.Decides.{nat_tests}
use Rattle.std.proofs.lemmas.Bool.{and_from, false≢true, le-leb, leb-true}
use Rattle.calendar.specs.Clock.{register_number, start_date}
use Rattle.calendar.specs.Dates.{bad_register, date_of, day_of, exists, first_bad, in_month, unless}
use Rattle.calendar.specs.Digits.{bcd_of, count_of, in_range}
use Rattle.calendar.specs.Hours.{good_hours}
use Rattle.calendar.specs.Next.{clock_of}
use Rattle.calendar.specs.Years.{in_table, in_year, leap_year}
use Rattle.calendar.specs.declared.clock.Clock.{Clock}
use Rattle.calendar.specs.declared.clock.Register.{Register}
use Rattle.calendar.specs.declared.clock.Register.TheVariants.{Seconds, Minutes, Hours, Date as DateRegister, Month, Year, Weekday, Century}
use Rattle.calendar.specs.declared.date.Date.{Date}
use Rattle.calendar.proofs.Ranges.{IsDate}
use Rattle.calendar.proofs.Bytes.{bcd_back, bcd_in_range, count_back, hours_back, hours_shown, in_range_true}
use Rattle.calendar.proofs.Lengths.{month_length_le}

abbrev fine : Option Register → Bool
fine bad = not (is_some (option_map register_number bad))

-- Bytes exist as a date where no register is bad, and not where one is.
pub exists_if : (c : Clock) → bad_register c ≡ None → exists c ≡ true
unfolding first_bad
exists_if c none = ap fine none

pub exists_unless : (c : Clock) (register : Register) → bad_register c ≡ Some register → exists c ≡ false
unfolding first_bad
exists_unless c register some = ap fine some

-- Every test of the eight bytes passes.
pub record Good (c : Clock) : Type 0 where
  pub seconds_good : in_range c.seconds 0 59 ≡ true
  pub minutes_good : in_range c.minutes 0 59 ≡ true
  pub hours_good : good_hours c.hours ≡ true
  pub date_good : in_range c.date 1 31 ≡ true
  pub month_good : in_range c.month 1 12 ≡ true
  pub year_good : in_range c.year 0 99 ≡ true
  pub weekday_good : leb c.weekday 6 ≡ true
  pub century_good : (eqb c.century 0x19 || eqb c.century 0x20) ≡ true
  pub month_has_it : in_month (day_of c) ≡ true

passed : (good : Bool) (register : Register) (rest : Option Register) → fine (unless good register rest) ≡ true → (good ≡ true) × (fine rest ≡ true)
passed true register rest e = (refl, e)
passed false register rest e = absurd (false≢true e)

pub good_from_exists : (c : Clock) → exists c ≡ true → Good c
unfolding first_bad
good_from_exists c e =
    let p0 = passed _ Seconds _ e in
    let p1 = passed _ Minutes _ p0.1 in
    let p2 = passed _ Hours _ p1.1 in
    let p3 = passed _ DateRegister _ p2.1 in
    let p4 = passed _ Month _ p3.1 in
    let p5 = passed _ Year _ p4.1 in
    let p6 = passed _ Weekday _ p5.1 in
    let p7 = passed _ Century _ p6.1 in
    let p8 = passed _ DateRegister _ p7.1 in
    record {
      seconds_good = p0.0;
      minutes_good = p1.0;
      hours_good = p2.0;
      date_good = p3.0;
      month_good = p4.0;
      year_good = p5.0;
      weekday_good = p6.0;
      century_good = p7.0;
      month_has_it = p8.0;
    }

pub exists_from_good : (c : Clock) → Good c → exists c ≡ true
unfolding first_bad
exists_from_good c g =
    rw (g.seconds_good, g.minutes_good, g.hours_good, g.date_good, g.month_good, g.year_good, g.weekday_good, g.century_good, g.month_has_it) refl

-- A century byte says 19 or 20.
pub century_same : (b : ℕ) → (eqb b 0x19 || eqb b 0x20) ≡ in_range b 19 20
century_same b = grind (arith, nat_tests)

year_parts : (century year : ℕ) → year ≤ 99 → ((100 * century + year) % 100 ≡ year) × ((100 * century + year) / 100 ≡ century)
year_parts century year small = (omega arith, omega arith)

year_back : (year : ℕ) → year ≤ 2099 → 100 * count_of (bcd_of (year / 100)) + count_of (bcd_of (year % 100)) ≡ year
year_back year small =
    let high : year / 100 ≤ 99 = omega arith in
    let low : year % 100 ≤ 99 = omega arith in
    rw (bcd_back (year / 100) high, bcd_back (year % 100) low) (omega arith)

-- What eight good bytes say is a date of the calendar.
pub date_in_range : (c : Clock) → Good c → IsDate (date_of c)
date_in_range c g =
    let year = in_range_true c.year 0 99 g.year_good in
    let month = in_range_true c.month 1 12 g.month_good in
    let date = in_range_true c.date 1 31 g.date_good in
    let minute = in_range_true c.minutes 0 59 g.minutes_good in
    let second = in_range_true c.seconds 0 59 g.seconds_good in
    let century = in_range_true c.century 19 20 (sym (century_same c.century) ∙ g.century_good) in
    record {
      is_day = record {
        from_1900 = omega (arith, century.from_low);
        to_2099 = omega (arith, century.to_high, year.to_high);
        from_january = month.from_low;
        to_december = month.to_high;
        from_first = date.from_low;
        to_last = leb-true _ _ g.month_has_it;
      };
      is_time = record {
        hour_small = (hours_back c.hours g.hours_good).0;
        minute_small = omega (arith, minute.to_high);
        second_small = omega (arith, second.to_high);
      };
      weekday_small = omega (arith, leb-true c.weekday 6 g.weekday_good);
    }

-- They are the bytes that say it.
pub clock_back : (c : Clock) → Good c → clock_of (date_of c) ≡ c
clock_back c g =
    let year = in_range_true c.year 0 99 g.year_good in
    let century = in_range_true c.century 19 20 (sym (century_same c.century) ∙ g.century_good) in
    let parts = year_parts (count_of c.century) (count_of c.year) year.to_high in
    let seconds-back = count_back c.seconds 0 59 (lit≤ tt) (in_range_true c.seconds 0 59 g.seconds_good) in
    let minutes-back = count_back c.minutes 0 59 (lit≤ tt) (in_range_true c.minutes 0 59 g.minutes_good) in
    let hours-same = (hours_back c.hours g.hours_good).1 in
    let date-same = count_back c.date 1 31 (lit≤ tt) (in_range_true c.date 1 31 g.date_good) in
    let month-same = count_back c.month 1 12 (lit≤ tt) (in_range_true c.month 1 12 g.month_good) in
    let year-same = ap bcd_of parts.0 ∙ count_back c.year 0 99 (lit≤ tt) year in
    let century-same = ap bcd_of parts.1 ∙ count_back c.century 19 20 (lit≤ tt) century in
    λ k. record {
      seconds = seconds-back k;
      minutes = minutes-back k;
      hours = hours-same k;
      date = date-same k;
      month = month-same k;
      year = year-same k;
      weekday = c.weekday;
      century = century-same k;
    }

-- The bytes that say a date of the calendar say just that.
pub date_back : (d : Date) → IsDate d → date_of (clock_of d) ≡ d
date_back d i =
    let last = month_length_le (leap_year d.day.year) d.day.month in
    let date-same = bcd_back d.day.date (omega arith) in
    let month-same = bcd_back d.day.month (omega arith) in
    let year-same = year_back d.day.year i.is_day.to_2099 in
    let hours = hours_shown d.time.hour d.form i.is_time.hour_small in
    let minute-same = bcd_back d.time.minute (omega arith) in
    let second-same = bcd_back d.time.second (omega arith) in
    λ k. record {
      day = record { date = date-same k; month = month-same k; year = year-same k };
      time = record { hour = hours.hour_back k; minute = minute-same k; second = second-same k };
      weekday = d.weekday;
      form = hours.form_back k;
    }

-- And they are good.
pub date_good : (d : Date) → IsDate d → Good (clock_of d)
date_good d i =
    let last = month_length_le (leap_year d.day.year) d.day.month in
    record {
      seconds_good = bcd_in_range d.time.second 0 59 (omega arith) (omega arith) (lit≤ tt);
      minutes_good = bcd_in_range d.time.minute 0 59 (omega arith) (omega arith) (lit≤ tt);
      hours_good = (hours_shown d.time.hour d.form i.is_time.hour_small).good;
      date_good = bcd_in_range d.day.date 1 31 i.is_day.from_first (omega arith) (lit≤ tt);
      month_good = bcd_in_range d.day.month 1 12 i.is_day.from_january i.is_day.to_december (lit≤ tt);
      year_good = bcd_in_range (d.day.year % 100) 0 99 (omega arith) (omega arith) (lit≤ tt);
      weekday_good = le-leb d.weekday 6 (omega arith);
      century_good = century_same (bcd_of (d.day.year / 100)) ∙ bcd_in_range (d.day.year / 100) 19 20 (omega arith) (omega arith) (lit≤ tt);
      month_has_it = ap (λ (x : Date). in_month x.day) (date_back d i) ∙ le-leb _ _ i.is_day.to_last;
    }

-- The table holds the year of a date that exists, and a year its month.
pub in_tables : (c : Clock) → exists c ≡ true → (in_table (date_of c).day.year && in_year (date_of c).day.month) ≡ true
in_tables c stands =
    let i = (date_in_range c (good_from_exists c stands)).is_day in
    and_from _ _ (and_from _ _ (le-leb _ _ i.from_1900) (le-leb _ _ i.to_2099)) (and_from _ _ (le-leb _ _ i.from_january) (le-leb _ _ i.to_december))

pub start_exists : exists start_date ≡ true
unfolding first_bad
start_exists = refl
