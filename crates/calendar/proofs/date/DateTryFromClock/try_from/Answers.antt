-- Each byte passed its test and gave its count, so what is left to test is the date in its month.
use Rattle.std.proofs.Common.{◌≡◌, ℕ, ◌+◌, ◌*◌, Bool, true, false, cond, leb, Some, None, Option, Ok, Err, Result, refl, sym, ap, ◌∙◌, arith}
use Rattle.std.specs.Bool.{then_some}
use Rattle.std.specs.Option.{ok_or}
use Rattle.std.specs.Result.{IsErrAnd}
use Rattle.std.proofs.lemmas.Bool.{le-leb}
use Rattle.std.proofs.lemmas.Option.{cond_some}
use Rattle.calendar.specs.Dates.{bad_register, date_of, in_month, unless, unless_bad}
use Rattle.calendar.specs.Digits.{count_of, in_range}
use Rattle.calendar.specs.Hours.{form_of, good_hours, hour_of}
use Rattle.calendar.specs.declared.clock.Clock.{Clock}
use Rattle.calendar.specs.declared.clock.Register.{Register}
use Rattle.calendar.specs.declared.clock.Register.TheVariants.{Date as DateRegister, Month, Century}
use Rattle.calendar.specs.declared.date.Date.{Date}
use Rattle.calendar.proofs.Existing.{century_same}
use Rattle.calendar.proofs.date.DateTryFromClock.try_from.Goals as goal

-- a byte that gave a count passed its test, and the count is its own
read : (test : Bool) (v count : ℕ) (asked : Option ℕ) → asked ≡ cond test (Some v) None → asked ≡ Some count → (test ≡ true) × (v ≡ count)
read test v count asked e there = cond_some test v count (sym e ∙ there)

judged : (has_it : Bool) (d : Date) → ok_or (then_some has_it d) DateRegister ≡ unless_bad (unless has_it DateRegister None) d
judged true d = refl
judged false d = refl

abbrev Passed : ℕ → ℕ → ℕ → ℕ → Type 0
Passed byte low high count = (in_range byte low high ≡ true) × (count_of byte ≡ count)

-- each byte but that of the date in its month passed, and the date has their counts
record IsRead (c : Clock) (d : Date) (century year : ℕ) : Type 0 where
  seconds : Passed c.seconds 0 59 d.time.second
  minutes : Passed c.minutes 0 59 d.time.minute
  hours : (good_hours c.hours ≡ true) × (hour_of c.hours ≡ d.time.hour)
  date : Passed c.date 1 31 d.day.date
  month : Passed c.month 1 12 d.day.month
  years : Passed c.year 0 99 year
  weekday : leb c.weekday 6 ≡ true
  centuries : Passed c.century 19 20 century
  year_same : d.day.year ≡ 100 * century + year
  weekday_same : d.weekday ≡ c.weekday
  form_same : d.form ≡ form_of c.hours

answer : (c : Clock) (d : Date) (century year : ℕ) → IsRead c d century year → ok_or (then_some (in_month d.day) d) DateRegister ≡ unless_bad (bad_register c) (date_of c)
answer c d century year r =
    let tests : bad_register c ≡ unless (in_month (date_of c).day) DateRegister None =
    rw (r.seconds.0, r.minutes.0, r.hours.0, r.date.0, r.month.0, r.years.0, r.weekday, century_same c.century, r.centuries.0) refl
    in
    let year_read : 100 * count_of c.century + count_of c.year ≡ d.day.year = (λ k. 100 * r.centuries.1 k + r.years.1 k) ∙ sym r.year_same in
    let said : date_of c ≡ d =
    λ k. record {
      day = record { date = r.date.1 k; month = r.month.1 k; year = year_read k };
      time = record { hour = r.hours.1 k; minute = r.minutes.1 k; second = r.seconds.1 k };
      weekday = sym r.weekday_same k;
      form = sym r.form_same k;
    }
    in
    judged (in_month d.day) d ∙ ap (λ (x : Date). unless_bad (unless (in_month x.day) DateRegister None) x) (sym said)
    ∙ ap (λ (bad : Option Register). unless_bad bad (date_of c)) (sym tests)

-- one that gave none is to blame
refused : (good : Bool) (count : ℕ) (o : Option ℕ) (register e : Register) (rest : Option Register) (d : Date) (r : Result Date Register) → o ≡ cond good (Some count) None → Err e ≡ ok_or o register → IsErrAnd r (λ x. x ≡ e) → r ≡ unless_bad (unless good register rest) d
refused good count o register e rest d r given asked is = go good r (asked ∙ ap (λ (x : Option ℕ). ok_or x register) given) is
  where
    go : (good : Bool) (r : Result Date Register) → Err e ≡ ok_or (cond good (Some count) None) register → IsErrAnd r (λ x. x ≡ e) → r ≡ unless_bad (unless good register rest) d
    go true r none is = absurd cc
    go false (Ok x) some is = absurd is
    go false (Err x) some is = cc

pub returns : goal.returns
returns c =
    let clock = c.args.clock in
    let date : Date = record {
      day = record { date = c.in_ok-date.date; month = c.in_ok-month.month; year = 100 * c.from.result + c.from-2.result };
      time = record { hour = c.in_ok-hour.hour; minute = c.in_ok-minute.minute; second = c.in_ok-second.second };
      weekday = clock.weekday;
      form = c.of.result;
    } in
    let asked : c.ok_or-8.result ≡ ok_or (then_some (in_month date.day) date) DateRegister =
    c.ok_or-8.ensures.value ∙ ap (λ (o : Option Date). ok_or o DateRegister) (c.then_some.ensures ∙ ap (λ (has_it : Bool). then_some has_it date) c.is_in_month.ensures)
    in
    asked
    ∙ answer clock date c.in_ok-century.century c.in_ok-year.year
    (record {
      seconds = read _ _ _ _ c.count_within.ensures c.in_ok-second.ensures.ok_part;
      minutes = read _ _ _ _ c.count_within-2.ensures c.in_ok-minute.ensures.ok_part;
      hours = read _ _ _ _ c.hour_of.ensures c.in_ok-hour.ensures.ok_part;
      date = read _ _ _ _ c.count_within-3.ensures c.in_ok-date.ensures.ok_part;
      month = read _ _ _ _ c.count_within-4.ensures c.in_ok-month.ensures.ok_part;
      years = read _ _ _ _ c.count_within-5.ensures c.in_ok-year.ensures.ok_part;
      weekday = le-leb clock.weekday 6 (omega arith);
      centuries = read _ _ _ _ c.count_within-6.ensures c.in_ok-century.ensures.ok_part;
      year_same = λ k. 100 * c.from.ensures k + c.from-2.ensures k;
      weekday_same = refl;
      form_same = c.of.ensures;
    })

pub returns-in_err-month : goal.returns-in_err-month
returns-in_err-month c =
    let second = read _ _ _ _ c.count_within.ensures c.in_ok-second.ensures.ok_part in
    let minute = read _ _ _ _ c.count_within-2.ensures c.in_ok-minute.ensures.ok_part in
    let hour = read _ _ _ _ c.hour_of.ensures c.in_ok-hour.ensures.ok_part in
    let date = read _ _ _ _ c.count_within-3.ensures c.in_ok-date.ensures.ok_part in
    rw (second.0, minute.0, hour.0, date.0)
    (refused _ _ _ Month _ _ _ _ c.count_within-4.ensures c.in_err-month.ensures.value c.from_residual-in_err-month.ensures.1)

pub returns-in_err-century : goal.returns-in_err-century
returns-in_err-century c =
    let second = read _ _ _ _ c.count_within.ensures c.in_ok-second.ensures.ok_part in
    let minute = read _ _ _ _ c.count_within-2.ensures c.in_ok-minute.ensures.ok_part in
    let hour = read _ _ _ _ c.hour_of.ensures c.in_ok-hour.ensures.ok_part in
    let date = read _ _ _ _ c.count_within-3.ensures c.in_ok-date.ensures.ok_part in
    let month = read _ _ _ _ c.count_within-4.ensures c.in_ok-month.ensures.ok_part in
    let year = read _ _ _ _ c.count_within-5.ensures c.in_ok-year.ensures.ok_part in
    rw (second.0, minute.0, hour.0, date.0, month.0, year.0, le-leb c.args.clock.weekday 6 (omega arith), century_same c.args.clock.century)
    (refused _ _ _ Century _ _ _ _ c.count_within-6.ensures c.in_err-century.ensures.value c.from_residual-in_err-century.ensures.1)
