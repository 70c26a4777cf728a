-- How long years and months are. Assumes nothing.
use Rattle.std.proofs.Common.{◌≡◌, ℕ, ◌+◌, ◌-◌, ◌≤◌, Bool, true, false, cond, Some, None, sym, refl, arith}
use Rattle.std.proofs.lemmas.Bool.Decides.{nat_tests}
use Rattle.calendar.specs.Years.{days_before_year, in_table, month_length, month_length_after, sum_below, year_length, year_length_after}
use Rattle.std.proofs.lemmas.Option.{cond_some}
use Rattle.calendar.proofs.Sums.{sum_le}

pub year_length_le : (year : ℕ) → year_length year ≤ 366
year_length_le year = grind (arith, nat_tests)

-- The table's numbers are small.
pub before_year_le : (year d : ℕ) → Some d ≡ cond (in_table year) (Some (days_before_year year)) None → d ≤ 73200
before_year_le year d e =
    let h = cond_some (in_table year) (days_before_year year) d (sym e) in
    let bound = sum_le year_length_after 366 (λ k. year_length_le (1900 + k)) (year - 1900) in
    grind (arith, nat_tests, h.0, h.1, bound)

pub month_length_le : (leap : Bool) (month : ℕ) → month_length leap month ≤ 31
month_length_le leap month = grind (arith, nat_tests)

pub month_length_some : (leap : Bool) (month : ℕ) → 1 ≤ month → month ≤ 12 → 1 ≤ month_length leap month
month_length_some leap month from to = grind (arith, nat_tests)

-- The months of a year make up the year.
pub months_sum : (leap : Bool) → sum_below (month_length_after leap) 12 ≡ cond leap 366 365
unfolding sum_below
months_sum true = refl
months_sum false = refl

-- The days before 2000, and before 2100, where the calendar ends.
pub before_2000 : days_before_year 2000 ≡ 36524
unfolding sum_below
before_2000 = refl

pub before_2100 : days_before_year 2100 ≡ 73049
unfolding sum_below
before_2100 = refl
