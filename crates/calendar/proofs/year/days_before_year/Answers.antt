-- The table's rule: the test over its 200 entries is computed once.
use Rattle.std.proofs.Common.{◌≡◌, ℕ, ◌-◌, ◌≤◌, cond, ltb, Some, None, Option, refl, ◌∙◌, arith}
use Rattle.std.proofs.lemmas.Bool.Decides.{nat_tests}
use Rattle.calendar.proofs.Sums.{laid_read}
use Rattle.calendar.specs.Years.{days_before_year, in_table, sum_below, year_length_after}
use Rattle.calendar.specs.declared.year.TheConstants.{DAYS_BEFORE_YEAR}
use Rattle.calendar.proofs.year.days_before_year.Goals as goal

read_at : (year place : ℕ) (r : Option ℕ) → 1900 ≤ year → place ≡ year - 1900 → r ≡ cond (ltb place 200) (Some (sum_below year_length_after place)) None → r ≡ cond (in_table year) (Some (days_before_year year)) None
read_at year place r from same read =
    let test : ltb place 200 ≡ in_table year = grind (arith, nat_tests) in
    read ∙ (λ k. cond (test k) (Some (sum_below year_length_after (same k))) None)

pub returns : goal.returns
returns c =
    read_at c.args.year c.from.result c.copied.result (omega (arith, c.in_ok-place.ensures)) (omega (arith, c.in_ok-place.ensures))
    (c.copied.ensures ∙ laid_read year_length_after DAYS_BEFORE_YEAR refl c.from.result c.get.result c.get.ensures.lookup)
