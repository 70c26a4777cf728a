-- The rule of the table, and the leap day after February.
use Rattle.std.proofs.Common.{◌≡◌, ℕ, ◌+◌, ◌-◌, ◌≤◌, Bool, true, false, cond, ◌&&◌, eqb, ltb, Some, None, sym, refl, ap, ◌∙◌, arith}
use mir.Val.{bool_byte}
use Rattle.std.proofs.lemmas.Bool.{agree_below, agree_below_at, cond-true, eqb-true, ltb-true, lt-ltb}
use Rattle.std.proofs.lemmas.Option.{cond_some}
use Rattle.std.proofs.lemmas.Bool.Decides.{nat_tests}
use Rattle.calendar.proofs.Sums.{laid_read}
use Rattle.calendar.specs.Years.{days_before_month, in_year, leap_year, month_length_after, sum_below}
use Rattle.calendar.specs.declared.day.TheConstants.{DAYS_BEFORE_MONTH}
use Rattle.calendar.proofs.day.Day.days_before_month.Goals.{then-self-gt2, else-self-gt2}
use Rattle.calendar.proofs.day.Day.days_before_month.Goals as goal

abbrev leap_test : Bool → ℕ → Bool
leap_test leap k = eqb (sum_below (month_length_after leap) k) (sum_below (month_length_after false) k + bool_byte (ltb 1 k && leap))

all_leap : (leap : Bool) → agree_below (leap_test leap) (λ _. true) 12 ≡ true
unfolding sum_below
all_leap true = refl
all_leap false = refl

with_leap_day : (leap b : Bool) (month place days : ℕ) → 1 ≤ month → place ≡ month - 1 → Some days ≡ cond (ltb place 12) (Some (sum_below (month_length_after false) place)) None → b ≡ (ltb 2 month && leap) → Some (days + bool_byte b) ≡ cond (in_year month) (Some (days_before_month leap month)) None
with_leap_day leap b month place days from same read after =
    let there = cond_some (ltb place 12) (sum_below (month_length_after false) place) days (sym read) in
    let less = ltb-true place 12 there.0 in
    let sums : sum_below (month_length_after leap) place ≡ sum_below (month_length_after false) place + bool_byte (ltb 1 place && leap) = eqb-true _ _ (agree_below_at (leap_test leap) (λ _. true) 12 place (all_leap leap) less) in
    let test : (ltb 2 month) ≡ ltb 1 place = grind (arith, nat_tests) in
    let inside : in_year month ≡ true = grind (arith, nat_tests) in
    (λ k. Some (sym there.1 k + bool_byte ((after ∙ ap (λ (x : Bool). x && leap) test) k)))
    ∙ ap (λ (n : ℕ). Some n) (sym sums) ∙ ap (λ (k : ℕ). Some (sum_below (month_length_after leap) k)) same
    ∙ sym (cond-true (in_year month) (Some (days_before_month leap month)) None inside)

pub returns : goal.returns
returns c =
    let place = c.in_ok-place.ensures in
    let month = c.args.self.month in
    let leap = leap_year c.args.self.year in
    let after : c.if-self-gt2.from ≡ (ltb 2 month && leap) =
    elim c.if-self-gt2.branch [
      | then-self-gt2 w ↦ w.from-is ∙ w.is_leap.ensures ∙ sym (ap (λ (x : Bool). x && leap) (lt-ltb 2 month w.if-self-gt2.true))
      | else-self-gt2 w ↦ grind (arith, nat_tests)
    ]
    in
    ap (λ (n : ℕ). Some (c.in_ok-days.days + n)) c.from-2.ensures
    ∙ with_leap_day leap c.if-self-gt2.from month c.from.result c.in_ok-days.days place.0 (c.from.ensures ∙ place.1)
    (c.in_ok-days.ensures ∙ laid_read (month_length_after false) DAYS_BEFORE_MONTH refl c.from.result c.get.result c.get.ensures.lookup) after
