-- Numbers that roll over from the end of 2099 to the beginning of 2000. Assumes nothing.
use Rattle.std.proofs.Common.{◌≡◌, ℕ, ◌+◌, ◌-◌, ◌*◌, ◌/◌, ◌%◌, ◌<◌, ◌≤◌, cond, ltb, ◌⊎◌, refl, ◌∙◌, inl, inr, ⊎_elim, arith}
use Rattle.std.proofs.lemmas.Bool.{cases_lt, cond-false, cond-true, le-ltb, lt-ltb}
use Rattle.calendar.specs.Dates.{first_second, midnights, rolled}
use Rattle.calendar.proofs.Lengths.{before_2000, before_2100}

-- The same with its numbers: 2000 begins at 36,524 days, 2100 at 73,049, and between lie 36,525.
pub rolled_is : (s : ℕ) → rolled s ≡ cond (ltb s 6311433600) s (3155673600 + (s - 6311433600) % 3155760000)
rolled_is s = simp (before_2000, before_2100)

pub rolled_before : (s : ℕ) → s < 6311433600 → rolled s ≡ s
rolled_before s less = rolled_is s ∙ cond-true _ _ _ (lt-ltb s 6311433600 less)

pub rolled_after : (s : ℕ) → 6311433600 ≤ s → rolled s ≡ 3155673600 + (s - 6311433600) % 3155760000
rolled_after s more = rolled_is s ∙ cond-false _ _ _ (le-ltb s 6311433600 more)

pub rolled_end : rolled (first_second 2100) ≡ first_second 2000
rolled_end = simp (before_2000, before_2100)

-- r is s less some periods of a hundred years, and lies in the calendar; after a period it lies in 2000 to 2099.
record Rolls (s r periods : ℕ) : Type 0 where
  shift : r + 3155760000 * periods ≡ s
  small : r < 6311433600
  late : (periods ≡ 0) ⊎ (3155673600 ≤ r)

rolls : (s : ℕ) → (periods : ℕ) × Rolls s (rolled s) periods
rolls s = ⊎_elim early over (cases_lt s 6311433600)
  where
    early : s < 6311433600 → (periods : ℕ) × Rolls s (rolled s) periods
    early less =
        let e = rolled_before s less in
        (0, record { shift = omega (arith, e); small = omega (arith, e); late = inl refl })

    over : 6311433600 ≤ s → (periods : ℕ) × Rolls s (rolled s) periods
    over more =
        let e = rolled_after s more in
        ((s - 6311433600) / 3155760000 + 1, record { shift = omega (arith, e); small = omega (arith, e); late = inr (omega (arith, e)) })

-- Nothing else is.
only : (s r periods : ℕ) → Rolls s r periods → r ≡ rolled s
only s r periods h = ⊎_elim early over (cases_lt s 6311433600)
  where
    early : s < 6311433600 → r ≡ rolled s
    early less = omega (arith, rolled_before s less)

    over : 6311433600 ≤ s → r ≡ rolled s
    over more = omega (arith, rolled_after s more)

-- A number rolled is below the first second of 2100.
pub rolled_small : (s : ℕ) → rolled s < 6311433600
rolled_small s = (rolls s).1.small

-- To go on from where the number rolled to is to go on.
pub rolled_on : (s n : ℕ) → rolled (rolled s + n) ≡ rolled (s + n)
rolled_on s n =
    let p = rolls s in
    let q = rolls (rolled s + n) in
    only (s + n) (rolled (rolled s + n)) (p.0 + q.0)
    (record {
      shift = omega (arith, p.1.shift, q.1.shift);
      small = q.1.small;
      late = later p.0 q.0 (rolled s) (rolled (rolled s + n)) n p.1.late q.1.late q.1.shift;
    })
  where
    later : (p q r next n : ℕ) → (p ≡ 0) ⊎ (3155673600 ≤ r) → (q ≡ 0) ⊎ (3155673600 ≤ next) → next + 3155760000 * q ≡ r + n → (p + q ≡ 0) ⊎ (3155673600 ≤ next)
    later p q r next n (inl x) (inl y) e = inl (omega arith)
    later p q r next n (inr x) (inl y) e = inr (omega arith)
    later p q r next n x (inr y) e = inr y

pub midnights_on : (s m n : ℕ) → midnights s (m + n) ≡ midnights s m + midnights (rolled (s + m)) n
midnights_on s m n = omega (arith, (rolls (s + m)).1.shift)
