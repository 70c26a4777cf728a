-- Sums of the first lengths of a row, and tables that hold them. Assumes nothing.
use Rattle.std.proofs.Common.{◌≡◌, ℕ, zero, suc, ◌+◌, ◌-◌, ◌*◌, ◌<◌, ◌≤◌, Bool, true, ◌&&◌, eqb, ◌⊎◌, List, [], ◌∷◌, length, get_or, Some, None, Option, Bor, cond, ltb, sym, refl, ap, ◌∙◌, inl, inr, le_of_suc-le-suc, not-suc-le-zero, add-mul, add-one, arith}
use Rattle.std.proofs.lemmas.Bool.{and_parts, eqb-true, cases_order, cond-false, cond-true, ltb-true}
use Rattle.std.specs.Option.{option_copied}
use Rattle.std.specs.Slice.{IsItemAt}
use Rattle.calendar.specs.Years.{sum_below}

pub sum_none : (f : ℕ → ℕ) → sum_below f 0 ≡ 0
unfolding sum_below
sum_none f = refl

pub sum_more : (f : ℕ → ℕ) (n : ℕ) → sum_below f (n + 1) ≡ sum_below f n + f n
unfolding sum_below
sum_more f n = rw add-one refl

-- Lengths of at most m add up to at most m for each.
pub sum_le : (f : ℕ → ℕ) (m : ℕ) → ((k : ℕ) → f k ≤ m) → (n : ℕ) → sum_below f n ≤ n * m
sum_le f m each zero = rw sum_none (omega arith)
sum_le f m each (suc n) =
    let e : suc n ≡ n + 1 = omega arith in
    rw (e, sum_more) (omega (arith, sum_le f m each n, each n, add-mul n 1 m))

-- A longer row has at least the sum of a shorter one.
pub sum_grows : (f : ℕ → ℕ) (i k : ℕ) → sum_below f i ≤ sum_below f (i + k)
sum_grows f i zero = let e : i + 0 ≡ i = omega arith in rw e (omega arith)
sum_grows f i (suc k) =
    let e : i + suc k ≡ (i + k) + 1 = omega arith in
    rw (e, sum_more) (omega (arith, sum_grows f i k))

pub sum_before : (f : ℕ → ℕ) (i j : ℕ) → i < j → sum_below f i + f i ≤ sum_below f j
sum_before f i j less =
    let e : (i + 1) + (j - (i + 1)) ≡ j = omega arith in
    let grown : sum_below f (i + 1) ≤ sum_below f j = rw e at (sum_grows f (i + 1) (j - (i + 1))) in
    omega (arith, sum_more f i)

-- A place in a row of lengths is fixed by its distance from the row's beginning.
pub same_place : (f : ℕ → ℕ) (i j a b : ℕ) → a < f i → b < f j → sum_below f i + a ≡ sum_below f j + b → (i ≡ j) × (a ≡ b)
same_place f i j a b in-i in-j same = go (cases_order i j)
  where
    go : (i ≡ j) ⊎ ((i < j) ⊎ (j < i)) → (i ≡ j) × (a ≡ b)
    go (inl e) = (e, omega (arith, ap (sum_below f) e))
    go (inr (inl less)) = absurd (omega (arith, sum_before f i j less))
    go (inr (inr more)) = absurd (omega (arith, sum_before f j i more))

-- Each entry is the one before plus its length: the test runs along the table with the sum so far.
abbrev pub laid_from : (ℕ → ℕ) → ℕ → ℕ → List ℕ → Bool
laid_from f k sum [] = true
laid_from f k sum (x ∷ xs) = eqb x sum && laid_from f (k + 1) (sum + f k) xs

-- A table that passes holds at each place the sum of the lengths before it.
laid_on : (f : ℕ → ℕ) (xs : List ℕ) (k : ℕ) → laid_from f k (sum_below f k) xs ≡ true → (i : ℕ) → i < length xs → get_or xs i 0 ≡ sum_below f (k + i)
laid_on f [] k t i h = absurd (not-suc-le-zero h)
laid_on f (x ∷ xs) k t zero h =
    let e : k + 0 ≡ k = omega arith in rw e (eqb-true x (sum_below f k) (and_parts _ _ t).0)
laid_on f (x ∷ xs) k t (suc i) h =
    let e : k + suc i ≡ (k + 1) + i = omega arith in
    rw e (laid_on f xs (k + 1) (rw sum_more (and_parts _ _ t).1) i (le_of_suc-le-suc h))

pub laid_at : (f : ℕ → ℕ) (xs : List ℕ) → laid_from f 0 0 xs ≡ true → (i : ℕ) → i < length xs → get_or xs i 0 ≡ sum_below f i
laid_at f xs t i h =
    let e : 0 + i ≡ i = omega arith in
    rw e at (laid_on f xs 0 (rw sum_none t) i h)

-- What is read from it at a place: that sum, and nothing past its end.
pub laid_read : (f : ℕ → ℕ) (xs : List ℕ) → laid_from f 0 0 xs ≡ true → (i : ℕ) (r : Option (Bor ℕ)) → IsItemAt xs i r → option_copied r ≡ cond (ltb i (length xs)) (Some (sum_below f i)) None
laid_read f xs t i None at = sym (cond-false (ltb i (length xs)) (Some (sum_below f i)) None (sym at.0))
laid_read f xs t i (Some x) at =
    let within : i < length xs = ltb-true i (length xs) (sym at.0) in
    let read : x.now ≡ get_or xs i 0 = at.4 (omega arith) 0 in
    ap (λ (n : ℕ). Some n) (read ∙ laid_at f xs t i within) ∙ sym (cond-true (ltb i (length xs)) (Some (sum_below f i)) None (sym at.0))
