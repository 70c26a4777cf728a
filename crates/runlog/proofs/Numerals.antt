-- Numbers of a log.
use Rattle.std.proofs.Common.{◌≡◌, ℕ, ◌+◌, ◌-◌, ◌*◌, ◌^◌, ◌<◌, ◌≤◌, Bool, true, false, cond, ◌&&◌, eqb, ltb, leb, List, length, get_or, drop, Some, None, Option, sym, refl, ap, ◌∙◌, subst, pow-suc, add-one, arith, lit<, rules}
use native.Mathlib.Nat.{pow-le-pow_right}
use Rattle.std.specs.Char.{is_ascii_digit}
use Rattle.std.specs.Str.{all_ascii_digits}
use Rattle.std.proofs.lemmas.List.{at_drop_more, drop_all}
use Rattle.std.proofs.lemmas.Bool.{lt-ltb, lt-leb, le-leb, eqb-false}
use Rattle.std.proofs.lemmas.Str.Parse.{IsNumeralModel, numerals_by_fold}
use Rattle.runlog.specs.Numbers.{value_after, value, number}

-- One digit more.
pub value_more : (n : ℕ) (w : List ℕ) (i : ℕ) → i < length w
    → value_after n (drop i w) ≡ value_after (10 * n + (get_or w i 0 - 48)) (drop (i + 1) w)
value_more n w i l = at_drop_more (value_after n) w i 0 l

-- The digits from i on are digits where the one at i is and those after it are.
pub digits_more : (w : List ℕ) (i : ℕ) → i < length w → is_ascii_digit (get_or w i 0) ≡ true → all_ascii_digits (drop i w) ≡ all_ascii_digits (drop (i + 1) w)
digits_more w i l d = at_drop_more all_ascii_digits w i 0 l ∙ ap (λ b. b && all_ascii_digits (drop (i + 1) w)) d

digits_end : (w : List ℕ) (i : ℕ) → i < length w → is_ascii_digit (get_or w i 0) ≡ false → all_ascii_digits (drop i w) ≡ false
digits_end w i l d = at_drop_more all_ascii_digits w i 0 l ∙ ap (λ b. b && all_ascii_digits (drop (i + 1) w)) d

-- A value of i digits stays below the power of ten.
pub grows : (v d i : ℕ) → v < 10 ^ i → d ≤ 9 → 10 * v + d < 10 ^ (i + 1)
grows v d i h k = let p : 10 ^ (i + 1) ≡ 10 ^ i * 10 = rw add-one (pow-suc 10 i) in omega arith

-- Up to five digits the value fits.
pub small : (v i : ℕ) → v < 10 ^ i → i ≤ 5 → v < 100000
small v i h k = let p : 10 ^ i ≤ 10 ^ 5 = pow-le-pow_right (lit< tt) k in omega arith

none_unless : (a b d : Bool) (x : Option ℕ) → cond (a && (b && (false && d))) x None ≡ None
none_unless true true d x = refl
none_unless true false d x = refl
none_unless false b d x = refl

-- What is not all digits is no number.
pub not_digits : (w : List ℕ) → all_ascii_digits w ≡ false → number w ≡ None
not_digits w e =
    subst (λ (b : Bool). cond (ltb 0 (length w) && (leb (length w) 5 && (b && leb (value w) 65535))) (Some (value w)) None ≡ None) (sym e)
    (none_unless (ltb 0 (length w)) (leb (length w) 5) (leb (value w) 65535) (Some (value w)))

-- A byte that is no digit makes no number.
pub no_digit : (w : List ℕ) (i : ℕ) → i < length w → is_ascii_digit (get_or w i 0) ≡ false → all_ascii_digits (drop i w) ≡ all_ascii_digits w → None ≡ number w
no_digit w i l d e = sym (not_digits w (sym e ∙ digits_end w i l d))

number_by : (w : List ℕ) (v : ℕ) → 0 < length w → length w ≤ 5 → all_ascii_digits w ≡ true → value w ≡ v → number w ≡ cond (leb v 65535) (Some v) None
number_by w v some few digits e =
    let a : ltb 0 (length w) ≡ true = lt-ltb 0 (length w) some in
    let b : leb (length w) 5 ≡ true = le-leb (length w) 5 few in
    rw (a, b, digits, e) refl

-- A word of one to five digits, all read to a value.
module _ (w : List ℕ) (v i : ℕ) (some : false ≡ eqb (length w) 0) (few : length w ≤ 5) (over : length w ≤ i)
    (e : value_after v (drop i w) ≡ value w) (d : all_ascii_digits (drop i w) ≡ all_ascii_digits w) where
  number_is : number w ≡ cond (leb v 65535) (Some v) None
  number_is =
      number_by w v (omega (arith, eqb-false (length w) 0 (sym some))) few (sym d ∙ ap all_ascii_digits (drop_all i w over))
      (sym e ∙ ap (value_after v) (drop_all i w over))

  -- It is too large.
  pub too_large : 65535 < v → None ≡ number w
  too_large h = let b : leb v 65535 ≡ false = lt-leb v 65535 h in sym (number_is ∙ rw b)

  -- It is the number.
  pub the_number : v ≤ 65535 → Some v ≡ number w
  the_number h = let b : leb v 65535 ≡ true = le-leb v 65535 h in sym (number_is ∙ rw b)

-- The value of digits is the library's number.
pub own : IsNumeralModel (λ ds. all_ascii_digits ds ≡ true) (value_after 0)
own = numerals_by_fold _ (search rules) value_after (search rules)
