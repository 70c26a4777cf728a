-- Bytes and the counts that they hold: each gives the other back. Assumes nothing.
use Rattle.std.proofs.Common.{◌≡◌, ℕ, ◌-◌, ◌%◌, ◌<◌, ◌≤◌, Bool, true, not, ◌&&◌, ◌||◌, eqb, ltb, refl, ⊎_elim, arith}
use Rattle.std.proofs.lemmas.Bool.{agree_below, agree_below_at, and_from, and_parts, both_ways, cases_lt, cond-false, cond-true, eqb-true, le-leb, le-ltb, leb-true, lt-ltb, ltb-true, not-true, or_cases}
use Rattle.calendar.specs.Digits.{bcd_of, count_of, in_range}
use Rattle.calendar.specs.Hours.{form_of, good_hours, hour_of, hours_byte}
use Rattle.calendar.specs.declared.time.HourForm.{HourForm}
use Rattle.calendar.specs.declared.time.HourForm.TheVariants.{TwelveHour, TwentyFourHour}

pub record InRange (byte low high : ℕ) : Type 0 where
  pub digit : byte % 16 < 10
  pub from_low : low ≤ count_of byte
  pub to_high : count_of byte ≤ high

pub in_range_true : (byte low high : ℕ) → in_range byte low high ≡ true → InRange byte low high
in_range_true byte low high e =
    let p = and_parts _ _ e in
    let q = and_parts _ _ p.1 in
    record { digit = ltb-true _ _ p.0; from_low = leb-true _ _ q.0; to_high = leb-true _ _ q.1 }

pub count_back : (byte low high : ℕ) → high ≤ 99 → InRange byte low high → bcd_of (count_of byte) ≡ byte
count_back byte low high small held = omega arith

-- The byte of a count up to 99 holds that count.
pub bcd_holds : (n : ℕ) → n ≤ 99 → InRange (bcd_of n) n n
bcd_holds n small = in_range_true (bcd_of n) n n (agree_below_at (λ k. in_range (bcd_of k) k k) (λ _. true) 100 n refl (omega arith))

pub bcd_back : (n : ℕ) → n ≤ 99 → count_of (bcd_of n) ≡ n
bcd_back n small = omega (arith, (bcd_holds n small).from_low, (bcd_holds n small).to_high)

pub bcd_in_range : (n low high : ℕ) → low ≤ n → n ≤ high → high ≤ 99 → in_range (bcd_of n) low high ≡ true
bcd_in_range n low high from to small =
    let held = bcd_holds n (omega arith) in
    let above : low ≤ count_of (bcd_of n) = omega (arith, held.from_low) in
    let under : count_of (bcd_of n) ≤ high = omega (arith, held.to_high) in
    and_from _ _ (lt-ltb _ _ held.digit) (and_from _ _ (le-leb _ _ above) (le-leb _ _ under))

-- A good hours byte shows an hour below 24, and is the byte of that hour in its form.
abbrev hours_test : ℕ → Bool
hours_test b = not (good_hours b) || (ltb (hour_of b) 24 && eqb (hours_byte (hour_of b) (form_of b)) b)

hours_byte_small : (b : ℕ) → good_hours b ≡ true → b < 256
hours_byte_small b good = ⊎_elim (λ (less : b < 0x80). omega arith) over (cases_lt b 0x80)
  where
    over : 0x80 ≤ b → b < 256
    over more = omega (arith, in_range_true (b - 0x80) 0 23 (rw (le-ltb b 0x80 more) at good))

pub hours_back : (b : ℕ) → good_hours b ≡ true → (hour_of b < 24) × (hours_byte (hour_of b) (form_of b) ≡ b)
hours_back b good =
    let test = agree_below_at hours_test (λ _. true) 256 b refl (hours_byte_small b good) in
    let parts = and_parts _ _ (⊎_elim (λ (bad : not (good_hours b) ≡ true). absurd (both_ways (good_hours b) (not-true _ bad) good)) (λ t. t) (or_cases _ _ test)) in
    (ltb-true _ _ parts.0, eqb-true _ _ parts.1)

abbrev same_form : HourForm → ℕ → Bool
same_form TwelveHour b = ltb b 0x80
same_form TwentyFourHour b = not (ltb b 0x80)

form_same : (form : HourForm) (b : ℕ) → same_form form b ≡ true → form_of b ≡ form
form_same TwelveHour b e = cond-true _ TwelveHour TwentyFourHour e
form_same TwentyFourHour b e = cond-false _ TwelveHour TwentyFourHour (not-true _ e)

-- The byte of an hour in a form is good, and shows both.
pub record ShowsHour (hour : ℕ) (form : HourForm) (b : ℕ) : Type 0 where
  pub good : good_hours b ≡ true
  pub hour_back : hour_of b ≡ hour
  pub form_back : form_of b ≡ form

abbrev shown_test : HourForm → ℕ → Bool
shown_test form hour =
    good_hours (hours_byte hour form) && (eqb (hour_of (hours_byte hour form)) hour && same_form form (hours_byte hour form))

all_shown : (form : HourForm) → agree_below (shown_test form) (λ _. true) 24 ≡ true
all_shown TwelveHour = refl
all_shown TwentyFourHour = refl

pub hours_shown : (hour : ℕ) (form : HourForm) → hour < 24 → ShowsHour hour form (hours_byte hour form)
hours_shown hour form small =
    let parts = and_parts _ _ (agree_below_at (shown_test form) (λ _. true) 24 hour (all_shown form) small) in
    let rest = and_parts _ _ parts.1 in
    record { good = parts.0; hour_back = eqb-true _ _ rest.0; form_back = form_same form (hours_byte hour form) rest.1 }
