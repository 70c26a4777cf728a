-- A date plus n seconds: what the crates above cite. Assumes nothing.
use Rattle.std.proofs.Common.{◌≡◌, ℕ, zero, suc, ◌+◌, ◌%◌, ◌<◌, true, false, sym, refl, ap, ◌∙◌, subst, add-one, arith}
use Rattle.calendar.specs.Dates.{Plus, date_of, exists, first_second, midnights, number, rolled, seconds_of}
use Rattle.calendar.specs.Next.{StepsAdd, after, clock_of, date_after, next}
use Rattle.calendar.specs.declared.clock.Clock.{Clock}
use Rattle.calendar.specs.declared.date.Date.{Date}
use Rattle.std.proofs.lemmas.Bool.{cond-false, cond-true}
use Rattle.calendar.proofs.Existing.{date_back, date_good, date_in_range, exists_from_good, good_from_exists}
use Rattle.calendar.proofs.Fixed.{date_fixed}
use Rattle.calendar.proofs.Lengths.{before_2100}
use Rattle.calendar.proofs.Rolling.{midnights_on, rolled_before, rolled_end, rolled_on}
use Rattle.calendar.proofs.Stepping.{DateStep, date_step, seconds_in}

-- A date that exists lies before 2100.
pub number_small : (c : Clock) → exists c ≡ true → number c < first_second 2100
unfolding number
number_small c stands =
    let s = seconds_in (date_of c) (date_in_range c (good_from_exists c stands)) in
    omega (arith, s.day_small, s.second_small, before_2100)

-- What eight bytes say of a date in range, which is one step from the date of c.
said_exists : (d e : Date) → DateStep d e → exists (clock_of e) ≡ true
said_exists d e step = exists_from_good (clock_of e) (date_good e step.is_date)

said_plus : (c : Clock) (e : Date) → DateStep (date_of c) e → Plus c 1 (clock_of e)
unfolding number
said_plus c e step =
    let back = date_back e step.is_date in
    record {
      number_moved = ap seconds_of back ∙ step.number_moved;
      form_kept = ap (λ (x : Date). x.form) back ∙ step.form_kept;
      weekday_moved = step.weekday_moved;
    }

-- What `next` is of a date that exists, and of bytes that are none.
pub next_is : (c : Clock) → exists c ≡ true → next c ≡ clock_of (date_after (date_of c))
unfolding next
next_is c stands = cond-true (exists c) (clock_of (date_after (date_of c))) c stands

pub next_none : (c : Clock) → exists c ≡ false → next c ≡ c
unfolding next
next_none c none = cond-false (exists c) (clock_of (date_after (date_of c))) c none

step_of : (c : Clock) → exists c ≡ true → DateStep (date_of c) (date_after (date_of c))
step_of c stands = date_step (date_of c) (date_in_range c (good_from_exists c stands))

-- One second after a date that exists is a date that exists.
pub next_exists : (c : Clock) → exists c ≡ true → exists (next c) ≡ true
next_exists c stands =
    subst (λ (x : Clock). exists x ≡ true) (sym (next_is c stands)) (said_exists (date_of c) (date_after (date_of c)) (step_of c stands))

-- It is the date plus one second.
pub next_plus : (c : Clock) → exists c ≡ true → Plus c 1 (next c)
next_plus c stands = subst (Plus c 1) (sym (next_is c stands)) (said_plus c (date_after (date_of c)) (step_of c stands))

-- A date that exists is itself plus no second.
pub plus_zero : (c : Clock) → exists c ≡ true → Plus c 0 c
plus_zero c stands =
    let i = date_in_range c (good_from_exists c stands) in
    let same : number c + 0 ≡ number c = omega arith in
    record {
      number_moved = sym (ap rolled same ∙ rolled_before (number c) (omega (arith, number_small c stands, before_2100)));
      form_kept = refl;
      weekday_moved = whole c.weekday (midnights (number c) 0) i.weekday_small (none (number c));
    }
  where
    none : (s : ℕ) → midnights s 0 ≡ 0
    none s = omega arith

    whole : (weekday n : ℕ) → weekday < 7 → n ≡ 0 → weekday ≡ (weekday + n) % 7
    whole weekday n small no-midnight = omega arith

-- Seconds add up.
pub plus_plus : (a b c : Clock) (m n : ℕ) → Plus a m b → Plus b n c → Plus a (m + n) c
plus_plus a b c m n p q =
    record {
      number_moved =
          q.number_moved ∙ ap (λ (s : ℕ). rolled (s + n)) p.number_moved ∙ rolled_on (number a + m) n ∙ ap rolled (regroup (number a));
      form_kept = q.form_kept ∙ p.form_kept;
      weekday_moved =
          moved a.weekday b.weekday c.weekday (midnights (number a) m) (midnights (number b) n) (midnights (number a) (m + n))
          p.weekday_moved q.weekday_moved (midnights_on (number a) m n ∙ ap (λ (s : ℕ). midnights (number a) m + midnights s n) (sym p.number_moved));
    }
  where
    regroup : (s : ℕ) → (s + m) + n ≡ s + (m + n)
    regroup s = omega arith

    moved : (a b c x y z : ℕ) → b ≡ (a + x) % 7 → c ≡ (b + y) % 7 → z ≡ x + y → c ≡ (a + z) % 7
    moved a b c x y z first second all = omega arith

pub plus_step : (a b : Clock) (n : ℕ) → exists b ≡ true → Plus a n b → Plus a (n + 1) (next b)
plus_step a b n stands p = plus_plus a b (next b) n 1 p (next_plus b stands)

-- Only one date that exists is a plus n seconds.
pub plus_unique : (a b c : Clock) (n : ℕ) → exists b ≡ true → exists c ≡ true → Plus a n b → Plus a n c → b ≡ c
plus_unique a b c n stands holds p q =
    date_fixed b c stands holds (p.number_moved ∙ sym q.number_moved) (p.form_kept ∙ sym q.form_kept) (p.weekday_moved ∙ sym q.weekday_moved)

-- Before 2100 the number is that of a plus n.
pub plus_number : (a b : Clock) (n : ℕ) → Plus a n b → number a + n < first_second 2100 → number b ≡ number a + n
plus_number a b n p early = p.number_moved ∙ rolled_before (number a + n) (omega (arith, before_2100))

-- After the last second of 2099 comes the first of 2000.
pub next_rolls : (c : Clock) → exists c ≡ true → number c + 1 ≡ first_second 2100 → number (next c) ≡ first_second 2000
next_rolls c stands last = (next_plus c stands).number_moved ∙ ap rolled last ∙ rolled_end

-- No step leaves the clock as it is, and each step more is one second more.
pub after_zero : (c : Clock) → after c 0 ≡ c
unfolding after
after_zero c = refl

pub after_more : (c : Clock) (n : ℕ) → after c (n + 1) ≡ next (after c n)
unfolding after
after_more c n = ap (after c) (add-one n)

-- n steps of one second give a date that exists, and the date plus n seconds.
pub after_exists : (c : Clock) (n : ℕ) → exists c ≡ true → exists (after c n) ≡ true
unfolding after
after_exists c zero stands = stands
after_exists c (suc n) stands = next_exists (after c n) (after_exists c n stands)

pub after_plus : (c : Clock) (n : ℕ) → exists c ≡ true → Plus c n (after c n)
unfolding after
after_plus c zero stands = plus_zero c stands
after_plus c (suc n) stands =
    let e : n + 1 ≡ suc n = add-one n in
    subst (λ (k : ℕ). Plus c k (next (after c n))) e (plus_step c (after c n) n (after_exists c n stands) (after_plus c n stands))

-- All of it together.
pub steps_add : (c : Clock) → StepsAdd c
steps_add c n stands =
    let plus = after_plus c n stands in
    record {
      is_date = after_exists c n stands;
      plus = plus;
      no_other = λ b holds other. plus_unique c b (after c n) n holds (after_exists c n stands) other plus;
      number_more = plus_number c (after c n) n plus;
    }
