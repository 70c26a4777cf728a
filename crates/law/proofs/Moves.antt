-- Addresses: how they move inside a page or a section, and which staged place each has.
use Rattle.std.proofs.Common.{◌≡◌, ℕ, suc, ◌+◌, ◌-◌, ◌%◌, ◌<◌, ◌≤◌, true, false, eqb, Some, None, Option, sym, refl, ap, ◌∙◌, subst, ⊎_elim, arith}
use Rattle.std.proofs.lemmas.Bool.{lt-ltb, le-ltb, cases_lt, cases_eq, eq-eqb, ne_eqb}
use Rattle.chip.specs.Counter.{room_of, address_in, next_written, next_read, next_in_section, at_status, is_status}
use Rattle.chip.specs.Pages.{page_first}
use Rattle.chip.specs.Places.{place_of}
use Rattle.chip.specs.Registers.{section_of, first_of, length_of, next_in, next_by, next_register}
use Rattle.chip.specs.declared.registers.Section.{Section}
use Rattle.chip.specs.declared.registers.Section.TheVariants.{Alarm0, Alarm1, Control, Clock, Status}
use Rattle.chip.specs.declared.slaves.Area.{Area}
use Rattle.chip.specs.declared.slaves.Area.TheVariants.{Array, Registers}
use Rattle.rules.specs.Stored.{span_of, section_span, steps_on, place_at}
use Rattle.x1226.specs.Stop.{address_staged}

-- The section of an address inside a section.
pub section_inside : (s : Section) (z : ℕ) → z < length_of s → section_of (first_of s + z) ≡ Some s
section_inside Alarm0 z l = rw (lt-ltb (0 + z) 8 (omega arith))
section_inside Alarm1 z l = rw (le-ltb (8 + z) 8 (omega arith), lt-ltb (8 + z) 16 (omega arith))
section_inside Control z l =
    rw (le-ltb (16 + z) 8 (omega arith), le-ltb (16 + z) 16 (omega arith), lt-ltb (16 + z) 20 (omega arith))
section_inside Clock z l =
    rw (le-ltb (48 + z) 8 (omega arith), le-ltb (48 + z) 16 (omega arith), le-ltb (48 + z) 20 (omega arith), le-ltb (48 + z) 48 (omega arith), lt-ltb (48 + z) 56 (omega arith))
section_inside Status z l =
    rw (le-ltb (63 + z) 8 (omega arith), le-ltb (63 + z) 16 (omega arith), le-ltb (63 + z) 20 (omega arith), le-ltb (63 + z) 48 (omega arith), le-ltb (63 + z) 56 (omega arith), eq-eqb (63 + z) 63 (omega arith))

-- An address lies between its section's ends.
pub record Inside (s : Section) (a : ℕ) : Type 0 where
  pub from_first : first_of s ≤ a
  pub to_last : a < first_of s + length_of s

inside_some : (s t : Section) (a : ℕ) → Inside s a → ◌≡◌ {A = Option Section} (Some s) (Some t) → Inside t a
inside_some s t a i e = let q : s ≡ t = cc in subst (λ (u : Section). Inside u a) q i

pub section_range : (a : ℕ) (s : Section) → section_of a ≡ Some s → Inside s a
section_range a s e =
    ⊎_elim
    (λ l8. inside_some Alarm0 s a (record { from_first = omega arith; to_last = omega arith })
    (sym (section_at_8 l8) ∙ e))
    (λ g8. ⊎_elim
    (λ l16. inside_some Alarm1 s a (record { from_first = omega arith; to_last = omega arith })
    (sym (section_at_16 g8 l16) ∙ e))
    (λ g16. ⊎_elim
    (λ l20. inside_some Control s a (record { from_first = omega arith; to_last = omega arith })
    (sym (section_at_20 g8 g16 l20) ∙ e))
    (λ g20. ⊎_elim
    (λ l48. no_section (sym (section_at_48 g8 g16 g20 l48) ∙ e))
    (λ g48. ⊎_elim
    (λ l56. inside_some Clock s a (record { from_first = omega arith; to_last = omega arith })
    (sym (section_at_56 g8 g16 g20 g48 l56) ∙ e))
    (λ g56. ⊎_elim
    (λ e63. inside_some Status s a (record { from_first = omega arith; to_last = omega arith })
    (sym (section_at_63 g8 g16 g20 g48 g56 e63) ∙ e))
    (λ ne. no_section (sym (section_past g8 g16 g20 g48 g56 ne) ∙ e))
    (cases_eq a 63))
    (cases_lt a 56))
    (cases_lt a 48))
    (cases_lt a 20))
    (cases_lt a 16))
    (cases_lt a 8)
  where
    no_section : ◌≡◌ {A = Option Section} None (Some s) → Inside s a
    no_section q = let z : ◌≡◌ {A = ℕ} 0 1 = cc in absurd (omega arith)

    section_at_8 : a < 8 → section_of a ≡ Some Alarm0
    section_at_8 l = rw (lt-ltb a 8 l)

    section_at_16 : 8 ≤ a → a < 16 → section_of a ≡ Some Alarm1
    section_at_16 g l = rw (le-ltb a 8 g, lt-ltb a 16 l)

    section_at_20 : 8 ≤ a → 16 ≤ a → a < 20 → section_of a ≡ Some Control
    section_at_20 g g2 l = rw (le-ltb a 8 g, le-ltb a 16 g2, lt-ltb a 20 l)

    section_at_48 : 8 ≤ a → 16 ≤ a → 20 ≤ a → a < 48 → section_of a ≡ None
    section_at_48 g g2 g3 l = rw (le-ltb a 8 g, le-ltb a 16 g2, le-ltb a 20 g3, lt-ltb a 48 l)

    section_at_56 : 8 ≤ a → 16 ≤ a → 20 ≤ a → 48 ≤ a → a < 56 → section_of a ≡ Some Clock
    section_at_56 g g2 g3 g4 l = rw (le-ltb a 8 g, le-ltb a 16 g2, le-ltb a 20 g3, le-ltb a 48 g4, lt-ltb a 56 l)

    section_at_63 : 8 ≤ a → 16 ≤ a → 20 ≤ a → 48 ≤ a → 56 ≤ a → a ≡ 63 → section_of a ≡ Some Status
    section_at_63 g g2 g3 g4 g5 l = rw (le-ltb a 8 g, le-ltb a 16 g2, le-ltb a 20 g3, le-ltb a 48 g4, le-ltb a 56 g5, eq-eqb a 63 l)

    section_past : 8 ≤ a → 16 ≤ a → 20 ≤ a → 48 ≤ a → 56 ≤ a → (a ≡ 63 → ⊥) → section_of a ≡ None
    section_past g g2 g3 g4 g5 l = rw (le-ltb a 8 g, le-ltb a 16 g2, le-ltb a 20 g3, le-ltb a 48 g4, le-ltb a 56 g5, ne_eqb a 63 l)

-- Steps inside a section, over bare numbers.
step_zero : (s : Section) (a : ℕ) → Inside s a → first_of s + (a - first_of s + 0) % length_of s ≡ a
step_zero Alarm0 a i = omega (arith, i.from_first, i.to_last)
step_zero Alarm1 a i = omega (arith, i.from_first, i.to_last)
step_zero Control a i = omega (arith, i.from_first, i.to_last)
step_zero Clock a i = omega (arith, i.from_first, i.to_last)
step_zero Status a i = omega (arith, i.from_first, i.to_last)

-- No step: the address itself.
pub steps_zero : (area : Area) (a : ℕ) → steps_on (span_of area a) a 0 ≡ a
steps_zero Array a = omega arith
steps_zero Registers a = by_section (section_of a) refl
  where
    by_section : (o : Option Section) → section_of a ≡ o → steps_on (section_span o a) a 0 ≡ a
    by_section None e = omega arith
    by_section (Some s) e = step_zero s a (section_range a s e)

next_step : (s : Section) (z : ℕ) → next_in s (first_of s + z % length_of s) ≡ first_of s + (z + 1) % length_of s
next_step Alarm0 z = omega arith
next_step Alarm1 z = omega arith
next_step Control z = omega arith
next_step Clock z = omega arith
next_step Status z = omega arith

small_step : (s : Section) (z : ℕ) → z % length_of s < length_of s
small_step Alarm0 z = omega arith
small_step Alarm1 z = omega arith
small_step Control z = omega arith
small_step Clock z = omega arith
small_step Status z = omega arith

-- One step more: as the counter moves after a data byte.
pub steps_suc : (area : Area) (a i : ℕ) → next_written area (steps_on (span_of area a) a i) ≡ steps_on (span_of area a) a (suc i)
steps_suc Array a i = omega arith
steps_suc Registers a i = by_section (section_of a) refl
  where
    regroup : (x : ℕ) → x + i + 1 ≡ x + suc i
    regroup x = omega arith

    by_section : (o : Option Section) → section_of a ≡ o
        → next_register (steps_on (section_span o a) a i) ≡ steps_on (section_span o a) a (suc i)
    by_section None e =
        let q : (n : ℕ) → a + (a - a + n) % 1 ≡ a = λ n. omega arith in
        ap next_register (q i) ∙ ap (λ (o : Option Section). next_by o a) e ∙ sym (q (suc i))
    by_section (Some s) e =
        ap (λ (o : Option Section). next_by o (first_of s + (a - first_of s + i) % length_of s))
        (section_inside s ((a - first_of s + i) % length_of s) (small_step s (a - first_of s + i)))
        ∙ next_step s (a - first_of s + i)
        ∙ ap (λ (n : ℕ). first_of s + n % length_of s) (regroup (a - first_of s))

-- Two tests that hold together.
pub eqb_both : (x y u v : ℕ) → (x ≡ y → u ≡ v) → (u ≡ v → x ≡ y) → eqb x y ≡ eqb u v
eqb_both x y u v f g =
    ⊎_elim (λ e. eq-eqb x y e ∙ sym (eq-eqb u v (f e))) (λ n. ne_eqb x y n ∙ sym (ne_eqb u v (λ e. n (g e)))) (cases_eq x y)

section_small : (s : Section) (z : ℕ) → first_of s + z % length_of s < 64
section_small Alarm0 z = omega arith
section_small Alarm1 z = omega arith
section_small Control z = omega arith
section_small Clock z = omega arith
section_small Status z = omega arith

-- A write to the registers stays among them.
pub register_steps : (a i : ℕ) → a < 64 → steps_on (span_of Registers a) a i < 64
register_steps a i l = by_section (section_of a)
  where
    by_section : (o : Option Section) → steps_on (section_span o a) a i < 64
    by_section None = omega arith
    by_section (Some s) = section_small s (a - first_of s + i)

-- A write to the array stays inside it.
pub array_steps : (a i : ℕ) → a < 512 → steps_on (span_of Array a) a i < 512
array_steps a i l = omega arith

-- The staged place of data byte i is its address modulo 64.
pub staged_place : (area : Area) (a i j : ℕ) → a < room_of area → j < 64
    → eqb (place_at area a i) (place_of area (address_staged area a j)) ≡ eqb (steps_on (span_of area a) a i % 64) j
staged_place Array a i j l lj =
    eqb_both (steps_on (span_of Array a) a i) (page_first a + j) (steps_on (span_of Array a) a i % 64) j
    (λ e. omega arith) (λ e. omega arith)
staged_place Registers a i j l lj =
    let small : steps_on (span_of Registers a) a i < 64 = register_steps a i l in
    eqb_both (512 + steps_on (span_of Registers a) a i) (512 + j) (steps_on (span_of Registers a) a i % 64) j
    (λ e. omega arith) (λ e. omega arith)

-- An address lies inside its area.
pub address_small : (area : Area) (high low : ℕ) → address_in area high low < room_of area
address_small Array high low = omega arith
address_small Registers high low = omega arith

-- The counter stays below 512, however it moves.
pub written_small : (area : Area) (c : ℕ) → c < 512 → next_written area c < 512
written_small Array c l = omega arith
written_small Registers c l = by_section (section_of c)
  where
    below : (n : ℕ) → n < 64 → n < 512
    below n m = omega arith

    by_section : (o : Option Section) → next_by o c < 512
    by_section None = l
    by_section (Some s) = below (next_in s c) (section_small s ((c - first_of s) % length_of s + 1))

pub read_small : (area : Area) (c : ℕ) → c < 512 → next_read area c < 512
read_small Array c l = omega arith
read_small Registers c l = by_section (section_of (c % 64))
  where
    below : (n : ℕ) → n < 64 → n < 512
    below n m = omega arith

    by_section : (o : Option Section) → next_in_section o c < 512
    by_section None = l
    by_section (Some Alarm0) = below (next_in Alarm0 (c % 64)) (section_small Alarm0 ((c % 64 - 0) % 8 + 1))
    by_section (Some Alarm1) = below (next_in Alarm1 (c % 64)) (section_small Alarm1 ((c % 64 - 8) % 8 + 1))
    by_section (Some Control) = below (next_in Control (c % 64)) (section_small Control ((c % 64 - 16) % 4 + 1))
    by_section (Some Clock) = below (next_in Clock (c % 64)) (section_small Clock ((c % 64 - 48) % 8 + 1))
    by_section (Some Status) = l

-- A status read does not move the counter.
pub status_stays : (area : Area) (c : ℕ) → at_status area c ≡ true → next_read area c ≡ c
status_stays Array c e = let z : ◌≡◌ {A = ℕ} 0 1 = cc in absurd (omega arith)
status_stays Registers c e = by_section (section_of (c % 64)) e
  where
    by_section : (o : Option Section) → is_status o ≡ true → next_in_section o c ≡ c
    by_section None q = let z : ◌≡◌ {A = ℕ} 0 1 = cc in absurd (omega arith)
    by_section (Some Alarm0) q = let z : ◌≡◌ {A = ℕ} 0 1 = cc in absurd (omega arith)
    by_section (Some Alarm1) q = let z : ◌≡◌ {A = ℕ} 0 1 = cc in absurd (omega arith)
    by_section (Some Control) q = let z : ◌≡◌ {A = ℕ} 0 1 = cc in absurd (omega arith)
    by_section (Some Clock) q = let z : ◌≡◌ {A = ℕ} 0 1 = cc in absurd (omega arith)
    by_section (Some Status) q = refl

-- A read of anything else never comes to status.
pub status_never : (area : Area) (c : ℕ) → at_status area c ≡ false → at_status area (next_read area c) ≡ false
status_never Array c e = refl
status_never Registers c e = by_section (section_of (c % 64)) refl
  where
    inside : (s : Section) (z : ℕ) → is_status (Some s) ≡ false → is_status (section_of ((first_of s + z % length_of s) % 64)) ≡ false
    inside s z q =
        ap (λ (n : ℕ). is_status (section_of n)) (mod_small (first_of s + z % length_of s) (section_small s z))
        ∙ ap is_status (section_inside s (z % length_of s) (small_step s z)) ∙ q
      where
        mod_small : (n : ℕ) → n < 64 → n % 64 ≡ n
        mod_small n l = omega arith

    by_section : (o : Option Section) → section_of (c % 64) ≡ o → is_status (section_of (next_in_section o c % 64)) ≡ false
    by_section None q = ap is_status q
    by_section (Some Alarm0) q = inside Alarm0 ((c % 64 - 0) % 8 + 1) refl
    by_section (Some Alarm1) q = inside Alarm1 ((c % 64 - 8) % 8 + 1) refl
    by_section (Some Control) q = inside Control ((c % 64 - 16) % 4 + 1) refl
    by_section (Some Clock) q = inside Clock ((c % 64 - 48) % 8 + 1) refl
    by_section (Some Status) q = e
