-- What a complete write asks for: the places of its data bytes, and what is held for each.
use Rattle.std.proofs.Common.{◌≡◌, ℕ, zero, suc, ◌+◌, ◌-◌, ◌/◌, ◌%◌, ◌<◌, ◌≤◌, Bool, cond, ◌⊎◌, List, [], ◌∷◌, map, length, get_or, Some, None, Option, sym, refl, ap, ◌∙◌, inr, ⊎_elim, arith}
use Rattle.std.proofs.lemmas.List.{length_push, length-map, get_or_append_left, get_or_push, get_or-map}
use Rattle.std.proofs.lemmas.Bool.{ne_eqb, cases_lt}
use Rattle.chip.specs.Pages.{page_first}
use Rattle.chip.specs.Registers.{section_of, first_of, length_of}
use Rattle.chip.specs.declared.registers.Section.{Section}
use Rattle.chip.specs.declared.registers.Section.TheVariants.{Alarm0, Alarm1, Control, Clock, Status}
use Rattle.chip.specs.declared.slaves.Area.{Area}
use Rattle.chip.specs.declared.slaves.Area.TheVariants.{Array, Registers}
use Rattle.rules.specs.Frames.{Sample, address, data_byte}
use Rattle.rules.specs.Stored.{span_of, section_span, steps_on, place_at, last_sent, sent_raw}
use Rattle.rules.specs.Stop.{up, write_in}
use Rattle.law.proofs.Samples.{last_sent_same}
use Rattle.law.proofs.Storing.{base_of, Sent}

-- Nothing is sent to a place that no data byte has.
pub last_sent_none : (area : Area) (a : ℕ) (d : ℕ → ℕ) (n p : ℕ) → ((i : ℕ) → place_at area a i ≡ p → ⊥) → last_sent area a d n p ≡ None
last_sent_none area a d zero p away = refl
last_sent_none area a d (suc i) p away =
    ap (λ (b : Bool). cond b (Some (d i)) (last_sent area a d i p)) (ne_eqb (place_at area a i) p (away i))
    ∙ last_sent_none area a d i p away

-- A write to the array sends inside one page.
pub sent_array : (a n : ℕ) (d : ℕ → ℕ) (held : List (Option ℕ)) → a < 512
    → ((j : ℕ) → j < 64 → get_or held j None ≡ last_sent Array a d n (base_of Array a + j))
    → Sent held (base_of Array a) 64 (last_sent Array a d n)
sent_array a n d held small same =
    record {
      fits = omega arith;
      short = omega arith;
      inside = λ j l. sym (same j l);
      outside = λ p o. last_sent_none Array a d n p (λ i e. ⊎_elim (λ b. below a i p e b) (λ b. above a i p e b) o);
      unheld = λ j u l. absurd (omega arith);
    }
  where
    below : (a i p : ℕ) → place_at Array a i ≡ p → p < page_first a → ⊥
    below a i p e b = omega arith

    above : (a i p : ℕ) → place_at Array a i ≡ p → page_first a + 64 ≤ p → ⊥
    above a i p e b = omega arith

-- A step inside a section stays below its end.
step_below : (s : Section) (z : ℕ) → first_of s + z % length_of s < first_of s + length_of s
step_below Alarm0 z = omega arith
step_below Alarm1 z = omega arith
step_below Control z = omega arith
step_below Clock z = omega arith
step_below Status z = omega arith

-- A write to a section that the memory stores sends to no place past it.
pub sent_registers : (a n : ℕ) (d : ℕ → ℕ) (held : List (Option ℕ)) (s : Section) → section_of a ≡ Some s → first_of s + length_of s ≤ 20
    → ((j : ℕ) → j < 64 → get_or held j None ≡ last_sent Registers a d n (base_of Registers a + j))
    → Sent held (base_of Registers a) 20 (last_sent Registers a d n)
sent_registers a n d held s e short same =
    record {
      fits = omega arith;
      short = omega arith;
      inside = λ j l. sym (same j (omega arith));
      outside = λ p o. outside p o;
      unheld = λ j u l. same j l ∙ outside (512 + j) (inr (omega arith));
    }
  where
    step : (i : ℕ) → steps_on (span_of Registers a) a i < 20
    step i =
        let q : steps_on (span_of Registers a) a i ≡ steps_on (section_span (Some s) a) a i =
        ap (λ (o : Option Section). steps_on (section_span o a) a i) e in
        omega (arith, q, step_below s (a - first_of s + i))

    outside : (p : ℕ) → (p < 512) ⊎ (512 + 20 ≤ p) → last_sent Registers a d n p ≡ None
    outside p o =
        last_sent_none Registers a d n p (λ i q. ⊎_elim (λ b. omega (arith, step i)) (λ b. omega (arith, step i)) o)

-- What is sent by another name.
pub sent_same : (held : List (Option ℕ)) (base used : ℕ) (f g : ℕ → Option ℕ) → ((p : ℕ) → g p ≡ f p)
    → Sent held base used f → Sent held base used g
sent_same held base used f g same t =
    record {
      fits = t.fits;
      short = t.short;
      inside = λ j l. same (base + j) ∙ t.inside j l;
      outside = λ p o. same p ∙ t.outside p o;
      unheld = t.unheld;
    }

-- There are n numbers up to n.
up_length : (n : ℕ) → length (up n) ≡ n
up_length zero = refl
up_length (suc n) = omega (arith, length_push (up n) n, up_length n)

-- The number at i is i.
up_at : (n i : ℕ) → i < n → get_or (up n) i 0 ≡ i
up_at zero i l = absurd (omega arith)
up_at (suc n) i l =
    ⊎_elim
    (λ lt. get_or_append_left (up n) (n ∷ []) 0 i (omega (arith, up_length n)) ∙ up_at n i lt)
    (λ ge. get_or_push (up n) n 0 i (omega (arith, up_length n)) ∙ (omega arith))
    (cases_lt i n)

-- The write that a frame asks for sends its data bytes, the last to each place.
pub raw_sent : (area : Area) (xs : List Sample) (n p : ℕ) → length xs / 9 - 3 ≡ n
    → sent_raw (write_in area xs) p ≡ last_sent area (address area xs) (data_byte xs) n p
raw_sent area xs n p e =
    ap (λ (k : ℕ). last_sent area (address area xs) (λ i. get_or (map (data_byte xs) (up k)) i 0) (length (map (data_byte xs) (up k))) p) e
    ∙ ap (λ (k : ℕ). last_sent area (address area xs) (λ i. get_or (map (data_byte xs) (up n)) i 0) k p) (length-map (up n) (data_byte xs) ∙ up_length n)
    ∙ last_sent_same area (address area xs) (λ i. get_or (map (data_byte xs) (up n)) i 0) (data_byte xs) n p
    (λ i l. get_or-map (data_byte xs) (up n) i 0 0 (omega (arith, up_length n)) ∙ ap (data_byte xs) (up_at n i l))
