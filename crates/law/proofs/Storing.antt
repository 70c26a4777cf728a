-- The staged places stored one by one: what the memory holds after them, and what they cost.
use Rattle.std.proofs.Common.{◌≡◌, ℕ, zero, suc, ◌+◌, ◌-◌, ◌<◌, ◌≤◌, true, ◌⊎◌, List, length, get_or, Some, None, Option, unwrap_or, sym, refl, ap, ◌∙◌, subst, inl, inr, ⊎_elim, arith}
use Rattle.std.proofs.lemmas.List.{length-set, get_or-set_same, get_or-set_other}
use Rattle.std.proofs.lemmas.Bool.{lt-ltb, ne_eqb, cases_lt}
use Rattle.std.specs.Option.{option_map}
use Rattle.memory.specs.Model.{Mem, written, with_byte}
use Rattle.memory.specs.Sizes.{places}
use Rattle.chip.specs.Pages.{page_first}
use Rattle.chip.specs.Places.{place_of, stores}
use Rattle.chip.specs.Registers.{masked}
use Rattle.chip.specs.declared.slaves.Area.{Area}
use Rattle.chip.specs.declared.slaves.Area.TheVariants.{Array, Registers}
use Rattle.rules.specs.Stored.{stored_as, places_sent}
use Rattle.x1226.specs.Stop.{count_held, address_staged, store_held, stored_held}

-- The place of the first staged byte.
abbrev pub base_of : Area → ℕ → ℕ
base_of Array a = page_first a
base_of Registers a = 512

-- What is held stands for what is sent to the places from base on, and only the first places of the block have a byte.
pub record Sent (held : List (Option ℕ)) (base used : ℕ) (f : ℕ → Option ℕ) : Type 0 where
  pub fits : base + used ≤ places
  pub short : used ≤ 64
  pub inside : (j : ℕ) → j < used → f (base + j) ≡ get_or held j None
  pub outside : (p : ℕ) → (p < base) ⊎ (base + used ≤ p) → f p ≡ None
  pub unheld : (j : ℕ) → used ≤ j → j < 64 → get_or held j None ≡ None

-- The staged place j is j places on from the first.
pub place_staged : (area : Area) (a j : ℕ) → place_of area (address_staged area a j) ≡ base_of area a + j
place_staged Array a j = refl
place_staged Registers a j = refl

-- A byte is stored as the mask of its place says.
pub stores_staged : (area : Area) (a j b : ℕ) → stores area (address_staged area a j) b ≡ stored_as area (base_of area a + j) b
stores_staged Array a j b = refl
stores_staged Registers a j b = ap (λ (r : ℕ). masked r b) (back j)
  where
    back : (j : ℕ) → j ≡ 512 + j - 512
    back j = omega arith

-- One staged place more costs one where it has a byte.
count_some : (held : List (Option ℕ)) (j b : ℕ) → get_or held j None ≡ Some b → count_held held (suc j) ≡ suc (count_held held j)
unfolding count_held
count_some held j b e =
    ap (λ (o : Option ℕ). elim o as (λ _. ℕ) [ Some c ↦ suc (count_held held j) | None ↦ count_held held j ]) e

-- One without a byte costs nothing.
count_none : (held : List (Option ℕ)) (j : ℕ) → get_or held j None ≡ None → count_held held (suc j) ≡ count_held held j
unfolding count_held
count_none held j e =
    ap (λ (o : Option ℕ). elim o as (λ _. ℕ) [ Some c ↦ suc (count_held held j) | None ↦ count_held held j ]) e

-- No staged place costs nothing.
count_zero : (held : List (Option ℕ)) → count_held held 0 ≡ 0
unfolding count_held
count_zero held = refl

-- A place with a byte sent to it counts.
sent_some : (f : ℕ → Option ℕ) (p b : ℕ) → f p ≡ Some b → places_sent f (suc p) ≡ suc (places_sent f p)
sent_some f p b e =
    ap (λ (o : Option ℕ). elim o as (λ _. ℕ) [ Some c ↦ suc (places_sent f p) | None ↦ places_sent f p ]) e

-- A place with none does not.
sent_none : (f : ℕ → Option ℕ) (p : ℕ) → f p ≡ None → places_sent f (suc p) ≡ places_sent f p
sent_none f p e =
    ap (λ (o : Option ℕ). elim o as (λ _. ℕ) [ Some c ↦ suc (places_sent f p) | None ↦ places_sent f p ]) e

-- Places to which nothing is sent do not count.
sent_past : (f : ℕ → Option ℕ) (n d : ℕ) → ((p : ℕ) → n ≤ p → p < n + d → f p ≡ None) → places_sent f (n + d) ≡ places_sent f n
sent_past f n zero quiet = ap (places_sent f) (same n)
  where
    same : (n : ℕ) → n + 0 ≡ n
    same n = omega arith
sent_past f n (suc d) quiet =
    ap (places_sent f) (step n d)
    ∙ sent_none f (n + d) (quiet (n + d) (omega arith) (omega arith))
    ∙ sent_past f n d (λ p a b. quiet p a (omega arith))
  where
    step : (n d : ℕ) → n + suc d ≡ suc (n + d)
    step n d = omega arith

-- Staged places without a byte do not count.
count_past : (held : List (Option ℕ)) (n d : ℕ) → ((j : ℕ) → n ≤ j → j < n + d → get_or held j None ≡ None)
    → count_held held (n + d) ≡ count_held held n
count_past held n zero quiet = ap (count_held held) (same n)
  where
    same : (n : ℕ) → n + 0 ≡ n
    same n = omega arith
count_past held n (suc d) quiet =
    ap (count_held held) (step n d)
    ∙ count_none held (n + d) (quiet (n + d) (omega arith) (omega arith))
    ∙ count_past held n d (λ p a b. quiet p a (omega arith))
  where
    step : (n d : ℕ) → n + suc d ≡ suc (n + d)
    step n d = omega arith

-- Each staged place counts as its place does.
count_inside : (held : List (Option ℕ)) (base : ℕ) (f : ℕ → Option ℕ) (n : ℕ)
    → ((p : ℕ) → p < base → f p ≡ None) → ((j : ℕ) → j < n → f (base + j) ≡ get_or held j None)
    → places_sent f (base + n) ≡ count_held held n
count_inside held base f zero quiet same =
    ap (places_sent f) (none base) ∙ sent_past f 0 base (λ p a b. quiet p (omega arith)) ∙ sym (count_zero held)
  where
    none : (n : ℕ) → n + 0 ≡ 0 + n
    none n = omega arith
count_inside held base f (suc n) quiet same =
    ap (places_sent f) (step base n) ∙ go (count_inside held base f n quiet (λ j l. same j (omega arith))) (get_or held n None) refl
  where
    step : (n d : ℕ) → n + suc d ≡ suc (n + d)
    step n d = omega arith

    go : places_sent f (base + n) ≡ count_held held n → (o : Option ℕ) → get_or held n None ≡ o
        → places_sent f (suc (base + n)) ≡ count_held held (suc n)
    go before (Some b) e = sent_some f (base + n) b (same n (omega arith) ∙ e) ∙ ap suc before ∙ sym (count_some held n b e)
    go before None e = sent_none f (base + n) (same n (omega arith) ∙ e) ∙ before ∙ sym (count_none held n e)

-- The staged places with a byte are as many as the places sent.
pub count_sent : (held : List (Option ℕ)) (base used : ℕ) (f : ℕ → Option ℕ) → Sent held base used f
    → count_held held 64 ≡ places_sent f places
count_sent held base used f t =
    ap (count_held held) (rest used 64 t.short)
    ∙ count_past held used (64 - used) (λ j a b. t.unheld j a (omega (arith, t.short)))
    ∙ sym (count_inside held base f used (λ p l. t.outside p (inl l)) t.inside)
    ∙ sym (sent_past f (base + used) (places - (base + used)) (λ p a b. t.outside p (inr a)))
    ∙ ap (places_sent f) (sym (rest (base + used) places t.fits))
  where
    rest : (a b : ℕ) → a ≤ b → b ≡ a + (b - a)
    rest a b l = omega arith

-- One staged place more costs no less.
count_grows : (held : List (Option ℕ)) (n : ℕ) → count_held held n ≤ count_held held (suc n)
count_grows held n = go (get_or held n None) refl
  where
    go : (o : Option ℕ) → get_or held n None ≡ o → count_held held n ≤ count_held held (suc n)
    go (Some b) e = omega (arith, count_some held n b e)
    go None e = omega (arith, count_none held n e)

-- A write to a fit memory with life left, at one of its places, is made.
pub written_is : (m : Mem) (p b : ℕ) → m.fit ≡ true → p < places → 0 < m.life → written m p b ≡ with_byte m p b
written_is m p b fit small alive =
    rw (fit, lt-ltb p places small, ne_eqb m.life 0 (λ z. omega arith))

-- The memory after the first n staged places are stored: their bytes are as sent, all others as before.
pub record Kept (area : Area) (base : ℕ) (held : List (Option ℕ)) (m after : Mem) (n : ℕ) : Type 0 where
  pub fit : after.fit ≡ true
  pub sized : length after.bytes ≡ places
  pub life : after.life ≡ m.life - count_held held n
  pub block : (j : ℕ) → j < n
      → get_or after.bytes (base + j) 0
      ≡ unwrap_or (option_map (stored_as area (base + j)) (get_or held j None)) (get_or m.bytes (base + j) 0)
  pub others : (p : ℕ) → (p < base) ⊎ (base + n ≤ p) → get_or after.bytes p 0 ≡ get_or m.bytes p 0

module _ (area : Area) (a : ℕ) (held : List (Option ℕ)) (m : Mem) where
  -- The place of the first staged byte.
  abbrev base : ℕ
  base = base_of area a

  -- A staged place without a byte leaves the memory.
  kept_none : (n : ℕ) (after : Mem) → get_or held n None ≡ None → Kept area base held m after n → Kept area base held m after (suc n)
  kept_none n after e k =
      record {
        fit = k.fit;
        sized = k.sized;
        life = k.life ∙ ap (λ (c : ℕ). m.life - c) (sym (count_none held n e));
        block = λ j l. ⊎_elim
            (λ lt. k.block j lt)
            (λ ge. here j (omega arith))
            (cases_lt j n);
        others = λ p o. k.others p (⊎_elim (λ b. inl b) (λ b. inr (omega arith)) o);
      }
    where
      at_n : get_or after.bytes (base + n) 0 ≡ unwrap_or (option_map (stored_as area (base + n)) (get_or held n None)) (get_or m.bytes (base + n) 0)
      at_n =
          k.others (base + n) (inr (omega arith))
          ∙ ap (λ (o : Option ℕ). unwrap_or (option_map (stored_as area (base + n)) o) (get_or m.bytes (base + n) 0)) (sym e)

      here : (j : ℕ) → n ≡ j
          → get_or after.bytes (base + j) 0 ≡ unwrap_or (option_map (stored_as area (base + j)) (get_or held j None)) (get_or m.bytes (base + j) 0)
      here j q =
          subst (λ (i : ℕ). get_or after.bytes (base + i) 0 ≡ unwrap_or (option_map (stored_as area (base + i)) (get_or held i None)) (get_or m.bytes (base + i) 0))
          q at_n

  -- One with a byte is written.
  kept_some : (n b : ℕ) (after : Mem) → get_or held n None ≡ Some b → base + n < places
      → Kept area base held m after n → Kept area base held m (with_byte after (base + n) (stored_as area (base + n) b)) (suc n)
  kept_some n b after e small k =
      record {
        fit = k.fit;
        sized = length-set after.bytes (base + n) (stored_as area (base + n) b) ∙ k.sized;
        life = ap (λ (c : ℕ). c - 1) k.life ∙ one_less m.life (count_held held n) ∙ ap (λ (c : ℕ). m.life - c) (sym (count_some held n b e));
        block = λ j l. ⊎_elim
            (λ lt. get_or-set_other after.bytes (base + n) (base + j) (stored_as area (base + n) b) 0 (λ q. omega arith) ∙ k.block j lt)
            (λ ge. here j (omega arith))
            (cases_lt j n);
        others = λ p o.
            get_or-set_other after.bytes (base + n) p (stored_as area (base + n) b) 0
            (λ q. ⊎_elim (λ z. omega arith) (λ z. omega arith) o)
            ∙ k.others p (⊎_elim (λ z. inl z) (λ z. inr (omega arith)) o);
      }
    where
      one_less : (x c : ℕ) → x - c - 1 ≡ x - suc c
      one_less x c = omega arith

      at_n : get_or (with_byte after (base + n) (stored_as area (base + n) b)).bytes (base + n) 0 ≡ unwrap_or (option_map (stored_as area (base + n)) (get_or held n None)) (get_or m.bytes (base + n) 0)
      at_n =
          get_or-set_same after.bytes (base + n) (stored_as area (base + n) b) 0 (omega (arith, k.sized))
          ∙ ap (λ (o : Option ℕ). unwrap_or (option_map (stored_as area (base + n)) o) (get_or m.bytes (base + n) 0)) (sym e)

      here : (j : ℕ) → n ≡ j
          → get_or (with_byte after (base + n) (stored_as area (base + n) b)).bytes (base + j) 0 ≡ unwrap_or (option_map (stored_as area (base + j)) (get_or held j None)) (get_or m.bytes (base + j) 0)
      here j q =
          subst (λ (i : ℕ). get_or (with_byte after (base + n) (stored_as area (base + n) b)).bytes (base + i) 0 ≡ unwrap_or (option_map (stored_as area (base + i)) (get_or held i None)) (get_or m.bytes (base + i) 0))
          q at_n

  -- One staged place more.
  kept_more : (n : ℕ) (after : Mem) → ((b : ℕ) → get_or held n None ≡ Some b → base + n < places)
      → count_held held (suc n) ≤ m.life → (o : Option ℕ) → get_or held n None ≡ o
      → Kept area base held m after n → Kept area base held m (store_held area a n o after) (suc n)
  kept_more n after room lasts None e k = kept_none n after e k
  kept_more n after room lasts (Some b) e k =
      let alive : 0 < after.life = omega (arith, k.life, count_some held n b e) in
      let now : written after (place_of area (address_staged area a n)) (stores area (address_staged area a n) b)
      ≡ with_byte after (base + n) (stored_as area (base + n) b) =
      ap (λ (p : ℕ). written after p (stores area (address_staged area a n) b)) (place_staged area a n)
      ∙ ap (λ (c : ℕ). written after (base + n) c) (stores_staged area a n b)
      ∙ written_is after (base + n) (stored_as area (base + n) b) k.fit (room b e) alive in
      subst (λ (x : Mem). Kept area base held m x (suc n)) (sym now) (kept_some n b after e (room b e) k)

  -- All of the first n.
  kept_all : m.fit ≡ true → length m.bytes ≡ places → (n : ℕ)
      → ((j b : ℕ) → j < n → get_or held j None ≡ Some b → base + j < places)
      → count_held held n ≤ m.life → Kept area base held m (stored_held area a held n m) n
  unfolding stored_held
  kept_all fit sized zero room lasts =
      record {
        fit = fit;
        sized = sized;
        life = rest m.life (count_held held 0) (count_zero held);
        block = λ j l. absurd (omega arith);
        others = λ p o. refl;
      }
    where
      rest : (x c : ℕ) → c ≡ 0 → x ≡ x - c
      rest x c e = omega arith
  kept_all fit sized (suc n) room lasts =
      kept_more n (stored_held area a held n m) (λ b e. room n b (omega arith) e) lasts (get_or held n None) refl
      (kept_all fit sized n (λ j b l e. room j b (omega arith) e) (omega (arith, count_grows held n)))

-- A memory after bytes were sent: each place sent holds its byte, the others are as before, and life falls by one for each.
pub record HeldStored (area : Area) (f : ℕ → Option ℕ) (m after : Mem) : Type 0 where
  pub fit : after.fit ≡ true
  pub sized : length after.bytes ≡ places
  pub life : after.life ≡ m.life - places_sent f places
  pub bytes : (p : ℕ) → p < places
      → get_or after.bytes p 0 ≡ unwrap_or (option_map (stored_as area p) (f p)) (get_or m.bytes p 0)

-- Where the life lasts, storing what is held stores what was sent.
pub held_stored : (area : Area) (a used : ℕ) (held : List (Option ℕ)) (f : ℕ → Option ℕ) (m : Mem)
    → Sent held (base_of area a) used f → m.fit ≡ true → length m.bytes ≡ places → count_held held 64 ≤ m.life
    → HeldStored area f m (stored_held area a held 64 m)
held_stored area a used held f m t fit sized lasts =
    record {
      fit = k.fit;
      sized = k.sized;
      life = k.life ∙ ap (λ (c : ℕ). m.life - c) (count_sent held (base_of area a) used f t);
      bytes = λ p l. at_place p (cases_lt p (base_of area a)) (cases_lt p (base_of area a + used));
    }
  where
    room : (j b : ℕ) → j < 64 → get_or held j None ≡ Some b → base_of area a + j < places
    room j b l e =
        ⊎_elim
        (λ lt. omega (arith, t.fits))
        (λ ge. let z : ◌≡◌ {A = Option ℕ} None (Some b) = sym (t.unheld j ge l) ∙ e in let y : ◌≡◌ {A = ℕ} 0 1 = cc in absurd (omega arith))
        (cases_lt j used)

    k : Kept area (base_of area a) held m (stored_held area a held 64 m) 64
    k = kept_all area a held m fit sized 64 room lasts

    at_block : (p j : ℕ) → base_of area a + j ≡ p → j < used
        → get_or (stored_held area a held 64 m).bytes p 0 ≡ unwrap_or (option_map (stored_as area p) (f p)) (get_or m.bytes p 0)
    at_block p j e l =
        subst (λ (q : ℕ). get_or (stored_held area a held 64 m).bytes q 0 ≡ unwrap_or (option_map (stored_as area q) (f q)) (get_or m.bytes q 0)) e
        (k.block j (omega (arith, t.short))
        ∙ ap (λ (o : Option ℕ). unwrap_or (option_map (stored_as area (base_of area a + j)) o) (get_or m.bytes (base_of area a + j) 0)) (sym (t.inside j l)))

    past : (p : ℕ) → base_of area a + used ≤ p → get_or (stored_held area a held 64 m).bytes p 0 ≡ get_or m.bytes p 0
    past p ge =
        ⊎_elim
        (λ lt. unheld_at p (p - base_of area a) (omega arith) (omega arith) (omega arith))
        (λ gt. k.others p (inr gt))
        (cases_lt p (base_of area a + 64))
      where
        unheld_at : (p j : ℕ) → base_of area a + j ≡ p → used ≤ j → j < 64 → get_or (stored_held area a held 64 m).bytes p 0 ≡ get_or m.bytes p 0
        unheld_at p j e u l =
            subst (λ (q : ℕ). get_or (stored_held area a held 64 m).bytes q 0 ≡ get_or m.bytes q 0) e
            (k.block j l
            ∙ ap (λ (o : Option ℕ). unwrap_or (option_map (stored_as area (base_of area a + j)) o) (get_or m.bytes (base_of area a + j) 0)) (t.unheld j u l))

    quiet_at : (p : ℕ) → f p ≡ None → get_or (stored_held area a held 64 m).bytes p 0 ≡ get_or m.bytes p 0
        → get_or (stored_held area a held 64 m).bytes p 0 ≡ unwrap_or (option_map (stored_as area p) (f p)) (get_or m.bytes p 0)
    quiet_at p n e = e ∙ ap (λ (o : Option ℕ). unwrap_or (option_map (stored_as area p) o) (get_or m.bytes p 0)) (sym n)

    at_place : (p : ℕ) → (p < base_of area a) ⊎ (base_of area a ≤ p) → (p < base_of area a + used) ⊎ (base_of area a + used ≤ p)
        → get_or (stored_held area a held 64 m).bytes p 0 ≡ unwrap_or (option_map (stored_as area p) (f p)) (get_or m.bytes p 0)
    at_place p (inl lt) o = quiet_at p (t.outside p (inl lt)) (k.others p (inl lt))
    at_place p (inr ge) (inl lt) = at_block p (p - base_of area a) (omega arith) (omega arith)
    at_place p (inr ge) (inr gt) = quiet_at p (t.outside p (inr gt)) (past p gt)
