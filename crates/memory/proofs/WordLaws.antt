-- Records, then blanks: what the words of a journal hold, and what a record more makes of them.
use Rattle.std.proofs.Common.{◌≡◌, ℕ, zero, suc, ◌+◌, ◌-◌, ◌<◌, ◌≤◌, Bool, true, false, cond, ◌&&◌, eqb, List, [], ◌∷◌, ◌++◌, length, get_or, take, drop, set, replicate, sym, refl, ap, ◌∙◌, arith}
use Rattle.std.specs.List.{prefix_len}
use Rattle.std.proofs.lemmas.List.{length-take, length-drop, length-set, length-append, length_push, take_at, take-append-drop, drop_at, set_at, append_assoc, get_or-take}
use Rattle.std.proofs.lemmas.List.Folds.{length-prefix_len, prefix_len-append}
use Rattle.std.proofs.lemmas.List.Sums.{prefix_len-le-length, prefix_len_is, prefix_len_passes}
use Rattle.std.proofs.lemmas.Bool.{eq-eqb, eqb-true, and_parts, cond-true}
use Rattle.memory.specs.Journal.{blank, blanks, is_record, used_words, records, is_orderly}

-- A list that passes as a whole, and one after it.
leading_append : (p : ℕ → Bool) (xs ys : List ℕ) → prefix_len p xs ≡ length xs → prefix_len p (xs ++ ys) ≡ length xs + prefix_len p ys
leading_append p xs ys all = prefix_len-append p xs ys ∙ cond-true _ _ _ (eq-eqb (prefix_len p xs) (length xs) all)

pub leading_all : (p : ℕ → Bool) (xs : List ℕ) → ((k : ℕ) → k < length xs → p (get_or xs k 0) ≡ true) → prefix_len p xs ≡ length xs
leading_all p xs each = prefix_len_is p xs (length xs) 0 (omega arith) each (λ past. absurd (omega arith))

-- Each word that is used is a record.
pub used_is_record : (ws : List ℕ) (n i : ℕ) → n ≡ used_words ws → i < length (take n ws) → is_record (get_or (take n ws) i 0) ≡ true
used_is_record ws n i counted within =
    let front : i < n = omega (arith, length-take n ws) in
    ap is_record (get_or-take n ws i 0 front) ∙ prefix_len_passes is_record ws i 0 (omega arith)

blank_no_record : (n : ℕ) → prefix_len is_record (replicate n blank) ≡ 0
blank_no_record zero = refl
blank_no_record (suc n) = refl

blanks_replicate : (n : ℕ) → blanks (replicate n blank) ≡ true
blanks_replicate zero = refl
blanks_replicate (suc n) = blanks_replicate n

blanks_are : (xs : List ℕ) → blanks xs ≡ true → xs ≡ replicate (length xs) blank
blanks_are [] all = refl
blanks_are (x ∷ xs) all =
    let parts = and_parts (eqb x blank) (blanks xs) all in
    λ i. eqb-true x blank parts.0 i ∷ blanks_are xs parts.1 i

-- Words that are records, as many as there are, and then blanks.
pub record Laid (ws rs : List ℕ) : Type 0 where
  pub fits : length rs ≤ length ws
  pub proper : prefix_len is_record rs ≡ length rs
  pub shape : ws ≡ rs ++ replicate (length ws - length rs) blank

module _ (ws rs : List ℕ) (laid : Laid ws rs) where
  pub laid_used : used_words ws ≡ length rs
  laid_used =
      ap used_words laid.shape
      ∙ leading_append is_record rs _ laid.proper
      ∙ omega (arith, blank_no_record (length ws - length rs))

  pub laid_records : records ws ≡ rs
  laid_records =
      (λ i. take (laid_used i) (laid.shape i)) ∙ take_at rs (replicate (length ws - length rs) blank) (length rs) refl

  pub laid_orderly : is_orderly ws ≡ true
  laid_orderly =
      (λ i. blanks (drop (laid_used i) (laid.shape i)))
      ∙ ap blanks (drop_at rs (replicate (length ws - length rs) blank) (length rs) refl)
      ∙ blanks_replicate (length ws - length rs)

  -- A record more, where there is room.
  pub laid_append : (w : ℕ) → is_record w ≡ true → length rs < length ws → Laid (set ws (length rs) w) (rs ++ (w ∷ []))
  laid_append w is room =
      let n = length ws - length rs - 1 in
      let left : length ws - length rs ≡ suc n = omega arith in
      let long : length (set ws (length rs) w) - length (rs ++ (w ∷ [])) ≡ n = simp (length-set, length-append) (omega arith) in
      record {
        fits = simp (length-set, length-append) (omega arith);
        proper = leading_append is_record rs (w ∷ []) laid.proper ∙ ap (λ b. length rs + cond b 1 0) is ∙ sym (length_push rs w);
        shape =
            ap (λ xs. set xs (length rs) w) (laid.shape ∙ ap (λ k. rs ++ replicate k blank) left)
            ∙ set_at rs blank (replicate n blank) w (length rs) refl
            ∙ sym (append_assoc rs (w ∷ []) (replicate n blank))
            ∙ ap (λ k. (rs ++ (w ∷ [])) ++ replicate k blank) (sym long);
      }

-- Orderly words are laid so.
pub laid_of : (ws : List ℕ) → is_orderly ws ≡ true → Laid ws (records ws)
laid_of ws tidy =
    let n = used_words ws in
    let few = prefix_len-le-length is_record ws in
    let long : length (records ws) ≡ n = length-prefix_len is_record ws in
    let rest : length (drop n ws) ≡ length ws - length (records ws) = length-drop n ws ∙ omega (arith, long) in
    record {
      fits = omega (arith, long);
      proper = leading_all is_record (records ws) (λ k below. used_is_record ws n k refl below);
      shape = sym (take-append-drop n ws) ∙ ap (λ xs. take n ws ++ xs) (blanks_are (drop n ws) tidy ∙ ap (λ k. replicate k blank) rest);
    }

-- Blanks and one word more are blanks where that is one.
pub blanks_push : (xs : List ℕ) (x : ℕ) → blanks (xs ++ (x ∷ [])) ≡ (blanks xs && eqb x blank)
blanks_push [] x = elim (eqb x blank) as (λ b. (b && true) ≡ b) [ true ↦ refl | false ↦ refl ]
blanks_push (y ∷ ys) x = elim (eqb y blank) as (λ b. (b && blanks (ys ++ (x ∷ []))) ≡ ((b && blanks ys) && eqb x blank)) [ true ↦ blanks_push ys x | false ↦ refl ]

-- A blank word keeps the order.
pub and_blank : (tidy : Bool) (word : ℕ) → word ≡ blank → tidy ≡ (tidy && eqb word blank)
and_blank tidy word is = rw (eq-eqb word blank is) (elim tidy as (λ b. b ≡ (b && true)) [ true ↦ refl | false ↦ refl ])
