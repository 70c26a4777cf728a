-- What a journal holds after a record more, and after its bytes are laid down anew.
use Rattle.std.proofs.Common.{◌≡◌, ℕ, zero, suc, ◌+◌, ◌-◌, ◌*◌, ◌<◌, ◌≤◌, Bool, true, false, cond, eqb, ltb, List, [], ◌∷◌, ◌++◌, map, length, get_or, set, replicate, sym, refl, ap, ◌∙◌, subst, ⊎_elim, add-mul, one-mul, zero-mul, add-one, arith}
use Rattle.std.specs.List.{range_with_len, prefix_len}
use Rattle.std.proofs.lemmas.List.FromFn.{map-range_with_len_more}
use Rattle.std.proofs.lemmas.List.{length-set, length-append, length_push, length-replicate}
use Rattle.std.proofs.lemmas.List.Sums.{prefix_len-le-length}
use Rattle.std.proofs.lemmas.Bool.Decides.{nat_tests}
use Rattle.std.proofs.lemmas.Bool.{eqb-true, eqb-false, cond-true, cond-false, cases_order, lt-ltb, le-ltb}
use Rattle.memory.specs.Sizes.{places, byte_values, fewest_words, most_words, most_erasures}
use Rattle.memory.specs.Model.{with_byte}
use Rattle.memory.specs.Journal.{blank, record_word, is_record, factory, byte_at, bytes_of, used_words, records, is_orderly, journal_fit, journal_life, journal, full, records_of, laid_down, with_room, erasures_after, words_after}
use Rattle.memory.specs.Laws.{bytes_small}
use Rattle.memory.proofs.ByteLaws.{length_bytes_of, bytes_from, bytes_push, byte_at_push, word_is_record, word_place, word_byte, length_records_of, get_or_records_of}
use Rattle.memory.proofs.WordLaws.{leading_all, Laid, laid_of, laid_used, laid_records, laid_orderly, laid_append}

-- What fitness says.
pub record Fit (ws : List ℕ) (e : ℕ) : Type 0 where
  pub enough : fewest_words ≤ length ws
  pub few : length ws ≤ most_words
  pub erasures : e ≤ most_erasures
  pub tidy : is_orderly ws ≡ true

pub fit_parts : (ws : List ℕ) (e : ℕ) → journal_fit ws e ≡ true → Fit ws e
fit_parts ws e fit = record {
  enough = grind (arith, nat_tests);
  few = grind (arith, nat_tests);
  erasures = grind (arith, nat_tests);
  tidy = grind (arith, nat_tests);
}

pub fit_from : (ws : List ℕ) (e : ℕ) → Fit ws e → journal_fit ws e ≡ true
fit_from ws e f = grind (arith, nat_tests, f.enough, f.few, f.erasures, f.tidy)

-- The last of n numbers, or one before it.
pick : (n k d : ℕ) (f : ℕ → ℕ) → cond (eqb n k) (f n) (cond (ltb k n) (f k) d) ≡ cond (ltb k (suc n)) (f k) d
pick n k d f = grind (arith, nat_tests)

-- Records of bytes in rising order give these bytes again.
laid_at : (bs : List ℕ) (k n : ℕ) → n ≤ places → ((j : ℕ) → get_or bs j 0 < byte_values)
    → byte_at (map (λ place. record_word place (get_or bs place 0)) (range_with_len 0 n)) k ≡ cond (ltb k n) (get_or bs k 0) (factory k)
laid_at bs k zero low small = sym (cond-false (ltb k 0) _ _ (le-ltb k 0 (omega arith)))
laid_at bs k (suc n) low small =
    let rec : ℕ → ℕ = λ place. record_word place (get_or bs place 0) in
    let below : n < places = omega arith in
    ap (λ m. byte_at (map rec (range_with_len 0 m)) k) (sym (add-one n))
    ∙ ap (λ rs. byte_at rs k) (map-range_with_len_more rec 0 n n (omega arith))
    ∙ byte_at_push (map rec (range_with_len 0 n)) (rec n) k
    ∙ (λ i. cond (eqb (word_place n (get_or bs n 0) below (small n) i) k) (word_byte n (get_or bs n 0) below (small n) i) (laid_at bs k n (omega arith) small i))
    ∙ pick n k (factory k) (λ j. get_or bs j 0)

pub bytes_of_records : (bs : List ℕ) → length bs ≡ places → ((j : ℕ) → get_or bs j 0 < byte_values) → bytes_of (records_of bs) ≡ bs
unfolding records_of
bytes_of_records bs long small =
    sym (bytes_from bs (records_of bs) long (λ k low. sym (laid_at bs k places (omega arith) small ∙ cond-true (ltb k places) _ _ (lt-ltb k places low))))

-- One record more, where there is room.
module _ (ws : List ℕ) (place byte : ℕ) (tidy : is_orderly ws ≡ true) (room : used_words ws < length ws) (low : place < places) (small : byte < byte_values) where
  pub appended_laid : Laid (set ws (used_words ws) (record_word place byte)) (records ws ++ (record_word place byte ∷ []))
  appended_laid =
      let laid = laid_of ws tidy in
      let u = laid_used ws (records ws) laid in
      let P : ℕ → Type 0 = λ n. Laid (set ws n (record_word place byte)) (records ws ++ (record_word place byte ∷ [])) in
      subst P (sym u) (laid_append ws (records ws) laid (record_word place byte) (word_is_record place byte low small) (omega arith))

  pub appended_used : used_words (set ws (used_words ws) (record_word place byte)) ≡ used_words ws + 1
  appended_used = laid_used _ _ appended_laid ∙ length_push (records ws) (record_word place byte) ∙ ap (λ n. n + 1) (sym (laid_used ws (records ws) (laid_of ws tidy)))

module _ (ws : List ℕ) (e place byte : ℕ) (fit : journal_fit ws e ≡ true) (room : used_words ws < length ws) (low : place < places) (small : byte < byte_values) where
  tidy : is_orderly ws ≡ true
  tidy = (fit_parts ws e fit).tidy

  pub appended_fit : journal_fit (set ws (used_words ws) (record_word place byte)) e ≡ true
  appended_fit =
      let f = fit_parts ws e fit in
      let long = length-set ws (used_words ws) (record_word place byte) in
      fit_from (set ws (used_words ws) (record_word place byte)) e (record { enough = omega (arith, f.enough); few = omega (arith, f.few); erasures = f.erasures; tidy = laid_orderly _ _ (appended_laid ws place byte tidy room low small) })

  appended_bytes : bytes_of (records (set ws (used_words ws) (record_word place byte))) ≡ set (bytes_of (records ws)) place byte
  appended_bytes =
      ap bytes_of (laid_records _ _ (appended_laid ws place byte tidy room low small))
      ∙ bytes_push (records ws) (record_word place byte) (word_is_record place byte low small)
      ∙ (λ i. set (bytes_of (records ws)) (word_place place byte low small i) (word_byte place byte low small i))

  appended_life : journal_life (set ws (used_words ws) (record_word place byte)) e ≡ journal_life ws e - 1
  appended_life =
      let long = length-set ws (used_words ws) (record_word place byte) in
      let won : e * (length (set ws (used_words ws) (record_word place byte)) - places) ≡ e * (length ws - places) = ap (λ n. e * (n - places)) long in
      omega (arith, appended_used ws place byte tidy room low small)

  pub appended_is : journal (set ws (used_words ws) (record_word place byte)) e ≡ with_byte (journal ws e) place byte
  appended_is =
      let life : cond (journal_fit (set ws (used_words ws) (record_word place byte)) e) (journal_life (set ws (used_words ws) (record_word place byte)) e) 0
      ≡ cond (journal_fit ws e) (journal_life ws e) 0 - 1 =
      cond-true _ _ 0 appended_fit ∙ appended_life ∙ ap (λ n. n - 1) (sym (cond-true (journal_fit ws e) _ 0 fit)) in
      λ i. record { fit = (appended_fit ∙ sym fit) i; bytes = appended_bytes i; life = life i }

-- The bytes laid down anew.
module _ (ws : List ℕ) (enough : places ≤ length ws) where
  pub down_long : length (laid_down ws) ≡ length ws
  down_long =
      length-append (records_of (bytes_of (records ws))) (replicate (length ws - places) blank)
      ∙ omega (arith, length_records_of (bytes_of (records ws)), length-replicate (length ws - places) blank)

  down_proper : prefix_len is_record (records_of (bytes_of (records ws))) ≡ length (records_of (bytes_of (records ws)))
  down_proper =
      leading_all is_record (records_of (bytes_of (records ws))) (λ k below.
      let low : k < places = omega (arith, length_records_of (bytes_of (records ws))) in
      ap is_record (get_or_records_of (bytes_of (records ws)) k low)
      ∙ word_is_record k (get_or (bytes_of (records ws)) k 0) low (bytes_small (records ws) k))

  pub down_laid : Laid (laid_down ws) (records_of (bytes_of (records ws)))
  down_laid =
      let counted = length_records_of (bytes_of (records ws)) in
      let left : length ws - places ≡ length (laid_down ws) - length (records_of (bytes_of (records ws))) = omega (arith, down_long) in
      record {
        fits = omega (arith, down_long);
        proper = down_proper;
        shape = ap (λ n. records_of (bytes_of (records ws)) ++ replicate n blank) left;
      }

  pub down_used : used_words (laid_down ws) ≡ places
  down_used = laid_used _ _ down_laid ∙ length_records_of (bytes_of (records ws))

-- The same where the journal is full: it spends one erasure, and holds what it held.
module _ (ws : List ℕ) (e : ℕ) (fit : journal_fit ws e ≡ true) (is-full : used_words ws ≡ length ws) (spare : 0 < e) where
  enough : places ≤ length ws
  enough = let f = fit_parts ws e fit in omega (arith, f.enough)

  pub down_fit : journal_fit (laid_down ws) (e - 1) ≡ true
  down_fit =
      let f = fit_parts ws e fit in
      fit_from (laid_down ws) (e - 1) (record { enough = omega (arith, down_long ws enough, f.enough); few = omega (arith, down_long ws enough, f.few); erasures = omega (arith, f.erasures); tidy = laid_orderly _ _ (down_laid ws enough) })

  down_bytes : bytes_of (records (laid_down ws)) ≡ bytes_of (records ws)
  down_bytes = ap bytes_of (laid_records _ _ (down_laid ws enough)) ∙ bytes_of_records (bytes_of (records ws)) (length_bytes_of (records ws)) (bytes_small (records ws))

  down_life : journal_life (laid_down ws) (e - 1) ≡ journal_life ws e
  down_life =
      let won : (e - 1) * (length (laid_down ws) - places) ≡ (e - 1) * (length ws - places) = ap (λ n. (e - 1) * (n - places)) (down_long ws enough) in
      let one : e * (length ws - places) ≡ (e - 1) * (length ws - places) + (length ws - places) =
      ap (λ n. n * (length ws - places)) (omega arith) ∙ add-mul (e - 1) 1 (length ws - places) ∙ ap (λ n. (e - 1) * (length ws - places) + n) (one-mul (length ws - places)) in
      omega (arith, down_used ws enough, down_long ws enough)

  pub down_is : journal (laid_down ws) (e - 1) ≡ journal ws e
  down_is =
      let life : cond (journal_fit (laid_down ws) (e - 1)) (journal_life (laid_down ws) (e - 1)) 0 ≡ cond (journal_fit ws e) (journal_life ws e) 0 =
      cond-true _ _ 0 down_fit ∙ down_life ∙ sym (cond-true (journal_fit ws e) _ 0 fit) in
      λ i. record { fit = (down_fit ∙ sym fit) i; bytes = down_bytes i; life = life i }

-- A fit journal with life has room, or makes it.
pub record Room (ws : List ℕ) (e : ℕ) : Type 0 where
  pub is : journal (with_room ws) (erasures_after ws e) ≡ journal ws e
  pub fit : journal_fit (with_room ws) (erasures_after ws e) ≡ true
  pub left : used_words (with_room ws) < length (with_room ws)

pub spare_erasure : (ws : List ℕ) (e : ℕ) → journal_fit ws e ≡ true → 0 < (journal ws e).life → used_words ws ≡ length ws → 0 < e
spare_erasure ws zero fit alive is-full =
    let life = cond-true (journal_fit ws 0) (journal_life ws 0) 0 fit in
    let none = zero-mul (length ws - places) in
    absurd (omega arith)
spare_erasure ws (suc e) fit alive is-full = omega arith

module _ (ws : List ℕ) (e : ℕ) (fit : journal_fit ws e ≡ true) (alive : 0 < (journal ws e).life) where
  room_by : (b : Bool) → full ws ≡ b
      → (journal (cond b (laid_down ws) ws) (cond b (e - 1) e) ≡ journal ws e)
      × (journal_fit (cond b (laid_down ws) ws) (cond b (e - 1) e) ≡ true)
      × (used_words (cond b (laid_down ws) ws) < length (cond b (laid_down ws) ws))
  room_by true is =
      let all = eqb-true (used_words ws) (length ws) is in
      let spare = spare_erasure ws e fit alive all in
      let f = fit_parts ws e fit in
      (down_is ws e fit all spare, down_fit ws e fit all spare, omega (arith, down_used ws (omega (arith, f.enough)), down_long ws (omega (arith, f.enough)), f.enough))
  room_by false is =
      let some = eqb-false (used_words ws) (length ws) is in
      (refl, fit, ⊎_elim (λ same. absurd (some same)) (⊎_elim (λ below. below) (λ above. absurd (omega (arith, prefix_len-le-length is_record ws)))) (cases_order (used_words ws) (length ws)))

  pub room_made : Room ws e
  room_made = let r = room_by (full ws) refl in record { is = r.0; fit = r.1; left = r.2 }

  -- The words and erasures after a write are the memory with the byte in it.
  pub words_after_is : (place byte : ℕ) → place < places → byte < byte_values
      → journal (words_after ws place byte) (erasures_after ws e) ≡ with_byte (journal ws e) place byte
  words_after_is place byte low small =
      appended_is (with_room ws) (erasures_after ws e) place byte room_made.fit room_made.left low small
      ∙ ap (λ m. with_byte m place byte) room_made.is
