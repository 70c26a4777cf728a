-- The bytes that records give: at each place, and with one record more.
use Rattle.std.proofs.Common.{◌≡◌, ℕ, ◌+◌, ◌-◌, ◌/◌, ◌%◌, ◌<◌, ◌≤◌, true, eqb, List, [], ◌∷◌, ◌++◌, length, get_or, take, set, replicate, sym, ap, ◌∙◌, ⊎_elim, arith}
use Rattle.std.proofs.lemmas.List.FromFn.{length-map-range_with_len, get_or-map-range_with_len, fill_by_all}
use Rattle.std.proofs.lemmas.List.{length-set, get_or-set_same, get_or-set_other, length-replicate, drop-replicate, take_more}
use lib.Seq.{paste}
use Rattle.std.proofs.lemmas.List.Edits.{paste_more, paste_all}
use Rattle.std.proofs.lemmas.List.Sums.{fold_push}
use Rattle.std.proofs.lemmas.Bool.{cases_eq, cond-true, cond-false, eq-eqb, ne_eqb, lt-ltb}
use Rattle.memory.specs.Sizes.{places, byte_values, record_limit}
use Rattle.memory.specs.Journal.{blank, factory, replaced, byte_at, bytes_of, is_record, record_word, records_of}

pub length_bytes_of : (rs : List ℕ) → length (bytes_of rs) ≡ places
unfolding bytes_of
length_bytes_of rs = length-map-range_with_len (byte_at rs) 0 places

pub get_or_bytes_of : (rs : List ℕ) (place : ℕ) → place < places → get_or (bytes_of rs) place 0 ≡ byte_at rs place
unfolding bytes_of
get_or_bytes_of rs place low = get_or-map-range_with_len (byte_at rs) 0 places place place 0 low (omega arith)

-- Bytes that are right at each place are the bytes that the records give.
pub bytes_from : (xs rs : List ℕ) → length xs ≡ places → ((k : ℕ) → k < places → get_or xs k 0 ≡ byte_at rs k) → xs ≡ bytes_of rs
unfolding bytes_of
bytes_from xs rs long each = fill_by_all (byte_at rs) xs places 0 long each

-- The byte at a place is its record's, or the one before.
pub byte_at_push : (rs : List ℕ) (word place : ℕ) → byte_at (rs ++ (word ∷ [])) place ≡ replaced place (byte_at rs place) word
byte_at_push rs word place = fold_push (replaced place) (factory place) rs word

-- A record more sets the byte at its place, and no other.
pub bytes_push : (rs : List ℕ) (word : ℕ) → is_record word ≡ true → bytes_of (rs ++ (word ∷ [])) ≡ set (bytes_of rs) (word / byte_values) (word % byte_values)
bytes_push rs word is =
    let at = word / byte_values in
    let long : length (set (bytes_of rs) at (word % byte_values)) ≡ places = length-set (bytes_of rs) at (word % byte_values) ∙ length_bytes_of rs in
    sym (bytes_from (set (bytes_of rs) at (word % byte_values)) (rs ++ (word ∷ [])) long (λ k low.
    ⊎_elim
    (λ same. here k low same)
    (λ other. get_or-set_other (bytes_of rs) at k (word % byte_values) 0 (λ e. other (sym e)) ∙ get_or_bytes_of rs k low
    ∙ sym (byte_at_push rs word k ∙ cond-false (eqb at k) _ _ (ne_eqb at k other)))
    (cases_eq at k)))
  where
    here : (k : ℕ) → k < places → word / byte_values ≡ k → get_or (set (bytes_of rs) (word / byte_values) (word % byte_values)) k 0 ≡ byte_at (rs ++ (word ∷ [])) k
    here k low same =
        ap (λ j. get_or (set (bytes_of rs) (word / byte_values) (word % byte_values)) j 0) (sym same)
        ∙ get_or-set_same (bytes_of rs) (word / byte_values) (word % byte_values) 0 (omega (arith, length_bytes_of rs))
        ∙ sym (byte_at_push rs word k ∙ cond-true (eqb (word / byte_values) k) _ _ (eq-eqb (word / byte_values) k same))

-- A word made of a place and a byte is a record, of that place and byte.
module _ (place byte : ℕ) (low : place < places) (small : byte < byte_values) where
  pub word_is_record : is_record (record_word place byte) ≡ true
  word_is_record = lt-ltb (record_word place byte) record_limit (omega arith)

  pub word_place : record_word place byte / byte_values ≡ place
  word_place = omega arith

  pub word_byte : record_word place byte % byte_values ≡ byte
  word_byte = omega arith

-- The bytes gathered from the first words, one record more.
pub gathered_more : (ws : List ℕ) (i : ℕ) (xs : List ℕ) (place byte : ℕ) → i < length ws → is_record (get_or ws i 0) ≡ true
    → xs ≡ bytes_of (take i ws) → place ≡ get_or ws i 0 / byte_values → byte ≡ get_or ws i 0 % byte_values
    → set xs place byte ≡ bytes_of (take (i + 1) ws)
gathered_more ws i xs place byte more is was at of =
    (λ j. set (was j) (at j) (of j))
    ∙ sym (bytes_push (take i ws) (get_or ws i 0) is)
    ∙ ap bytes_of (sym (take_more ws i 0 more))

-- A record for each place.
pub length_records_of : (bs : List ℕ) → length (records_of bs) ≡ places
unfolding records_of
length_records_of bs = length-map-range_with_len (λ place. record_word place (get_or bs place 0)) 0 places

pub get_or_records_of : (bs : List ℕ) (place : ℕ) → place < places → get_or (records_of bs) place 0 ≡ record_word place (get_or bs place 0)
unfolding records_of
get_or_records_of bs place low = get_or-map-range_with_len (λ place. record_word place (get_or bs place 0)) 0 places place place 0 low (omega arith)

-- One record more that is laid down on blanks.
pub laid_more : (n : ℕ) (bs : List ℕ) (now : List ℕ) (place word : ℕ) → places ≤ n → place < places
    → now ≡ paste (replicate n blank) 0 (records_of bs) place → word ≡ record_word place (get_or bs place 0)
    → set now place word ≡ paste (replicate n blank) 0 (records_of bs) (place + 1)
laid_more n bs now place word room low was is =
    let at : 0 + place ≡ place = omega arith in
    (λ j. set (was j) (sym at j) ((is ∙ sym (get_or_records_of bs place low)) j))
    ∙ paste_more (replicate n blank) 0 (records_of bs) place 0 (omega (arith, length-replicate n blank)) (omega (arith, length_records_of bs))

-- All records laid down on blanks.
pub laid_on_blanks : (n : ℕ) (bs : List ℕ) → paste (replicate n blank) 0 (records_of bs) places ≡ records_of bs ++ replicate (n - places) blank
laid_on_blanks n bs =
    paste_all (replicate n blank) 0 (records_of bs) places (sym (length_records_of bs))
    ∙ ap (λ xs. records_of bs ++ xs) (drop-replicate places n blank)
