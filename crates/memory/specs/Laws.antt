-- What the image and the journal prove as laws of a keeper: one byte for each place, and no life where they are unfit.
use Rattle.std.proofs.Common.{◌≡◌, ℕ, zero, suc, ◌%◌, ◌<◌, true, false, List, [], ◌∷◌, map, length, take, fold, slice_index, ◌||◌, ◌==◌, nat_le, nat_lt, ◌/◌, ◌+◌, ◌∙◌, mod-lt, arith}
use Rattle.std.specs.List.{range_with_len}
use Rattle.std.proofs.lemmas.List.{length-map, length-take-le}
use Rattle.std.proofs.lemmas.List.FromFn.{length-map-range_with_len}
use Rattle.std.proofs.lemmas.Bool.{and_parts, leb-true, cond_both, cond-false}
use Rattle.memory.specs.Sizes.{array_places, places, byte_values, most_writes}
use Rattle.memory.specs.Model.{Whole}
use Rattle.memory.specs.Image.{image_fit, image_bytes, image}
use Rattle.memory.specs.Journal.{factory, replaced, byte_at, bytes_of, records, journal_fit, journal_life, journal}

-- Where each value of a function is a byte, so is each entry of what it makes of a list.
map_small : (f : ℕ → ℕ) (xs : List ℕ) → ((x : ℕ) → f x < byte_values) → (place : ℕ) → slice_index (map f xs) place < byte_values
map_small f [] small place = omega arith
map_small f (x ∷ xs) small zero = small x
map_small f (x ∷ xs) small (suc place) = map_small f xs small place

pub remainder_small : (word : ℕ) → word % byte_values < byte_values
remainder_small word = mod-lt word (omega arith)

-- A fit image has one byte for each place.
pub image_whole : (bytes : List ℕ) (writes : ℕ) → image_fit bytes writes ≡ true → Whole (image bytes writes)
unfolding image_bytes
image_whole bytes writes fit =
    let long = leb-true places (length bytes) (and_parts (nat_le places (length bytes)) (nat_le writes most_writes) fit).0 in
    record {
      sized = length-map (take places bytes) (λ b. b % byte_values) ∙ length-take-le places bytes long;
      small = map_small (λ b. b % byte_values) (take places bytes) remainder_small;
    }

-- An unfit image takes no writes.
pub image_lifeless : (bytes : List ℕ) (writes : ℕ) → image_fit bytes writes ≡ false → (image bytes writes).life ≡ 0
image_lifeless bytes writes unfit = cond-false (image_fit bytes writes) writes 0 unfit

factory_small : (place : ℕ) → factory place < byte_values
factory_small place =
    cond_both (nat_lt place array_places) 0xFF _ (λ b. b < byte_values) (λ _. omega arith)
    (λ _. cond_both (place == array_places + 0x07 || place == array_places + 0x0F) 0x20 0x00 (λ b. b < byte_values) (λ _. omega arith) (λ _. omega arith))

folded_small : (words : List ℕ) (place byte : ℕ) → byte < byte_values → fold (replaced place) byte words < byte_values
folded_small [] place byte small = small
folded_small (word ∷ words) place byte small =
    folded_small words place (replaced place byte word)
    (cond_both (word / byte_values == place) (word % byte_values) byte (λ b. b < byte_values) (λ _. remainder_small word) (λ _. small))

-- The byte at a place is a byte.
pub byte_at_small : (words : List ℕ) (place : ℕ) → byte_at words place < byte_values
byte_at_small words place = folded_small words place (factory place) (factory_small place)

-- Records give bytes.
pub bytes_small : (records : List ℕ) (place : ℕ) → slice_index (bytes_of records) place < byte_values
unfolding bytes_of
bytes_small records = map_small (byte_at records) (range_with_len 0 places) (λ place. folded_small records place (factory place) (factory_small place))

-- A journal has one byte for each place.
pub journal_whole : (words : List ℕ) (erasures : ℕ) → Whole (journal words erasures)
unfolding bytes_of
journal_whole words erasures = record {
  sized = length-map-range_with_len (byte_at (records words)) 0 places;
  small = bytes_small (records words);
}

-- An unfit journal takes no writes.
pub journal_lifeless : (words : List ℕ) (erasures : ℕ) → journal_fit words erasures ≡ false → (journal words erasures).life ≡ 0
journal_lifeless words erasures unfit = cond-false (journal_fit words erasures) (journal_life words erasures) 0 unfit
