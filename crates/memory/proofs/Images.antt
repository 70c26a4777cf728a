-- What the bytes of an image are after a read and a write.
use Rattle.std.proofs.Common.{◌≡◌, ℕ, ◌-◌, ◌%◌, ◌<◌, ◌≤◌, true, List, map, length, get_or, take, set, Ok, sym, ap, ◌∙◌, ⊎_elim, mod-lt, mod-eq_of_lt, arith}
use Rattle.std.proofs.lemmas.List.{length-map, length-take, get_or-map, get_or-take, get_or_past, map-set, length-set}
use Rattle.std.proofs.lemmas.Bool.{cases_lt, cond_both}
use Rattle.std.proofs.lemmas.Bool.Decides.{nat_tests}
use Rattle.memory.specs.Sizes.{places, byte_values}
use Rattle.memory.specs.Model.{place_check, write, with_byte}
use Rattle.memory.specs.Image.{image, image_fit, image_bytes}
use Rattle.memory.proofs.Places.{take_of_set}
use Rattle.memory.proofs.Rules.{place_passed, write_passed}

-- A fit image has a byte for each place.
pub image_long : (bs : List ℕ) (n : ℕ) → image_fit bs n ≡ true → places ≤ length bs
image_long bs n fit = grind (arith, nat_tests)

-- Within the image the byte at a place is the byte handed in.
pub image_at : (bs : List ℕ) (place : ℕ) → place < places → place < length bs → get_or (image_bytes bs) place 0 ≡ get_or bs place 0 % byte_values
unfolding image_bytes
image_at bs place low within =
    let inside : place < length (take places bs) = simp length-take (omega arith) in
    get_or-map (λ b. b % byte_values) (take places bs) place 0 0 inside ∙ ap (λ b. b % byte_values) (get_or-take places bs place 0 low)

-- The image has a byte for each place that there are bytes for, and each is a byte.
pub image_sized : (bs : List ℕ) → places ≤ length bs → length (image_bytes bs) ≡ places
unfolding image_bytes
image_sized bs long = simp (length-map, length-take) (omega arith)

pub image_small : (bs : List ℕ) (place : ℕ) → get_or (image_bytes bs) place 0 < byte_values
unfolding image_bytes
image_small bs place =
    ⊎_elim
    (λ inside. rw (get_or-map (λ b. b % byte_values) (take places bs) place 0 0 inside) (mod-lt (get_or (take places bs) place 0) (omega arith)))
    (λ past. rw (get_or_past (map (λ b. b % byte_values) (take places bs)) place 0 (simp length-map past)) (omega arith))
    (cases_lt place (length (take places bs)))

-- An image with life has writes left.
pub image_life : (bs : List ℕ) (n : ℕ) → 0 < (image bs n).life → 0 < n
image_life bs n alive = cond_both (image_fit bs n) n 0 (λ l. 0 < l → 0 < n) (λ _ h. h) (λ _ h. absurd (omega arith)) alive

-- A byte that is set in the image is set in the memory.
pub image_set : (bs : List ℕ) (place byte : ℕ) → byte < byte_values → image_bytes (set bs place byte) ≡ set (image_bytes bs) place byte
unfolding image_bytes
image_set bs place byte small =
    ap (map (λ b. b % byte_values)) (take_of_set places bs place byte)
    ∙ map-set (λ b. b % byte_values) (take places bs) place byte
    ∙ ap (set (map (λ b. b % byte_values) (take places bs)) place) (mod-eq_of_lt small)

-- A fit image with a write less is fit.
pub image_fit_less : (bs : List ℕ) (n place byte : ℕ) → image_fit bs n ≡ true → image_fit (set bs place byte) (n - 1) ≡ true
image_fit_less bs n place byte fit = grind (arith, nat_tests, length-set)

-- What a write that is made leaves of the image.
pub image_put : (bs : List ℕ) (n place byte : ℕ) → byte < byte_values → write (image bs n) place ≡ Ok tt
    → image (set bs place byte) (n - 1) ≡ with_byte (image bs n) place byte
image_put bs n place byte small passed =
    let known = write_passed (image bs n) place passed in
    let after = image_fit_less bs n place byte known.0 in
    let same = image_set bs place byte small in
    cc

-- A byte that is read from a fit image.
pub image_byte : (bs : List ℕ) (n place : ℕ) → place_check (image_fit bs n) place ≡ Ok tt → get_or bs place 0 < byte_values
    → get_or bs place 0 ≡ get_or (image_bytes bs) place 0
image_byte bs n place passed small =
    let known = place_passed (image_fit bs n) place passed in
    let long = image_long bs n known.0 in
    sym (image_at bs place known.1 (omega arith) ∙ mod-eq_of_lt small)
