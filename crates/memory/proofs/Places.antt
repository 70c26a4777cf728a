-- Lists with one entry for each place.
use Rattle.std.proofs.Common.{◌≡◌, ℕ, zero, suc, List, [], ◌∷◌, take, set, refl, ap}

-- The front of a list after one entry is set.
pub take_of_set : (n : ℕ) (xs : List ℕ) (i x : ℕ) → take n (set xs i x) ≡ set (take n xs) i x
take_of_set zero xs i x = refl
take_of_set (suc n) [] i x = refl
take_of_set (suc n) (y ∷ ys) zero x = refl
take_of_set (suc n) (y ∷ ys) (suc i) x = ap (λ zs. y ∷ zs) (take_of_set n ys i x)
