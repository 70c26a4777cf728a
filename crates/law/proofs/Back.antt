-- Looking back over one moment more.
use Rattle.std.proofs.Common.{◌≡◌, ℕ, suc, Bool, true, false, List, [], ◌∷◌, Some, None, Option, ap}
use Rattle.rules.specs.Past.{Moment, latest, since, any_of, count_of}

module _ {A : Type 0} (f : Moment → Option A) (m : Moment) (ms : List Moment) where
  pub latest_some : (x : A) → f m ≡ Some x → latest f (m ∷ ms) ≡ Some x
  latest_some x e = ap (λ (o : Option A). elim o as (λ _. Option A) [ Some y ↦ Some y | None ↦ latest f ms ]) e

  pub latest_none : f m ≡ None → latest f (m ∷ ms) ≡ latest f ms
  latest_none e = ap (λ (o : Option A). elim o as (λ _. Option A) [ Some y ↦ Some y | None ↦ latest f ms ]) e

module _ (p : Moment → Bool) (m : Moment) (ms : List Moment) where
  pub since_here : p m ≡ true → since p (m ∷ ms) ≡ []
  since_here e = ap (λ (b : Bool). elim b as (λ _. List Moment) [ true ↦ [] | false ↦ m ∷ since p ms ]) e

  pub since_past : p m ≡ false → since p (m ∷ ms) ≡ m ∷ since p ms
  since_past e = ap (λ (b : Bool). elim b as (λ _. List Moment) [ true ↦ [] | false ↦ m ∷ since p ms ]) e

  pub any_here : p m ≡ true → any_of p (m ∷ ms) ≡ true
  any_here e = ap (λ (b : Bool). elim b as (λ _. Bool) [ true ↦ true | false ↦ any_of p ms ]) e

  pub any_past : p m ≡ false → any_of p (m ∷ ms) ≡ any_of p ms
  any_past e = ap (λ (b : Bool). elim b as (λ _. Bool) [ true ↦ true | false ↦ any_of p ms ]) e

  pub count_here : p m ≡ true → count_of p (m ∷ ms) ≡ suc (count_of p ms)
  count_here e = ap (λ (b : Bool). elim b as (λ _. ℕ) [ true ↦ suc (count_of p ms) | false ↦ count_of p ms ]) e

  pub count_past : p m ≡ false → count_of p (m ∷ ms) ≡ count_of p ms
  count_past e = ap (λ (b : Bool). elim b as (λ _. ℕ) [ true ↦ suc (count_of p ms) | false ↦ count_of p ms ]) e

-- A choice between two by a test that is known.
pub chosen : {A : Type 0} (b : Bool) (x y : A) → b ≡ true → elim b as (λ _. A) [ true ↦ x | false ↦ y ] ≡ x
chosen {A} b x y e = ap (λ (c : Bool). elim c as (λ _. A) [ true ↦ x | false ↦ y ]) e

pub passed_over : {A : Type 0} (b : Bool) (x y : A) → b ≡ false → elim b as (λ _. A) [ true ↦ x | false ↦ y ] ≡ y
passed_over {A} b x y e = ap (λ (c : Bool). elim c as (λ _. A) [ true ↦ x | false ↦ y ]) e
