-- The number of each refusal, and the life that it carries.
use Rattle.std.specs.Prelude.{◌≡◌, ℕ, Some, None, Err, Option, Result}
use Rattle.memory.specs.declared.refusal.Refusal.{Refusal}
use Rattle.memory.specs.declared.refusal.Refusal.TheVariants.{Unfit, Place, Worn, Short}

-- Each refusal has its number.
abbrev pub number : Refusal → ℕ
number Unfit = 3
number Place = 4
number Worn = 5
number (Short life) = 5

-- A refused claim carries the life left; every other refusal is its number alone.
abbrev pub life_left : Refusal → Option ℕ
life_left Unfit = None
life_left Place = None
life_left Worn = None
life_left (Short life) = Some life

-- Refused by a number, which is the refusal's own, and with no life.
abbrev pub refused : {A : Type 0} (n : ℕ) (e : Refusal) → number e ≡ n → life_left e ≡ None → Result A Refusal
refused n e by alone = Err e

-- Refused by a number, which is the refusal's own, with the life left.
abbrev pub refused_with : {A : Type 0} (n life : ℕ) (e : Refusal) → number e ≡ n → life_left e ≡ Some life → Result A Refusal
refused_with n life e by left = Err e
