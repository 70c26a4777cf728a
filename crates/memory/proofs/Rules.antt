-- What the answers of a memory tell of it.
use Rattle.std.proofs.Common.{◌≡◌, ℕ, ◌<◌, Bool, true, false, Ok, Err, Result, arith}
use Rattle.memory.specs.Sizes.{places}
use Rattle.memory.specs.Model.{Mem, place_check, write, written, with_byte}

-- No answer is both given and refused.
pub ok_not_err : {A E : Type 0} (x : A) (e : E) → ◌≡◌ {A = Result A E} (Ok x) (Err e) → ⊥
ok_not_err x e same = let z : ◌≡◌ {A = ℕ} 0 1 = cc in omega arith

-- A place that passes the check: the memory is fit and has it.
pub place_passed : (fit : Bool) (place : ℕ) → place_check fit place ≡ Ok tt → (fit ≡ true) × (place < places)
place_passed true place passed = grind arith
place_passed false place passed = grind arith

-- A write that is made: the memory is fit, has the place, and has life.
pub write_passed : (m : Mem) (place : ℕ) → write m place ≡ Ok tt → (m.fit ≡ true) × (place < places) × (0 < m.life)
write_passed m place passed = grind arith

-- A write that is made sets the byte.
pub written_made : (m : Mem) (place byte : ℕ) → write m place ≡ Ok tt → written m place byte ≡ with_byte m place byte
written_made m place byte passed = rw passed

-- A memory is its three parts.
pub same_mem : (m : Mem) (fit : Bool) (life : ℕ) → fit ≡ m.fit → life ≡ m.life → record { fit = fit; bytes = m.bytes; life = life } ≡ m
same_mem m fit life f l = λ i. record { fit = f i; bytes = m.bytes; life = l i }
