-- A memory as its user sees it: fit, a byte at each place, and a life; and what each call answers and leaves.
use Rattle.std.specs.Prelude.{◌≡◌, ℕ, ◌-◌, ◌<◌, Bool, cond, List, length, is_ok, Ok, Result, ◌==◌, nat_lt, slice_index, slice_set, refl}
use Rattle.memory.specs.declared.refusal.Refusal.{Refusal}
use Rattle.memory.specs.declared.refusal.Refusal.TheVariants.{Unfit, Place, Worn, Short}
use Rattle.memory.specs.Sizes.{places, byte_values}
use Rattle.memory.specs.Refusals.{refused, refused_with}

-- A memory: whether it is fit, its byte at each place, and its life, the byte writes that it will still take.
pub record Mem : Type 0 where
  pub fit : Bool
  pub bytes : List ℕ
  pub life : ℕ

-- A memory has one byte for each place.
pub record Whole (m : Mem) : Type 0 where
  pub sized : length m.bytes ≡ places
  pub small : (place : ℕ) → slice_index m.bytes place < byte_values

-- An unfit memory refuses by 3, and then a place above the last is refused by 4.
abbrev pub place_check : Bool → ℕ → Result Unit Refusal
place_check fit place = cond fit (cond (nat_lt place places) (Ok tt) (refused 4 Place refl refl)) (refused 3 Unfit refl refl)

-- Read answers the byte at a place. An unfit memory refuses it by 3, and a place above the last is refused by 4.
abbrev pub read : Mem → ℕ → Result ℕ Refusal
read m place =
    cond m.fit
    (cond (nat_lt place places) (Ok (slice_index m.bytes place)) (refused 4 Place refl refl))
    (refused 3 Unfit refl refl)

-- Claim is refused by 5 and the life left exactly when life is below n. An unfit memory refuses it by 3.
abbrev pub claim : Mem → ℕ → Result Unit Refusal
claim m n =
    cond m.fit
    (cond (nat_lt m.life n) (refused_with 5 m.life (Short m.life) refl refl) (Ok tt))
    (refused 3 Unfit refl refl)

-- Write is refused by 3 if the memory is unfit, then by 4 if the place is above the last, then by 5 exactly when life is 0.
abbrev pub write : Mem → ℕ → Result Unit Refusal
write m place =
    cond m.fit
    (cond (nat_lt place places) (cond (m.life == 0) (refused 5 Worn refl refl) (Ok tt)) (refused 4 Place refl refl))
    (refused 3 Unfit refl refl)

-- A write that is made: its place holds the byte, the others are as before, and life falls by one.
abbrev pub with_byte : Mem → ℕ → ℕ → Mem
with_byte m place byte = record { fit = m.fit; bytes = slice_set m.bytes place byte; life = m.life - 1 }

-- The memory after a write: as it was where the write is refused.
abbrev pub written : Mem → ℕ → ℕ → Mem
written m place byte = cond (is_ok (write m place)) (with_byte m place byte) m
