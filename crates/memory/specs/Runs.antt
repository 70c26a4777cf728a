-- What work over any memory does: a run of bytes stored or fetched as a whole, and a list of writes.
use Rattle.std.specs.Prelude.{ℕ, ◌+◌, ◌-◌, min, Bool, cond, List, [], ◌∷◌, ◌++◌, length, take, drop, is_ok, Ok, Result, nat_le, nat_lt, refl}
use Rattle.memory.specs.declared.refusal.Refusal.{Refusal}
use Rattle.memory.specs.declared.refusal.Refusal.TheVariants.{Unfit, Place, Short}
use Rattle.memory.specs.declared.runs.ByteWrite.{ByteWrite}
use Rattle.memory.specs.Sizes.{places}
use Rattle.memory.specs.Refusals.{refused, refused_with}
use Rattle.memory.specs.Model.{Mem, write, written}

-- The life left, up to the largest number of 32 bits. An unfit memory refuses it by 3.
abbrev pub life_answer : Mem → Result ℕ Refusal
life_answer m = cond m.fit (Ok (min m.life 0xFFFF_FFFF)) (refused 3 Unfit refl refl)

-- Fetch of n bytes from a place on is refused by 3 if the memory is unfit, then by 4 if the run leaves the places.
abbrev pub fetch : Bool → ℕ → ℕ → Result Unit Refusal
fetch fit place n = cond fit (cond (nat_le (place + n) places) (Ok tt) (refused 4 Place refl refl)) (refused 3 Unfit refl refl)

-- What is fetched: the n bytes from the place on.
abbrev pub run_at : Mem → ℕ → ℕ → List ℕ
run_at m place n = take n (drop place m.bytes)

-- Store of n bytes from a place on is refused by 3 if the memory is unfit, then by 4 if the run leaves the places,
-- then by 5 and the life left if life is below n.
abbrev pub store : Mem → ℕ → ℕ → Result Unit Refusal
store m place n =
    cond m.fit
    (cond (nat_le (place + n) places)
    (cond (nat_lt m.life n) (refused_with 5 m.life (Short m.life) refl refl) (Ok tt))
    (refused 4 Place refl refl))
    (refused 3 Unfit refl refl)

-- A run that is stored: each of its bytes is there, the places before and after it are as they were, and life is less by their count.
abbrev pub with_run : Mem → ℕ → List ℕ → Mem
with_run m place run = record {
  fit = m.fit;
  bytes = take place m.bytes ++ (run ++ drop (place + length run) m.bytes);
  life = m.life - length run;
}

-- The memory after a store: all of the run, or nothing where the store is refused.
abbrev pub stored : Mem → ℕ → List ℕ → Mem
stored m place run = cond (is_ok (store m place (length run))) (with_run m place run) m

-- The memory after a list of writes, one after the other.
abbrev pub after : Mem → List ByteWrite → Mem
after m [] = m
after m (w ∷ ws) = after (written m w.place w.byte) ws

-- How many of a list of writes are made: all but those that are refused.
abbrev pub made : Mem → List ByteWrite → ℕ
made m [] = 0
made m (w ∷ ws) = cond (is_ok (write m w.place)) 1 0 + made (written m w.place w.byte) ws
