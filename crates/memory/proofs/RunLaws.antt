-- A run of bytes as it is written, byte by byte.
use Rattle.std.proofs.Common.{◌≡◌, ℕ, ◌+◌, ◌-◌, ◌<◌, ◌≤◌, Bool, true, false, cond, eqb, ltb, List, length, get_or, is_ok, Ok, refl, ap, ◌∙◌, arith}
use lib.Seq.{paste}
use Rattle.std.proofs.lemmas.Bool.{eqb-false, cases_Bool}
use Rattle.std.proofs.lemmas.List.Edits.{paste_none, paste_more, paste_all}
use Rattle.memory.specs.Sizes.{places}
use Rattle.memory.specs.Model.{Mem, Whole, read, write, written, with_byte}
use Rattle.memory.specs.Runs.{fetch, store, with_run}

-- A memory into which the first i bytes of a run are written.
abbrev pub partial : Mem → ℕ → List ℕ → ℕ → Mem
partial m place run i = record { fit = m.fit; bytes = paste m.bytes place run i; life = m.life - i }

-- A store that is not refused: the memory is fit, the run lies within its places, and its life is enough.
pub store_passed : (m : Mem) (place n : ℕ) → store m place n ≡ Ok tt → (m.fit ≡ true) × (place + n ≤ places) × (n ≤ m.life)
store_passed m place n passed = grind arith

-- A memory that is fit, has the place and has life takes the write.
pub takes : (m : Mem) (place : ℕ) → m.fit ≡ true → place < places → 0 < m.life → write m place ≡ Ok tt
takes m place fit low alive = grind arith

-- One byte more of a run that a memory stores.
pub partial_more : (m : Mem) (place : ℕ) (run : List ℕ) (i : ℕ) → Whole m → store m place (length run) ≡ Ok tt → i < length run
    → written (partial m place run i) (place + i) (get_or run i 0) ≡ partial m place run (i + 1)
partial_more m place run i whole passed more =
    let known = store_passed m place (length run) passed in
    let now = partial m place run i in
    let made = takes now (place + i) known.0 (omega arith) (omega arith) in
    let within : place + i < length m.bytes = omega (arith, whole.sized) in
    let less : m.life - i - 1 ≡ m.life - (i + 1) = omega arith in
    ap (λ answer. cond (is_ok answer) (with_byte now (place + i) (get_or run i 0)) now) made
    ∙ (λ j. record { fit = m.fit; bytes = paste_more m.bytes place run i 0 within more j; life = less j })

-- At first none of the run is written, and at last all of it.
pub partial_none : (m : Mem) (place : ℕ) (run : List ℕ) → m ≡ partial m place run 0
partial_none m place run =
    let life : m.life ≡ m.life - 0 = omega arith in
    λ i. record { fit = m.fit; bytes = paste_none m.bytes place run i; life = life i }

pub partial_all : (m : Mem) (place : ℕ) (run : List ℕ) (n : ℕ) → n ≡ length run → partial m place run n ≡ with_run m place run
partial_all m place run n whole =
    (λ i. partial m place run (whole i))
    ∙ (λ i. record { fit = m.fit; bytes = paste_all m.bytes place run (length run) refl i; life = m.life - length run })

-- Each byte of a run that has room and life is taken.
pub partial_takes : (m : Mem) (place : ℕ) (run : List ℕ) (i : ℕ)
    → m.fit ≡ true → Whole m → place + length run ≤ places → length run ≤ m.life → i < length run
    → write (partial m place run i) (place + i) ≡ Ok tt
partial_takes m place run i fit whole room life more = takes (partial m place run i) (place + i) fit (omega arith) (omega arith)

-- A write that is made spends one of the life, and a refused one none.
pub life_spent : (m : Mem) (place byte : ℕ) → cond (is_ok (write m place)) 1 0 + (written m place byte).life ≡ m.life
life_spent m place byte = grind (arith, cases_Bool m.fit, cases_Bool (ltb place places), cases_Bool (eqb m.life 0), eqb-false)

-- A byte that is read is the memory's.
pub read_is : (m : Mem) (place byte : ℕ) → Ok byte ≡ read m place → byte ≡ get_or m.bytes place 0
read_is m place byte is = grind (arith, cases_Bool m.fit, cases_Bool (ltb place places))

-- A run that passes the check lies within the places of a fit memory.
pub run_passed : (fit : Bool) (place n : ℕ) → Ok tt ≡ fetch fit place n → (fit ≡ true) × (place + n ≤ places)
run_passed true place n passed = grind arith
run_passed false place n passed = grind arith
