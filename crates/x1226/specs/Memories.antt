-- What the module's inner work needs of the memory that it is lent.
use Rattle.std.specs.Prelude.{◌≡◌, ℕ, true, cond, Ok, Err, Result, nat_lt}
use Rattle.std.specs.Borrow.{GName}
use Rattle.memory.specs.Model.{Mem, Whole}

-- The memory is fit, and has one byte for each place.
pub record Ready (m : Mem) : Type 0 where
  pub fit : m.fit ≡ true
  pub whole : Whole m

-- A memory that is lent: what it holds, and the name of the loan, which no write changes.
pub record Lent : Type 0 where
  pub mem : Mem
  pub loan : GName

-- The same loan, of a memory that holds this now.
abbrev pub holding : Mem → Lent → Lent
holding m lent = record { mem = m; loan = lent.loan }

-- A fit memory will take n more writes, or its life is left as it is.
abbrev pub life_for : ℕ → Mem → Result Unit ℕ
life_for n m = cond (nat_lt m.life n) (Err m.life) (Ok tt)
