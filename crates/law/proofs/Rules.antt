-- What the rules say at a fall, by what kind of frame it is.
use Rattle.std.proofs.Common.{◌≡◌, ℕ, ◌*◌, ◌/◌, ◌%◌, ◌<◌, ◌≤◌, true, false, ◌&&◌, eqb, leb, List, length, Some, None, Option, refl, ap, ◌∙◌, ⊎_elim, arith}
use Rattle.std.proofs.lemmas.Bool.{and_left, and_right, and_from, and_parts, eq-eqb, ne_eqb, eqb-true, leb-true, le-leb, cases_Bool}
use Rattle.memory.specs.Model.{Mem}
use Rattle.chip.specs.Bits.{is_zero_bit}
use Rattle.chip.specs.Counter.{next_written, next_read}
use Rattle.chip.specs.declared.slaves.Area.{Area}
use Rattle.chip.specs.declared.slaves.Slave.{Slave}
use Rattle.chip.specs.declared.slaves.Slave.TheVariants.{ArrayWrite, ArrayRead, RegisterWrite, RegisterRead}
use Rattle.rules.specs.Past.{History}
use Rattle.rules.specs.Frames.{Sample, acknowledged, slave, area_written, area_read, address}
use Rattle.rules.specs.Counter.{counter, sends_byte, write_fall, read_fall, fall_by}
use Rattle.rules.specs.Reads.{byte_sent, sends_zero}
use Rattle.law.proofs.Back.{chosen, passed_over}

-- A frame that writes reads nothing.
pub writes_no_read : (o : Option Slave) (area : Area) → area_written o ≡ Some area → area_read o ≡ None
writes_no_read None area e = refl
writes_no_read (Some ArrayWrite) area e = refl
writes_no_read (Some ArrayRead) area e = let z : ◌≡◌ {A = ℕ} 0 1 = cc in absurd (omega arith)
writes_no_read (Some RegisterWrite) area e = refl
writes_no_read (Some RegisterRead) area e = let z : ◌≡◌ {A = ℕ} 0 1 = cc in absurd (omega arith)

-- None is not Some.
pub none_some : {A : Type 0} (x : A) (o : Option A) → o ≡ None → o ≡ Some x → ⊥
none_some x o e f = let z : ◌≡◌ {A = ℕ} 0 1 = cc in omega arith

-- Two answers of one question.
pub same_some : {A : Type 0} (x y : A) (o : Option A) → o ≡ Some x → o ≡ Some y → x ≡ y
same_some x y o e f = cc

module _ (was : Mem) (h : History) (xs : List Sample) where
  -- Where no byte is sent, nothing is pulled for a bit.
  pub nothing_sent : ((area : Area) → area_read (slave xs) ≡ Some area → sends_byte area (counter h) xs (length xs / 9) ≡ false)
      → sends_zero was h (area_read (slave xs)) xs ≡ false
  nothing_sent none = go (area_read (slave xs)) refl
    where
      go : (o : Option Area) → area_read (slave xs) ≡ o → sends_zero was h o xs ≡ false
      go None e = refl
      go (Some area) e =
          passed_over (sends_byte area (counter h) xs (length xs / 9)) (is_zero_bit (byte_sent was h area) (length xs % 9)) false (none area e)

  -- Where one is, a 0 is pulled.
  pub bit_sent : (area : Area) → area_read (slave xs) ≡ Some area → sends_byte area (counter h) xs (length xs / 9) ≡ true
      → sends_zero was h (area_read (slave xs)) xs ≡ is_zero_bit (byte_sent was h area) (length xs % 9)
  bit_sent area e t =
      ap (λ (o : Option Area). sends_zero was h o xs) e
      ∙ chosen (sends_byte area (counter h) xs (length xs / 9)) (is_zero_bit (byte_sent was h area) (length xs % 9)) false t

module _ (xs : List Sample) (c : ℕ) where
  -- A write's fall that ends no acknowledge leaves the counter.
  pub write_stays : (area : Area) → (length xs % 9 ≡ 0 → 27 ≤ length xs → acknowledged (length xs / 9) xs ≡ false) → write_fall area xs c ≡ c
  write_stays area quiet =
      ⊎_elim
      (λ t. chosen (eqb (length xs % 9) 0 && leb 27 (length xs)) _ c t
      ∙ passed_over (acknowledged (length xs / 9) xs) _ c
      (quiet (eqb-true (length xs % 9) 0 (and_parts (eqb (length xs % 9) 0) (leb 27 (length xs)) t).0)
      (leb-true 27 (length xs) (and_parts (eqb (length xs % 9) 0) (leb 27 (length xs)) t).1)))
      (λ f. passed_over (eqb (length xs % 9) 0 && leb 27 (length xs)) _ c f)
      (cases_Bool (eqb (length xs % 9) 0 && leb 27 (length xs)))

  -- A read's fall that ends no byte leaves it.
  pub read_stays : (area : Area) → (length xs % 9 ≡ 8 → sends_byte area c xs (length xs / 9) ≡ false) → read_fall area xs c ≡ c
  read_stays area quiet =
      ⊎_elim
      (λ t. passed_over (eqb (length xs % 9) 8 && sends_byte area c xs (length xs / 9)) (next_read area c) c
      (and_right (eqb (length xs % 9) 8) (sends_byte area c xs (length xs / 9)) (quiet (eqb-true (length xs % 9) 8 t))))
      (λ f. passed_over (eqb (length xs % 9) 8 && sends_byte area c xs (length xs / 9)) (next_read area c) c
      (and_left (eqb (length xs % 9) 8) (sends_byte area c xs (length xs / 9)) f))
      (cases_Bool (eqb (length xs % 9) 8))

  pub count_stays : ((area : Area) → area_written (slave xs) ≡ Some area → length xs % 9 ≡ 0 → 27 ≤ length xs → acknowledged (length xs / 9) xs ≡ false)
      → ((area : Area) → area_read (slave xs) ≡ Some area → length xs % 9 ≡ 8 → sends_byte area c xs (length xs / 9) ≡ false)
      → fall_by (area_written (slave xs)) (area_read (slave xs)) xs c ≡ c
  count_stays w r = go (area_written (slave xs)) (area_read (slave xs)) refl refl
    where
      go : (o p : Option Area) → area_written (slave xs) ≡ o → area_read (slave xs) ≡ p → fall_by o p xs c ≡ c
      go (Some area) p e f = write_stays area (w area e)
      go None (Some area) e f = read_stays area (r area f)
      go None None e f = refl

  -- A read's fall that ends a byte moves it.
  pub count_read : (area : Area) → area_written (slave xs) ≡ None → area_read (slave xs) ≡ Some area → length xs % 9 ≡ 8
      → sends_byte area c xs (length xs / 9) ≡ true
      → fall_by (area_written (slave xs)) (area_read (slave xs)) xs c ≡ next_read area c
  count_read area e f r s =
      ap (λ (o : Option Area). fall_by o (area_read (slave xs)) xs c) e
      ∙ ap (λ (o : Option Area). fall_by None o xs c) f
      ∙ chosen (eqb (length xs % 9) 8 && sends_byte area c xs (length xs / 9)) (next_read area c) c
      (and_from (eqb (length xs % 9) 8) (sends_byte area c xs (length xs / 9)) (eq-eqb (length xs % 9) 8 r) s)

  -- A write's fall that ends an acknowledge takes the address or moves.
  count_ended : (area : Area) → area_written (slave xs) ≡ Some area → length xs % 9 ≡ 0 → 27 ≤ length xs → acknowledged (length xs / 9) xs ≡ true
      → fall_by (area_written (slave xs)) (area_read (slave xs)) xs c
      ≡ elim (eqb (length xs) 27) as (λ _. ℕ) [ true ↦ address area xs | false ↦ next_written area c ]
  count_ended area e r l a =
      ap (λ (o : Option Area). fall_by o (area_read (slave xs)) xs c) e
      ∙ chosen (eqb (length xs % 9) 0 && leb 27 (length xs)) _ c
      (and_from (eqb (length xs % 9) 0) (leb 27 (length xs)) (eq-eqb (length xs % 9) 0 r) (le-leb 27 (length xs) l))
      ∙ chosen (acknowledged (length xs / 9) xs) _ c a

  pub count_addressed : (area : Area) → area_written (slave xs) ≡ Some area → length xs ≡ 27 → acknowledged 3 xs ≡ true
      → fall_by (area_written (slave xs)) (area_read (slave xs)) xs c ≡ address area xs
  count_addressed area e n a =
      count_ended area e (omega arith) (omega arith) (ap (λ (k : ℕ). acknowledged k xs) (third (length xs) n) ∙ a)
      ∙ chosen (eqb (length xs) 27) (address area xs) (next_written area c) (eq-eqb (length xs) 27 n)
    where
      third : (n : ℕ) → n ≡ 27 → n / 9 ≡ 3
      third n e = omega arith

  pub count_moved : (area : Area) (k : ℕ) → area_written (slave xs) ≡ Some area → length xs ≡ 9 * k → 3 < k → acknowledged k xs ≡ true
      → fall_by (area_written (slave xs)) (area_read (slave xs)) xs c ≡ next_written area c
  count_moved area k e n l a =
      count_ended area e (omega arith) (omega arith) (ap (λ (j : ℕ). acknowledged j xs) (ninths (length xs) n) ∙ a)
      ∙ passed_over (eqb (length xs) 27) (address area xs) (next_written area c) (ne_eqb (length xs) 27 (λ q. omega arith))
    where
      ninths : (n : ℕ) → n ≡ 9 * k → n / 9 ≡ k
      ninths n e = omega arith
