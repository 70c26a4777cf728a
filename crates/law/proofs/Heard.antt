-- A start is heard: whichever of our slave bytes is sent next is acknowledged.
use Rattle.std.proofs.Common.{◌≡◌, ℕ, zero, suc, ◌+◌, ◌*◌, ◌%◌, ◌^◌, ◌<◌, ◌≤◌, Bool, true, false, cond, not, ◌&&◌, eqb, ltb, List, [], ◌∷◌, length, is_some, Ok, Err, Result, sym, refl, ap, ◌∙◌, subst, add-zero, add-one, arith, pow_mono, pow-add}
use Rattle.std.proofs.lemmas.Bool.{ne_eqb, lt-ltb, false≢true, true≢false}
use Rattle.memory.specs.Model.{Mem}
use Rattle.chip.specs.Bits.{shifted}
use Rattle.chip.specs.Calls.{accepted}
use Rattle.chip.specs.Slaves.{slave_named}
use Rattle.chip.specs.Wires.{wire, edge_by}
use Rattle.chip.specs.declared.calls.Answer.{Answer}
use Rattle.chip.specs.declared.calls.Call.{Call}
use Rattle.chip.specs.declared.calls.Event.{Event}
use Rattle.chip.specs.declared.calls.Event.TheVariants.{Given, Ticked, Supplied}
use Rattle.chip.specs.declared.refusals.Refusal.{Refusal}
use Rattle.chip.specs.declared.wires.Edge.TheVariants.{Start, Rise, Fall, Still}
use Rattle.chip.specs.declared.wires.Levels.{Levels}
use Rattle.rules.specs.Frames.{number_from}
use Rattle.rules.specs.History.{history}
use Rattle.rules.specs.Law.{call_at, history_at, Answers, rises_at, falls_at, count_from, bits_from, leaves_sda, keeps_main, Hears}
use Rattle.rules.specs.Wires as wires
use Rattle.x1226.specs.declared.state.Phase.{Phase}
use Rattle.x1226.specs.declared.state.Phase.TheVariants.{Receiving, Acknowledging}
use Rattle.x1226.specs.declared.state.State.{State}
use Rattle.x1226.specs.State.{with_levels, with_phase}
use Rattle.x1226.specs.Frame.{pulls, phase_risen, risen, fallen, fallen_in}
use Rattle.x1226.specs.Timer.{ticked}
use Rattle.x1226.specs.Step.{hears, heard, leveled, switched, taken, left}
use Rattle.law.proofs.Tracks.{Tracks}
use Rattle.law.proofs.Runs.{Quiet, quiet, tick_quiet, main_quiet, heard_is, given_as, under_high, rise, fall, count_more, state_at, mem_at, state_more, hears_at, wire_at, levels_at, rise_at, fall_at, row_at}

-- One bit more makes a number of one bit more.
small_more : (r x : ℕ) (v : Bool) → x < 2 ^ r → 2 * x + cond v 1 0 < 2 ^ (suc r)
small_more r x true l = rw (← add-one r) (omega (arith, pow-add 2 r 1))
small_more r x false l = rw (← add-one r) (omega (arith, pow-add 2 r 1))

-- No bit falls out of a number of fewer than eight.
shifted_is : (r x : ℕ) (v : Bool) → x < 2 ^ r → r < 8 → shifted x v ≡ 2 * x + cond v 1 0
shifted_is r x v l h =
    let k : r ≤ 7 = omega arith in
    let b : 2 ^ r ≤ 2 ^ 7 = pow_mono k in
    let c : x % 128 ≡ x = omega arith in
    omega arith

-- The wire is the master's SDA while the module does not pull.
wire_free : (v : Bool) → wire v false ≡ v
wire_free true = refl
wire_free false = refl

-- The wire is low while the module pulls.
wire_held : (v : Bool) → wire v true ≡ false
wire_held true = refl
wire_held false = refl

-- A half of a pulse that is missing: SCL is low.
abbrev missing : Bool → ℕ
missing b = cond b 0 1

-- After f falls and r rises since a start, whose bits make x.
record Bits (s : State) (f r x : ℕ) : Type 0 where
  hearing : hears s ≡ true
  phase : s.phase ≡ Receiving 0 r x
  small : x < 2 ^ r
  counted : f ≡ r + missing s.levels.scl

-- What a call makes of them.
abbrev More : State → State → ℕ → ℕ → ℕ → Type 0
More s t f r x = Bits t (cond (fall s t) (suc f) f) (cond (rise s t) (suc r) r) (cond (rise s t) (2 * x + cond t.levels.sda 1 0) x)

-- What a call makes of them, where it is known whether SCL falls or rises.
more_as : (s t : State) (f r x : ℕ) (d u : Bool) → fall s t ≡ d → rise s t ≡ u
    → Bits t (cond d (suc f) f) (cond u (suc r) r) (cond u (2 * x + cond t.levels.sda 1 0) x) → More s t f r x
more_as s t f r x d u p q b = rw (p, q) b

-- Where SCL stays, it does not fall.
no_fall : (a b : Bool) → b ≡ a → (a && not b) ≡ false
no_fall true b e = rw e
no_fall false b e = refl

-- Where SCL stays, it does not rise.
no_rise : (a b : Bool) → b ≡ a → (not a && b) ≡ false
no_rise true b e = refl
no_rise false b e = e

-- Where SCL falls, it does not rise.
falls_no_rise : (a b : Bool) → (a && not b) ≡ true → (not a && b) ≡ false
falls_no_rise true b e = refl
falls_no_rise false b e = absurd (false≢true e)

-- SCL stays, and the phase is as before.
more_still : (s t : State) (f r x : ℕ) → t.levels.scl ≡ s.levels.scl → t.phase ≡ s.phase → hears t ≡ true → Bits s f r x → More s t f r x
more_still s t f r x l p h k =
    more_as s t f r x false false (no_fall s.levels.scl t.levels.scl l) (no_rise s.levels.scl t.levels.scl l)
    (record { hearing = h; phase = p ∙ k.phase; small = k.small; counted = rw l k.counted })

-- A quiet call.
more_quiet : (s t : State) (f r x : ℕ) → Quiet s t → Bits s f r x → More s t f r x
more_quiet s t f r x q k = more_still s t f r x (ap (λ (l : Levels). l.scl) q.levels) q.phase (q.hearing k.hearing) k

-- What is heard while bits come.
bits_edge : (s : State) (l : Levels) (f r x : ℕ) (a b : Bool) → Bits s f r x → s.levels.scl ≡ a → l.scl ≡ b
    → heard s l ≡ edge_by a b s.levels.sda l.sda
bits_edge s l f r x a b k p q =
    heard_is s l k.hearing ∙ rw (k.phase, p, q, wire_free s.levels.sda, wire_free l.sda)

-- SDA was left alone under a high SCL.
left_alone : (c d a b : Bool) → elim (c && d) [ true ↦ elim a [ true ↦ b | false ↦ not b ] | false ↦ true ] ≡ true → c ≡ true → d ≡ true → b ≡ a
left_alone true true true b h p q = h
left_alone true true false true h p q = absurd (false≢true h)
left_alone true true false false h p q = refl
left_alone true false a b h p q = absurd (false≢true q)
left_alone false d a b h p q = absurd (false≢true p)

-- A fall amid a byte does nothing.
fallen_few : (p : Phase) (s : State) (m : Mem) (r x : ℕ) → p ≡ Receiving 0 r x → r < 8 → fallen_in p s m ≡ s
fallen_few p s m r x e l =
    let n : eqb r 8 ≡ false = ne_eqb r 8 (omega arith) in
    rw (e, n)

-- A rise takes a bit.
risen_few : (p : Phase) (v : Bool) (r x : ℕ) → p ≡ Receiving 0 r x → r < 8 → x < 2 ^ r
    → phase_risen v p ≡ Receiving 0 (suc r) (2 * x + cond v 1 0)
risen_few p v r x e l s =
    let n : ltb r 8 ≡ true = lt-ltb r 8 l in
    rw (e, n, add-one r, shifted_is r x v s l)

-- New levels that leave SDA alone under a high SCL, before the ninth fall.
more_given : (s : State) (m : Mem) (l : Levels) (f r x : ℕ) → leaves_sda s.levels (Ok (Given l)) ≡ true → Bits s f r x
    → (a b : Bool) → s.levels.scl ≡ a → l.scl ≡ b → cond (fall s (leveled l s m).state) (suc f) f ≤ 8
    → More s (leveled l s m).state f r x
more_given s m l f r x h k true true p q few =
    given_as (λ t. More s t f r x) s m l Still
    (bits_edge s l f r x true true k p q
    ∙ rw (left_alone s.levels.scl l.scl s.levels.sda l.sda h p q) (under_high s.levels.sda))
    (more_still s (with_levels l s) f r x (q ∙ sym p) refl k.hearing k)
more_given s m l f r x h k false false p q few =
    given_as (λ t. More s t f r x) s m l Still (bits_edge s l f r x false false k p q)
    (more_still s (with_levels l s) f r x (q ∙ sym p) refl k.hearing k)
more_given s m l f r x h k true false p q few =
    let c : f ≡ r + 0 = rw p at k.counted in
    let n : suc f ≤ 8 = rw (p, q) at few in
    let e : fallen s m ≡ s = fallen_few s.phase s m r x k.phase (omega arith) in
    given_as (λ t. More s t f r x) s m l Fall (bits_edge s l f r x true false k p q)
    (subst (λ u. More s (with_levels l u) f r x) (sym e)
    (more_as s (with_levels l s) f r x true false (rw (p, q)) (rw p)
    (record { hearing = k.hearing; phase = k.phase; small = k.small; counted = rw q (omega arith) })))
more_given s m l f r x h k false true p q few =
    let c : f ≡ r + 1 = rw p at k.counted in
    let n : f ≤ 8 = rw p at few in
    given_as (λ t. More s t f r x) s m l (Rise l.sda) (bits_edge s l f r x false true k p q)
    (more_as s (with_levels l (risen l.sda s)) f r x false true (rw p) (rw (p, q))
    (record {
      hearing = k.hearing;
      phase = risen_few s.phase l.sda r x k.phase (omega arith) k.small;
      small = small_more r x l.sda k.small;
      counted = rw q (omega arith);
    }))

-- A call before the ninth fall.
more_call : (e : Result Event Refusal) (s : State) (m : Mem) (f r x : ℕ) → leaves_sda s.levels e ≡ true → Bits s f r x
    → cond (fall s (taken e s m).state) (suc f) f ≤ 8 → More s (taken e s m).state f r x
more_call (Err e) s m f r x h k few = more_quiet s s f r x (quiet s) k
more_call (Ok (Given l)) s m f r x h k few = more_given s m l f r x h k s.levels.scl l.scl refl refl few
more_call (Ok Ticked) s m f r x h k few = more_quiet s (ticked s m) f r x (tick_quiet s m) k
more_call (Ok (Supplied p)) s m f r x h k few = more_quiet s (switched p s) f r x (main_quiet p s h) k

-- A slave byte is being acknowledged.
record Pulled (s : State) (x : ℕ) : Type 0 where
  hearing : hears s ≡ true
  phase : s.phase ≡ Acknowledging 0 x

-- The fall after eight bits that are one of our slave bytes.
fallen_ours : (p : Phase) (s : State) (m : Mem) (x : ℕ) → p ≡ Receiving 0 8 x → is_some (slave_named x) ≡ true
    → fallen_in p s m ≡ with_phase (Acknowledging 0 x) s
fallen_ours p s m x e o = rw (e, o)

-- A call that leaves SCL is no fall.
moved : (s t : State) → t.levels.scl ≡ s.levels.scl → fall s t ≡ true → ⊥
moved s t e h = true≢false (sym h ∙ no_fall s.levels.scl t.levels.scl e)

-- New levels that are the ninth fall.
pulled_given : (s : State) (m : Mem) (l : Levels) (r x : ℕ) → Bits s 8 r x → is_some (slave_named x) ≡ true
    → (a b : Bool) → s.levels.scl ≡ a → l.scl ≡ b → (s.levels.scl && not l.scl) ≡ true → Pulled (leveled l s m).state x
pulled_given s m l r x k o true false p q h =
    let c : 8 ≡ r + 0 = rw p at k.counted in
    let e : r ≡ 8 = omega arith in
    let g : fallen s m ≡ with_phase (Acknowledging 0 x) s =
    fallen_ours s.phase s m x (k.phase ∙ ap (λ n. Receiving 0 n x) e) o in
    given_as (λ t. Pulled t x) s m l Fall (bits_edge s l 8 r x true false k p q)
    (subst (λ u. Pulled (with_levels l u) x) (sym g) (record { hearing = k.hearing; phase = refl }))
pulled_given s m l r x k o true true p q h = absurd (false≢true (rw (p, q) at h))
pulled_given s m l r x k o false b p q h = absurd (false≢true (rw p at h))

-- The ninth fall.
pulled_call : (e : Result Event Refusal) (s : State) (m : Mem) (r x : ℕ) → leaves_sda s.levels e ≡ true → Bits s 8 r x
    → is_some (slave_named x) ≡ true → fall s (taken e s m).state ≡ true → Pulled (taken e s m).state x
pulled_call (Err e) s m r x h k o d = absurd (moved s s refl d)
pulled_call (Ok (Given l)) s m r x h k o d = pulled_given s m l r x k o s.levels.scl l.scl refl refl d
pulled_call (Ok Ticked) s m r x h k o d = absurd (moved s (ticked s m) (ap (λ (l : Levels). l.scl) (tick_quiet s m).levels) d)
pulled_call (Ok (Supplied p)) s m r x h k o d =
    absurd (moved s (switched p s) (ap (λ (l : Levels). l.scl) (main_quiet p s h).levels) d)

-- While the module pulls, the wire stands.
held_edge : (s : State) (l : Levels) (x : ℕ) (a b : Bool) → Pulled s x → s.levels.scl ≡ a → l.scl ≡ b
    → heard s l ≡ edge_by a b false false
held_edge s l x a b k p q =
    heard_is s l k.hearing ∙ rw (k.phase, p, q, wire_held s.levels.sda, wire_held l.sda)

-- A quiet call leaves the acknowledge.
kept_quiet : (s t : State) (x : ℕ) → Quiet s t → Pulled s x → Pulled t x
kept_quiet s t x q k = record { hearing = q.hearing k.hearing; phase = q.phase ∙ k.phase }

-- New levels that are no fall leave the acknowledge.
kept_given : (s : State) (m : Mem) (l : Levels) (x : ℕ) → Pulled s x → (a b : Bool) → s.levels.scl ≡ a → l.scl ≡ b
    → (s.levels.scl && not l.scl) ≡ false → Pulled (leveled l s m).state x
kept_given s m l x k true true p q h =
    given_as (λ t. Pulled t x) s m l Still (held_edge s l x true true k p q) (record { hearing = k.hearing; phase = k.phase })
kept_given s m l x k false false p q h =
    given_as (λ t. Pulled t x) s m l Still (held_edge s l x false false k p q) (record { hearing = k.hearing; phase = k.phase })
kept_given s m l x k false true p q h =
    given_as (λ t. Pulled t x) s m l (Rise false) (held_edge s l x false true k p q)
    (record { hearing = k.hearing; phase = rw k.phase })
kept_given s m l x k true false p q h = absurd (true≢false (rw (p, q) at h))

-- A call after the ninth fall that is not the tenth.
kept_call : (e : Result Event Refusal) (s : State) (m : Mem) (x : ℕ) → keeps_main e ≡ true → Pulled s x
    → fall s (taken e s m).state ≡ false → Pulled (taken e s m).state x
kept_call (Err e) s m x h k d = k
kept_call (Ok (Given l)) s m x h k d = kept_given s m l x k s.levels.scl l.scl refl refl d
kept_call (Ok Ticked) s m x h k d = kept_quiet s (ticked s m) x (tick_quiet s m) k
kept_call (Ok (Supplied p)) s m x h k d = kept_quiet s (switched p s) x (main_quiet p s h) k

-- A start.
bits_first : (s : State) (m : Mem) (l : Levels) → hears s ≡ true → s.levels.scl ≡ true → wire s.levels.sda (pulls s.phase) ≡ true
    → l.scl ≡ true → l.sda ≡ false → Bits (leveled l s m).state 0 0 0
bits_first s m l h p w q d =
    let z : (b : Bool) → wire false b ≡ false = elim [ true ↦ refl | false ↦ refl ] in
    given_as (λ t. Bits t 0 0 0) s m l Start (heard_is s l h ∙ rw (p, q, w, d, z (pulls s.phase)))
    (record { hearing = h; phase = refl; small = omega arith; counted = rw q })

-- What the bits so far are, with some later ones in hand.
abbrev Read : Mem → List Call → ℕ → ℕ → ℕ → Type 0
Read was calls i n x = (later : List Bool) → number_from 0 (bits_from was calls i n later) ≡ number_from x later

-- A choice that is made.
taken_first : (b : Bool) (x y : List Bool) → b ≡ true → elim b [ true ↦ x | false ↦ y ] ≡ x
taken_first true x y e = refl
taken_first false x y e = absurd (false≢true e)

-- A choice that is not made.
taken_second : (b : Bool) (x y : List Bool) → b ≡ false → elim b [ true ↦ x | false ↦ y ] ≡ y
taken_second true x y e = absurd (true≢false e)
taken_second false x y e = refl

-- One call more that rises, and one that does not.
read_more : (was : Mem) (calls : List Call) (i n x : ℕ) (b v : Bool) → rises_at was calls (i + n) ≡ b
    → (wires.levels (history_at was calls (suc (i + n)))).sda ≡ v → Read was calls i n x
    → Read was calls i (suc n) (cond b (2 * x + cond v 1 0) x)
read_more was calls i n x true v e d r later =
    ap (number_from 0)
    (taken_first (rises_at was calls (i + n))
    (bits_from was calls i n ((wires.levels (history_at was calls (suc (i + n)))).sda ∷ later)) (bits_from was calls i n later) e)
    ∙ rw d (r (v ∷ later))
read_more was calls i n x false v e d r later =
    ap (number_from 0)
    (taken_second (rises_at was calls (i + n))
    (bits_from was calls i n ((wires.levels (history_at was calls (suc (i + n)))).sda ∷ later)) (bits_from was calls i n later) e)
    ∙ r later

-- After n calls from call i on and f falls in them: the rises, and the number that their bits make.
record Reading (was : Mem) (calls : List Call) (i n f : ℕ) : Type 0 where
  rises : ℕ
  byte : ℕ
  bits : Bits (state_at was calls (i + n)) f rises byte
  read : Read was calls i n byte

-- A count with one call less is no more.
count_less : (b : Bool) (c : ℕ) → cond b (suc c) c ≤ 8 → c ≤ 8
count_less true c h = omega arith
count_less false c h = h

-- Where nothing is counted, the last call is not either.
count_none : (b : Bool) (c : ℕ) → cond b (suc c) c ≡ 0 → (b ≡ false) × (c ≡ 0)
count_none true c h = absurd (omega arith)
count_none false c h = (refl, h)

module _ (was : Mem) (fit : was.fit ≡ true) (tracks : (cs : List Call) → Tracks was (history was cs) (left was cs).state (left was cs).mem) where
  -- The fall at a call, counted.
  falls_more : (calls : List Call) (i n : ℕ)
      → count_from (falls_at was calls) i (suc n)
      ≡ cond (fall (state_at was calls (i + n)) (state_at was calls (suc (i + n)))) (suc (count_from (falls_at was calls) i n)) (count_from (falls_at was calls) i n)
  falls_more calls i n = count_more (falls_at was calls) i n (fall (state_at was calls (i + n)) (state_at was calls (suc (i + n)))) (fall_at was fit tracks calls (i + n))

  -- One call more before the ninth fall.
  reading_more : (calls : List Call) (i n : ℕ) → i + n < length calls
      → leaves_sda (wires.levels (history_at was calls (i + n))) (accepted (call_at calls (i + n))) ≡ true
      → count_from (falls_at was calls) i (suc n) ≤ 8
      → Reading was calls i n (count_from (falls_at was calls) i n) → Reading was calls i (suc n) (count_from (falls_at was calls) i (suc n))
  reading_more calls i n l h few k =
      record {
        rises = cond (rise s t) (suc k.rises) k.rises;
        byte = cond (rise s t) (2 * k.byte + cond t.levels.sda 1 0) k.byte;
        bits = rw (up, falls_more calls i n) more;
        read =
            read_more was calls i n k.byte (rise s t) t.levels.sda (rise_at was fit tracks calls (i + n))
            (ap (λ (x : Levels). x.sda) (levels_at was fit tracks calls (suc (i + n)))) k.read;
      }
    where
      s : State
      s = state_at was calls (i + n)

      t : State
      t = state_at was calls (suc (i + n))

      up : i + suc n ≡ suc (i + n)
      up = omega arith

      f : ℕ
      f = count_from (falls_at was calls) i n

      more : More s t f k.rises k.byte
      more =
          let e : t ≡ (taken (accepted (call_at calls (i + n))) s (mem_at was calls (i + n))).state = state_more was fit tracks calls (i + n) l in
          let fs : cond (fall s t) (suc f) f ≤ 8 = rw (falls_more calls i n) at few in
          subst (λ u. More s u f k.rises k.byte) (sym e)
          (more_call (accepted (call_at calls (i + n))) s (mem_at was calls (i + n)) f k.rises k.byte
          (rw (levels_at was fit tracks calls (i + n)) at h) k.bits
          (subst (λ u. cond (fall s u) (suc f) f ≤ 8) e fs))

  -- All calls before the ninth fall.
  reading_run : (calls : List Call) (i n : ℕ) → i + n ≤ length calls
      → ((k : ℕ) → i ≤ k → k < i + n → leaves_sda (wires.levels (history_at was calls k)) (accepted (call_at calls k)) ≡ true)
      → count_from (falls_at was calls) i n ≤ 8 → Bits (state_at was calls i) 0 0 0
      → Reading was calls i n (count_from (falls_at was calls) i n)
  reading_run calls i zero l h few k = record { rises = 0; byte = 0; bits = rw (add-zero i) k; read = λ later. refl }
  reading_run calls i (suc n) l h few k =
      let fs : cond (fall (state_at was calls (i + n)) (state_at was calls (suc (i + n)))) (suc (count_from (falls_at was calls) i n)) (count_from (falls_at was calls) i n) ≤ 8 =
      rw (falls_more calls i n) at few in
      reading_more calls i n (omega arith) (h (i + n) (omega arith) (omega arith)) few
      (reading_run calls i n (omega arith) (λ j a b. h j a (omega arith))
      (count_less (fall (state_at was calls (i + n)) (state_at was calls (suc (i + n)))) (count_from (falls_at was calls) i n) fs) k)

  -- All calls from the ninth fall on, until the tenth.
  kept_run : (calls : List Call) (i m x : ℕ) → i + m ≤ length calls
      → ((k : ℕ) → i ≤ k → k < i + m → keeps_main (accepted (call_at calls k)) ≡ true)
      → count_from (falls_at was calls) i m ≡ 0 → Pulled (state_at was calls i) x → Pulled (state_at was calls (i + m)) x
  kept_run calls i zero x l h none k = rw (add-zero i) k
  kept_run calls i (suc m) x l h none k =
      let s : State = state_at was calls (i + m) in
      let t : State = state_at was calls (suc (i + m)) in
      let up : i + suc m ≡ suc (i + m) = omega arith in
      let cs : cond (fall s t) (suc (count_from (falls_at was calls) i m)) (count_from (falls_at was calls) i m) ≡ 0 =
      sym (falls_more calls i m) ∙ none in
      let no : (fall s t ≡ false) × (count_from (falls_at was calls) i m ≡ 0) = count_none (fall s t) (count_from (falls_at was calls) i m) cs in
      let e : t ≡ (taken (accepted (call_at calls (i + m))) s (mem_at was calls (i + m))).state = state_more was fit tracks calls (i + m) (omega arith) in
      let before : Pulled s x = kept_run calls i m x (omega arith) (λ j a b. h j a (omega arith)) no.1 k in
      rw up
      (subst (λ u. Pulled u x) (sym e)
      (kept_call (accepted (call_at calls (i + m))) s (mem_at was calls (i + m)) x (h (i + m) (omega arith) (omega arith)) before
      (subst (λ u. fall s u ≡ false) e no.0)))

  -- The ninth fall, after a start at call i.
  ninth_fall : (calls : List Call) (i n : ℕ) → i + n < length calls
      → leaves_sda (wires.levels (history_at was calls (i + n))) (accepted (call_at calls (i + n))) ≡ true
      → falls_at was calls (i + n) ≡ true
      → is_some (slave_named (number_from 0 (bits_from was calls i (suc n) []))) ≡ true
      → Reading was calls i n 8 → (x : ℕ) × Pulled (state_at was calls (suc (i + n))) x
  ninth_fall calls i n l h d o k =
      let s : State = state_at was calls (i + n) in
      let t : State = state_at was calls (suc (i + n)) in
      let e : t ≡ (taken (accepted (call_at calls (i + n))) s (mem_at was calls (i + n))).state = state_more was fit tracks calls (i + n) l in
      let f : fall s t ≡ true = sym (fall_at was fit tracks calls (i + n)) ∙ d in
      let r : rises_at was calls (i + n) ≡ false = rise_at was fit tracks calls (i + n) ∙ falls_no_rise s.levels.scl t.levels.scl f in
      let y : number_from 0 (bits_from was calls i (suc n) []) ≡ k.byte =
      read_more was calls i n k.byte false (wires.levels (history_at was calls (suc (i + n)))).sda r refl k.read [] in (
        k.byte,
        subst (λ u. Pulled u k.byte) (sym e)
            (pulled_call (accepted (call_at calls (i + n))) s (mem_at was calls (i + n)) k.rises k.byte
            (rw (levels_at was fit tracks calls (i + n)) at h) k.bits (subst (λ b. is_some (slave_named b) ≡ true) y o)
            (subst (λ u. fall s u ≡ true) e f)),
      )

  -- A start is heard: whichever of our slave bytes is sent next is acknowledged.
  pub hears_start : (calls : List Call) (rows : List Answer) → Answers was calls rows → Hears was calls rows
  hears_start calls rows answers i zero m l hearing clock high given leaves nine last ours keeps none = absurd (omega (arith, nine))
  hears_start calls rows answers i (suc n) m l hearing clock high given leaves nine last ours keeps none =
      let same : i + suc n ≡ i + 1 + n = omega arith in
      let begun : Bits (state_at was calls (i + 1)) 0 0 0 =
      rw (add-one i, state_more was fit tracks calls i (omega arith), given)
      (bits_first (state_at was calls i) (mem_at was calls i) (record { scl = true; sda = false })
      (sym (hears_at was fit tracks calls i) ∙ hearing)
      (sym (ap (λ (x : Levels). x.scl) (levels_at was fit tracks calls i)) ∙ clock)
      (sym (wire_at was fit tracks calls i) ∙ high) refl refl) in
      let fell : falls_at was calls (i + 1 + n) ≡ true = rw same at last in
      let count : suc (count_from (falls_at was calls) (i + 1) n) ≡ 9 = sym (count_more (falls_at was calls) (i + 1) n true fell) ∙ nine in
      let eight : count_from (falls_at was calls) (i + 1) n ≡ 8 = omega arith in
      let read : Reading was calls (i + 1) n 8 =
      subst (λ c. Reading was calls (i + 1) n c) eight
      (reading_run calls (i + 1) n (omega arith) (λ k a b. leaves k (omega arith) (omega arith)) (omega arith) begun) in
      let ack : (x : ℕ) × Pulled (state_at was calls (suc (i + 1 + n))) x =
      ninth_fall calls (i + 1) n (omega arith) (leaves (i + 1 + n) (omega arith) (omega arith)) fell ours read in
      let next : suc (i + 1 + n) ≡ i + suc n + 1 = omega arith in
      let after : Pulled (state_at was calls (i + suc n + 1 + m)) ack.0 =
      kept_run calls (i + suc n + 1) m ack.0 (omega arith) (λ k a b. keeps k (omega arith) (omega arith)) none
      (subst (λ j. Pulled (state_at was calls j) ack.0) next ack.1) in
      let end : i + suc n + 1 + m ≡ suc (i + suc n + m) = omega arith in
      let there : Pulled (state_at was calls (suc (i + suc n + m))) ack.0 = subst (λ j. Pulled (state_at was calls j) ack.0) end after in
      row_at was fit tracks calls rows answers (i + suc n + m) l ∙ rw there.phase
