-- Ten pulses with SDA released include one with the wire high.
use Rattle.std.proofs.Common.{◌≡◌, ℕ, zero, suc, ◌+◌, ◌-◌, ◌<◌, ◌≤◌, Bool, true, false, cond, not, ◌&&◌, eqb, ltb, ◌⊎◌, List, length, get_or, Some, None, Ok, Err, Option, Result, sym, refl, ap, ◌∙◌, subst, inl, inr, add-zero, add-one, arith}
use Rattle.std.proofs.lemmas.Bool.{ltb-true, false≢true}
use Rattle.memory.specs.Model.{Mem}
use Rattle.chip.specs.Bits.{shifted}
use Rattle.chip.specs.Calls.{accepted}
use Rattle.chip.specs.Counter.{at_status}
use Rattle.chip.specs.Slaves.{slave_named, reads}
use Rattle.chip.specs.Wires.{wire, edge_by}
use Rattle.chip.specs.declared.calls.Answer.{Answer}
use Rattle.chip.specs.declared.calls.Call.{Call}
use Rattle.chip.specs.declared.calls.Event.{Event}
use Rattle.chip.specs.declared.calls.Event.TheVariants.{Given, Ticked, Supplied}
use Rattle.chip.specs.declared.refusals.Refusal.{Refusal}
use Rattle.chip.specs.declared.slaves.Slave.{Slave}
use Rattle.chip.specs.declared.wires.Edge.TheVariants.{Rise, Fall, Still}
use Rattle.chip.specs.declared.wires.Levels.{Levels}
use Rattle.rules.specs.History.{history}
use Rattle.rules.specs.Law.{call_at, history_at, no_answer, Answers, rises_at, count_from, releases, Frees}
use Rattle.rules.specs.Wires as wires
use Rattle.x1226.specs.declared.state.Phase.{Phase}
use Rattle.x1226.specs.declared.state.Phase.TheVariants.{Deaf, Receiving, Acknowledging, Sending, Listening}
use Rattle.x1226.specs.declared.state.State.{State}
use Rattle.x1226.specs.State.{with_levels}
use Rattle.x1226.specs.Frame.{pulls, phase_risen, risen, fallen, fallen_in, acknowledged, addressed_as}
use Rattle.x1226.specs.Timer.{ticked}
use Rattle.x1226.specs.Step.{hears, heard, leveled, switched, taken, left}
use Rattle.law.proofs.Tracks.{Tracks}
use Rattle.law.proofs.Runs.{same_hears, levels_same, fallen_same, Quiet, quiet, tick_quiet, main_quiet, heard_is, given_as, under_high, rise, count_more, state_at, mem_at, state_more, hears_at, wire_at, rise_at, row_at}

-- How many pulses can still find the wire low, with SCL low and SDA released.
abbrev pub low : Phase → ℕ
low Deaf = 0
low (Receiving stage bits shift) = 0
low (Acknowledging stage byte) = 9
low (Sending sent byte) = suc (7 - sent)
low Listening = 0

-- It is never more than nine.
low_most : (p : Phase) → low p ≤ 9
low_most Deaf = omega arith
low_most (Receiving stage bits shift) = omega arith
low_most (Acknowledging stage byte) = omega arith
low_most (Sending sent byte) = omega arith
low_most Listening = omega arith

-- While the module pulls it is at least one.
low_least : (p : Phase) → pulls p ≡ true → 1 ≤ low p
low_least Deaf h = absurd (false≢true h)
low_least (Receiving stage bits shift) h = absurd (false≢true h)
low_least (Acknowledging stage byte) h = omega arith
low_least (Sending sent byte) h = omega arith
low_least Listening h = absurd (false≢true h)

-- A rise leaves it.
low_risen : (v : Bool) (p : Phase) → low (phase_risen v p) ≡ low p
low_risen v Deaf = refl
low_risen v (Receiving stage bits shift) = go (ltb bits 8) (bits + 1) (shifted shift v)
  where
    go : (b : Bool) (x y : ℕ) → low (cond b (Receiving stage x y) (Receiving stage bits shift)) ≡ 0
    go true x y = refl
    go false x y = refl
low_risen v (Acknowledging stage byte) = refl
low_risen v (Sending sent byte) = refl
low_risen true Listening = refl
low_risen false Listening = refl

-- A rise leaves the pull.
pub pulls_risen : (v : Bool) (p : Phase) → pulls (phase_risen v p) ≡ pulls p
pulls_risen v Deaf = refl
pulls_risen v (Receiving stage bits shift) = go (ltb bits 8) (bits + 1) (shifted shift v)
  where
    go : (b : Bool) (x y : ℕ) → pulls (cond b (Receiving stage x y) (Receiving stage bits shift)) ≡ false
    go true x y = refl
    go false x y = refl
pulls_risen v (Acknowledging stage byte) = refl
pulls_risen v (Sending sent byte) = refl
pulls_risen true Listening = refl
pulls_risen false Listening = refl

-- Either way there are at most n.
low_cond : (n : ℕ) (b : Bool) (x y : State) → low x.phase ≤ n → low y.phase ≤ n → low (cond b x y).phase ≤ n
low_cond n true x y p q = p
low_cond n false x y p q = q

-- After the slave byte's acknowledge at most eight can come.
low_addressed : (o : Option Slave) (s : State) (m : Mem) → low (addressed_as o s m).phase ≤ 8
low_addressed None s m = omega arith
low_addressed (Some slave) s m = low_cond 8 (reads slave) _ _ (omega arith) (omega arith)

-- At most the eight bits of a byte sent come after an acknowledge.
low_acknowledged : (stage byte : ℕ) (s : State) (m : Mem) → low (acknowledged stage byte s m).phase ≤ 8
low_acknowledged stage byte s m =
    low_cond 8 (eqb stage 0) _ _ (low_addressed (slave_named byte) s m)
    (low_cond 8 (eqb stage 1) _ _ (omega arith) (low_cond 8 (eqb stage 2) _ _ (omega arith) (omega arith)))

-- A bit sent is one less.
low_sent : (sent byte : ℕ) (s : State) (m : Mem) (b : Bool) → ltb sent 7 ≡ b → low (fallen_in (Sending sent byte) s m).phase ≤ 7 - sent
low_sent sent byte s m true e = rw e (let l : sent < 7 = ltb-true sent 7 e in omega arith)
low_sent sent byte s m false e = rw e (low_cond (7 - sent) (at_status s.area s.counter) _ _ (omega arith) (omega arith))

-- A fall that ends a pull spends one.
low_fallen : (p : Phase) (s : State) (m : Mem) → pulls p ≡ true → low (fallen_in p s m).phase + 1 ≤ low p
low_fallen Deaf s m h = absurd (false≢true h)
low_fallen (Receiving stage bits shift) s m h = absurd (false≢true h)
low_fallen (Acknowledging stage byte) s m h = omega (arith, low_acknowledged stage byte s m)
low_fallen (Sending sent byte) s m h = omega (arith, low_sent sent byte s m (ltb sent 7) refl)
low_fallen Listening s m h = absurd (false≢true h)

-- After c pulses with the wire low: those and what can still come are nine; with SCL high the pull of the last one lasts.
abbrev pub Spent : Bool → Phase → ℕ → Type 0
Spent false p c = c + low p ≤ 9
Spent true p c = (pulls p ≡ true) × (c + low p ≤ 10)

-- A bus that hears, SDA released, after c pulses with the wire low.
pub record Calm (s : State) (c : ℕ) : Type 0 where
  pub hearing : hears s ≡ true
  pub released : s.levels.sda ≡ true
  pub spent : Spent s.levels.scl s.phase c

-- A rise with the wire high, on a bus that hears.
pub record Found (s t : State) : Type 0 where
  pub rising : rise s t ≡ true
  pub released : t.levels.sda ≡ true
  pub unpulled : pulls t.phase ≡ false
  pub hearing : hears t ≡ true

-- What a call in the stretch comes to.
abbrev Freed : State → State → ℕ → Type 0
Freed s t c = Found s t ⊎ Calm t (cond (rise s t) (suc c) c)

-- Where SCL stays, no rise is counted.
no_rise : (a b : Bool) (c : ℕ) → b ≡ a → cond (not a && b) (suc c) c ≡ c
no_rise true b c e = refl
no_rise false true c e = absurd (false≢true (sym e))
no_rise false false c e = refl

-- Nothing moved on the wires, and the phase is as before.
freed_still : (s t : State) (c : ℕ) → t.levels ≡ s.levels → t.phase ≡ s.phase → hears t ≡ true → Calm s c → Freed s t c
freed_still s t c l p h k =
    let at : Calm t c =
    record { hearing = h; released = rw l k.released; spent = rw (l, p) k.spent } in
    inr (rw (no_rise s.levels.scl t.levels.scl c (ap (λ (x : Levels). x.scl) l)) at)

-- A quiet call.
freed_quiet : (s t : State) (c : ℕ) → Quiet s t → Calm s c → Freed s t c
freed_quiet s t c q k = freed_still s t c q.levels q.phase (q.hearing k.hearing) k

-- What is heard with SDA released before and after.
released_edge : (s : State) (l : Levels) (a b : Bool) → hears s ≡ true → s.levels.sda ≡ true → l.sda ≡ true → s.levels.scl ≡ a → l.scl ≡ b
    → heard s l ≡ edge_by a b (wire true (pulls s.phase)) (wire true (pulls s.phase))
released_edge s l a b h d e p q = heard_is s l h ∙ rw (d, e, p, q)

-- Levels with the same SCL and SDA are the same.
same_levels : (x y : Levels) (a b : Bool) → x.scl ≡ a → y.scl ≡ a → x.sda ≡ b → y.sda ≡ b → y ≡ x
same_levels x y a b p q d e = λ i. record { scl = (q ∙ sym p) i; sda = (e ∙ sym d) i }

-- SCL falls where the wire was low.
freed_fall : (s t : State) (c : ℕ) → s.levels.scl ≡ true → t.levels.scl ≡ false → t.levels.sda ≡ true → hears t ≡ true
    → (pulls s.phase ≡ true → low t.phase + 1 ≤ low s.phase) → Calm s c → Freed s t c
freed_fall s t c p q d h f k =
    let e : (pulls s.phase ≡ true) × (c + low s.phase ≤ 10) = rw p at k.spent in
    let g : low t.phase + 1 ≤ low s.phase = f e.0 in
    let at : Calm t c = record { hearing = h; released = d; spent = rw q (omega (arith, e.1)) } in
    let n : cond (rise s t) (suc c) c ≡ c = rw p in
    inr (rw n at)

-- SCL rises: the wire is high, or one more was low.
freed_rise : (s t : State) (c : ℕ) (b : Bool) → s.levels.scl ≡ false → t.levels.scl ≡ true → t.levels.sda ≡ true → hears t ≡ true
    → pulls t.phase ≡ pulls s.phase → low t.phase ≡ low s.phase → pulls s.phase ≡ b → Calm s c → Freed s t c
freed_rise s t c false p q d h u f e k =
    inl (record { rising = rw (p, q); released = d; unpulled = u ∙ e; hearing = h })
freed_rise s t c true p q d h u f e k =
    let g : c + low s.phase ≤ 9 = rw p at k.spent in
    let at : Calm t (suc c) = record { hearing = h; released = d; spent = rw q (u ∙ e, omega arith) } in
    let n : cond (rise s t) (suc c) c ≡ suc c = rw (p, q) in
    inr (rw n at)

-- New levels with SDA released.
freed_given : (s : State) (m : Mem) (l : Levels) (c : ℕ) → l.sda ≡ true → Calm s c → (a b : Bool) → s.levels.scl ≡ a → l.scl ≡ b
    → Freed s (leveled l s m).state c
freed_given s m l c d k true true p q =
    given_as (λ t. Freed s t c) s m l Still
    (released_edge s l true true k.hearing k.released d p q ∙ under_high (wire true (pulls s.phase)))
    (freed_still s (with_levels l s) c (same_levels s.levels l true true p q k.released d) refl k.hearing k)
freed_given s m l c d k false false p q =
    given_as (λ t. Freed s t c) s m l Still
    (released_edge s l false false k.hearing k.released d p q)
    (freed_still s (with_levels l s) c (same_levels s.levels l false true p q k.released d) refl k.hearing k)
freed_given s m l c d k true false p q =
    given_as (λ t. Freed s t c) s m l Fall
    (released_edge s l true false k.hearing k.released d p q)
    (freed_fall s (with_levels l (fallen s m)) c p q d
    (same_hears s (with_levels l (fallen s m)) (levels_same s (fallen s m) l (fallen_same s.phase s m)) k.hearing)
    (low_fallen s.phase s m) k)
freed_given s m l c d k false true p q =
    given_as (λ t. Freed s t c) s m l (Rise (wire true (pulls s.phase)))
    (released_edge s l false true k.hearing k.released d p q)
    (freed_rise s (with_levels l (risen (wire true (pulls s.phase)) s)) c (pulls s.phase) p q d k.hearing
    (pulls_risen (wire true (pulls s.phase)) s.phase) (low_risen (wire true (pulls s.phase)) s.phase) refl k)

-- A call in the stretch.
freed_call : (e : Result Event Refusal) (s : State) (m : Mem) (c : ℕ) → releases e ≡ true → Calm s c → Freed s (taken e s m).state c
freed_call (Err r) s m c h k = freed_quiet s s c (quiet s) k
freed_call (Ok (Given l)) s m c h k = freed_given s m l c h k s.levels.scl l.scl refl refl
freed_call (Ok Ticked) s m c h k = freed_quiet s (ticked s m) c (tick_quiet s m) k
freed_call (Ok (Supplied p)) s m c h k = freed_quiet s (switched p s) c (main_quiet p s h) k

-- The first call: it falls or finds SCL low, and leaves at most nine.
calm_first : (s : State) (m : Mem) (l : Levels) → hears s ≡ true → l.scl ≡ false → l.sda ≡ true → (a : Bool) → s.levels.scl ≡ a
    → Calm (leveled l s m).state 0
calm_first s m l h q d true p =
    given_as (λ t. Calm t 0) s m l Fall (heard_is s l h ∙ rw (p, q))
    (record {
      hearing = same_hears s (with_levels l (fallen s m)) (levels_same s (fallen s m) l (fallen_same s.phase s m)) h;
      released = d;
      spent = rw q (omega (arith, low_most (fallen s m).phase));
    })
calm_first s m l h q d false p =
    given_as (λ t. Calm t 0) s m l Still (heard_is s l h ∙ rw (p, q))
    (record { hearing = h; released = d; spent = rw q (omega (arith, low_most s.phase)) })

-- Among the n calls from call i on, one rises with the wire high.
abbrev Finding : (ℕ → State) → ℕ → ℕ → Type 0
Finding S i n = (k : ℕ) × (i ≤ k) × (k < i + n) × Found (S k) (S (suc k))

-- A stretch of calls, each with the state before and after it.
module _ (S : ℕ → State) (M : ℕ → Mem) (E : ℕ → Result Event Refusal) (N : ℕ)
    (step : (k : ℕ) → k < N → S (suc k) ≡ (taken (E k) (S k) (M k)).state)
    (p : ℕ → Bool) (rises : (k : ℕ) → p k ≡ rise (S k) (S (suc k))) (i : ℕ) where
  -- One call more.
  freed_more : (n : ℕ) → i + n < N → releases (E (i + n)) ≡ true → Calm (S (i + n)) (count_from p i n)
      → Finding S i (suc n) ⊎ Calm (S (i + suc n)) (count_from p i (suc n))
  freed_more n l r k =
      go (subst (λ t. Freed (S (i + n)) t (count_from p i n)) (sym (step (i + n) l)) (freed_call (E (i + n)) (S (i + n)) (M (i + n)) (count_from p i n) r k))
    where
      up : i + suc n ≡ suc (i + n)
      up = omega arith

      go : Freed (S (i + n)) (S (suc (i + n))) (count_from p i n) → Finding S i (suc n) ⊎ Calm (S (i + suc n)) (count_from p i (suc n))
      go (inl f) = inl (i + n, omega arith, omega arith, f)
      go (inr c) = inr (rw (up, count_more p i n (rise (S (i + n)) (S (suc (i + n)))) (rises (i + n))) c)

  -- A rise with the wire high is found, or all rises so far were low.
  freed_run : (n : ℕ) → i + n ≤ N → ((k : ℕ) → i ≤ k → k < i + n → releases (E k) ≡ true) → Calm (S i) 0
      → Finding S i n ⊎ Calm (S (i + n)) (count_from p i n)
  freed_run zero l r k = inr (rw (add-zero i) k)
  freed_run (suc n) l r k = go (freed_run n (omega arith) (λ j a b. r j a (omega arith)) k)
    where
      go : Finding S i n ⊎ Calm (S (i + n)) (count_from p i n) → Finding S i (suc n) ⊎ Calm (S (i + suc n)) (count_from p i (suc n))
      go (inl f) = inl (f.0, f.1, omega (arith, f.2), f.3)
      go (inr c) = freed_more n (omega arith) (r (i + n) (omega arith) (omega arith)) c

-- At most nine were low.
calm_most : (s : State) (c : ℕ) (a : Bool) → s.levels.scl ≡ a → Calm s c → c ≤ 9
calm_most s c true e k =
    let g : (pulls s.phase ≡ true) × (c + low s.phase ≤ 10) = rw e at k.spent in
    omega (arith, g.1, low_least s.phase g.0)
calm_most s c false e k =
    let g : c + low s.phase ≤ 9 = rw e at k.spent in
    omega arith

module _ (was : Mem) (fit : was.fit ≡ true) (tracks : (cs : List Call) → Tracks was (history was cs) (left was cs).state (left was cs).mem) where
  -- Ten pulses with SDA released include one with the wire high, on a bus that hears.
  pub frees : (calls : List Call) (rows : List Answer) → Answers was calls rows → Frees was calls rows
  frees calls rows answers i n l hearing given releasing ten =
      go
      (freed_run (state_at was calls) (mem_at was calls) (λ k. accepted (call_at calls k)) (length calls)
      (state_more was fit tracks calls) (rises_at was calls) (rise_at was fit tracks calls) (i + 1) n (omega arith)
      (λ k a b. releasing k (omega arith) (omega arith)) begun)
    where
      begun : Calm (state_at was calls (i + 1)) 0
      begun =
          rw (add-one i, state_more was fit tracks calls i (omega arith), given)
          (calm_first (state_at was calls i) (mem_at was calls i) (record { scl = false; sda = true })
          (sym (hears_at was fit tracks calls i) ∙ hearing) refl refl (state_at was calls i).levels.scl refl)

      go : Finding (state_at was calls) (i + 1) n ⊎ Calm (state_at was calls (i + 1 + n)) (count_from (rises_at was calls) (i + 1) n)
          → (k : ℕ) × ((i < k) × (k ≤ i + n) × (rises_at was calls k ≡ true)
          × (wires.wire_level (history_at was calls (suc k)) ≡ true) × ((get_or rows k no_answer).sda ≡ true)
          × (wires.hears (history_at was calls (suc k)) ≡ true))
      go (inl (k, a, b, f)) =
          let r : (get_or rows k no_answer).sda ≡ not (pulls (state_at was calls (suc k)).phase) =
          row_at was fit tracks calls rows answers k (omega arith) in (
            k,
            (
              omega arith,
              omega arith,
              rise_at was fit tracks calls k ∙ f.rising,
              wire_at was fit tracks calls (suc k) ∙ rw (f.released, f.unpulled),
              r ∙ ap not f.unpulled,
              hears_at was fit tracks calls (suc k) ∙ f.hearing,
            ),
          )
      go (inr c) =
          absurd
          (omega (
            arith,
            calm_most (state_at was calls (i + 1 + n)) (count_from (rises_at was calls) (i + 1) n) (state_at was calls (i + 1 + n)).levels.scl refl c,
            ten,
          ))
