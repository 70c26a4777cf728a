-- What calls leave alone on the bus, and the states of a run against its history.
use Rattle.std.proofs.Common.{◌≡◌, ℕ, suc, ◌+◌, ◌-◌, ◌<◌, Bool, true, false, cond, not, ◌&&◌, eqb, ltb, List, [], ◌∷◌, reverse, length, get_or, take, Some, None, Option, sym, refl, ap, ◌∙◌, subst, add-one, arith}
use Rattle.std.proofs.lemmas.List.{take_more, reverse-append}
use Rattle.std.proofs.lemmas.Bool.{eqb-true, eq-eqb, false≢true}
use Rattle.memory.specs.Model.{Mem}
use Rattle.chip.specs.Calls.{accepted}
use Rattle.chip.specs.Counter.{at_status}
use Rattle.chip.specs.Slaves.{slave_named, reads}
use Rattle.chip.specs.Wires.{wire, edge_between, under_high_clock}
use Rattle.chip.specs.declared.calls.Answer.{Answer}
use Rattle.chip.specs.declared.calls.Call.{Call}
use Rattle.chip.specs.declared.calls.Call.TheVariants.{Tick}
use Rattle.chip.specs.declared.calls.Supply.{Supply}
use Rattle.chip.specs.declared.calls.Supply.TheVariants.{Off, Main, Battery}
use Rattle.chip.specs.declared.refusals.Refusal.TheVariants.{Unfit}
use Rattle.chip.specs.declared.slaves.Slave.{Slave}
use Rattle.chip.specs.declared.wires.Edge.{Edge}
use Rattle.chip.specs.declared.wires.Edge.TheVariants.{Still}
use Rattle.chip.specs.declared.wires.Levels.{Levels}
use Rattle.rules.specs.Past as past
use Rattle.rules.specs.Past.{History}
use Rattle.rules.specs.Wires as wires
use Rattle.rules.specs.History.{history}
use Rattle.rules.specs.Law.{call_at, first, history_at, no_answer, Answers, rises_at, falls_at, count_from}
use Rattle.x1226.specs.declared.state.Phase.{Phase}
use Rattle.x1226.specs.declared.state.Phase.TheVariants.{Deaf, Receiving, Acknowledging, Sending, Listening}
use Rattle.x1226.specs.declared.state.State.{State}
use Rattle.x1226.specs.State.{with_levels, with_cycle}
use Rattle.x1226.specs.Frame.{pulls, fallen_in, acknowledged, addressed_as}
use Rattle.x1226.specs.Stop.{refused}
use Rattle.x1226.specs.Timer.{timed, ticked}
use Rattle.x1226.specs.Step.{is_main, hears, heard, acted, leveled, switched, taken, left}
use Rattle.law.proofs.Tracks.{Tracks, Holds}

-- Supply and write cycle are as before.
pub record Same (s t : State) : Type 0 where
  pub supply : t.supply ≡ s.supply
  pub cycle : t.cycle ≡ s.cycle

-- Either way supply and write cycle are as before.
same_cond : (b : Bool) {s x y : State} → Same s x → Same s y → Same s (cond b x y)
same_cond true p q = p
same_cond false p q = q

-- Then the bus hears as before.
pub same_hears : (s t : State) → Same s t → hears s ≡ true → hears t ≡ true
same_hears s t k h = rw (k.supply, k.cycle) h

-- So do new levels.
pub levels_same : (s t : State) (l : Levels) → Same s t → Same s (with_levels l t)
levels_same s t l k = record { supply = k.supply; cycle = k.cycle }

-- The end of a slave byte's acknowledge leaves supply and write cycle.
addressed_same : (o : Option Slave) (s : State) (m : Mem) → Same s (addressed_as o s m)
addressed_same None s m = record { supply = refl; cycle = refl }
addressed_same (Some slave) s m = same_cond (reads slave) (record { supply = refl; cycle = refl }) (record { supply = refl; cycle = refl })

-- The end of an acknowledge leaves supply and write cycle.
acknowledged_same : (stage byte : ℕ) (s : State) (m : Mem) → Same s (acknowledged stage byte s m)
acknowledged_same stage byte s m =
    same_cond (eqb stage 0) (addressed_same (slave_named byte) s m)
    (same_cond (eqb stage 1) (record { supply = refl; cycle = refl })
    (same_cond (eqb stage 2) (record { supply = refl; cycle = refl }) (record { supply = refl; cycle = refl })))

-- A fall leaves supply and write cycle.
pub fallen_same : (p : Phase) (s : State) (m : Mem) → Same s (fallen_in p s m)
fallen_same Deaf s m = record { supply = refl; cycle = refl }
fallen_same (Receiving stage bits shift) s m =
    same_cond (eqb bits 8) (record { supply = refl; cycle = refl }) (record { supply = refl; cycle = refl })
fallen_same (Acknowledging stage byte) s m = acknowledged_same stage byte s m
fallen_same (Sending sent byte) s m =
    same_cond (ltb sent 7) (record { supply = refl; cycle = refl })
    (same_cond (at_status s.area s.counter) (record { supply = refl; cycle = refl }) (record { supply = refl; cycle = refl }))
fallen_same Listening s m = record { supply = refl; cycle = refl }

-- Levels and phase are as before, and a bus that heard still does.
pub record Quiet (s t : State) : Type 0 where
  pub levels : t.levels ≡ s.levels
  pub phase : t.phase ≡ s.phase
  pub hearing : hears s ≡ true → hears t ≡ true

-- Nothing happened.
pub quiet : (s : State) → Quiet s s
quiet s = record { levels = refl; phase = refl; hearing = λ h. h }

-- Either way it is quiet.
quiet_cond : (b : Bool) {s x y : State} → Quiet s x → Quiet s y → Quiet s (cond b x y)
quiet_cond true p q = p
quiet_cond false p q = q

-- What the clock does is quiet.
timed_quiet : (s : State) (m : Mem) → Quiet s (timed s m)
timed_quiet s m =
    quiet_cond _ (record { levels = refl; phase = refl; hearing = λ h. h }) (record { levels = refl; phase = refl; hearing = λ h. h })

-- A write cycle that is over stays over.
cycle_over : (b : Bool) (c : ℕ) → cond b (eqb c 0) false ≡ true → cond b (eqb (c - 1) 0) false ≡ true
cycle_over true c h = eq-eqb (c - 1) 0 (omega (arith, eqb-true c 0 h))
cycle_over false c h = h

-- A tick is quiet.
pub tick_quiet : (s : State) (m : Mem) → Quiet s (ticked s m)
tick_quiet s m =
    let q : Quiet (with_cycle (s.cycle - 1) s) (timed (with_cycle (s.cycle - 1) s) m) = timed_quiet (with_cycle (s.cycle - 1) s) m in
    quiet_cond _
    (record {
      levels = q.levels;
      phase = q.phase;
      hearing = λ h. q.hearing (cycle_over (is_main s.supply) s.cycle h);
    })
    (quiet s)

-- Where the bus hears, no write cycle is open.
main_hears : (b : Bool) (c : ℕ) → cond b (eqb c 0) false ≡ true → eqb c 0 ≡ true
main_hears true c h = h
main_hears false c h = absurd (false≢true h)

-- A supply that keeps main is quiet.
pub main_quiet : (p : Supply) (s : State) → past.is_main p ≡ true → Quiet s (switched p s)
main_quiet Off s h = absurd (false≢true h)
main_quiet Main s h = record { levels = refl; phase = refl; hearing = main_hears (is_main s.supply) s.cycle }
main_quiet Battery s h = absurd (false≢true h)

-- What is heard where the bus hears.
pub heard_is : (s : State) (l : Levels) → hears s ≡ true → heard s l ≡ edge_between s.levels (pulls s.phase) l
heard_is s l h = rw h

-- What becomes of new levels, by what is heard of them.
pub given_as : (P : State → Type 0) (s : State) (m : Mem) (l : Levels) (e : Edge) → heard s l ≡ e
    → P (with_levels l (acted e s m).state) → P (leveled l s m).state
given_as P s m l e q t = subst (λ (x : Edge). P (with_levels l (acted x s m).state)) (sym q) t

-- Under a high SCL a wire that stands says nothing.
pub under_high : (w : Bool) → under_high_clock w w ≡ Still
under_high true = refl
under_high false = refl

-- SCL rises from one state to the next.
abbrev pub rise : State → State → Bool
rise s t = not s.levels.scl && t.levels.scl

-- SCL falls from one state to the next.
abbrev pub fall : State → State → Bool
fall s t = s.levels.scl && not t.levels.scl

-- A choice by cases is a choice by `cond`.
pick : (b : Bool) (x y : ℕ) → elim b [ true ↦ x | false ↦ y ] ≡ cond b x y
pick true x y = refl
pick false x y = refl

-- One call more is counted.
pub count_more : (p : ℕ → Bool) (i n : ℕ) (b : Bool) → p (i + n) ≡ b → count_from p i (suc n) ≡ cond b (suc (count_from p i n)) (count_from p i n)
count_more p i n b e = pick (p (i + n)) (suc (count_from p i n)) (count_from p i n) ∙ rw e

-- The two notions of a bus that hears agree.
agree : (p : Supply) (c : ℕ) → elim (past.is_main p) [ true ↦ eqb c 0 | false ↦ false ] ≡ cond (is_main p) (eqb c 0) false
agree Off c = refl
agree Main c = refl
agree Battery c = refl

-- The bus hears in the state exactly where the rules say so.
pub hears_is : (was : Mem) (h : History) (s : State) (m : Mem) → Holds was h s m → wires.hears h ≡ hears s
hears_is was h s m k = agree (wires.supply h) (wires.cycle_left h) ∙ rw (k.supply, k.cycle)

-- The first k + 1 calls are call k and the first k.
pub first_more : (calls : List Call) (k : ℕ) → k < length calls → first (suc k) calls ≡ call_at calls k ∷ first k calls
first_more calls k l =
    ap reverse (rw add-one at (take_more calls k Tick l)) ∙ reverse-append (take k calls) (call_at calls k ∷ [])

-- The state after the first k calls.
abbrev pub state_at : Mem → List Call → ℕ → State
state_at was calls k = (left was (first k calls)).state

-- The memory after the first k calls.
abbrev pub mem_at : Mem → List Call → ℕ → Mem
mem_at was calls k = (left was (first k calls)).mem

-- A call more, on a fit memory.
left_more : (was : Mem) (c : Call) (cs : List Call) → (left was cs).mem.fit ≡ true
    → (left was (c ∷ cs)).state ≡ (taken (accepted c) (left was cs).state (left was cs).mem).state
unfolding left
left_more was c cs e =
    ap
    (λ (b : Bool). (cond b (taken (accepted c) (left was cs).state (left was cs).mem) (refused Unfit (left was cs).state (left was cs).mem)).state)
    e

-- What a call answers on a fit memory.
answered : (b : Bool) (x y : Answer) → b ≡ true → elim b [ true ↦ x | false ↦ y ] ≡ x
answered true x y e = refl
answered false x y e = absurd (false≢true e)

module _ (was : Mem) (fit : was.fit ≡ true) (tracks : (cs : List Call) → Tracks was (history was cs) (left was cs).state (left was cs).mem) (calls : List Call) where
  -- State and memory after the first k calls are what the rules say.
  held : (k : ℕ) → Holds was (history_at was calls k) (state_at was calls k) (mem_at was calls k)
  held k = (tracks (first k calls)).holds

  -- Each call takes the state before it to the state after it.
  pub state_more : (k : ℕ) → k < length calls
      → state_at was calls (suc k) ≡ (taken (accepted (call_at calls k)) (state_at was calls k) (mem_at was calls k)).state
  state_more k l =
      ap (λ cs. (left was cs).state) (first_more calls k l) ∙ left_more was (call_at calls k) (first k calls) (held k).fit

  -- The levels of the rules are the state's.
  pub levels_at : (k : ℕ) → wires.levels (history_at was calls k) ≡ (state_at was calls k).levels
  levels_at k = sym (held k).levels

  -- The bus hears by the rules exactly where it hears in the state.
  pub hears_at : (k : ℕ) → wires.hears (history_at was calls k) ≡ hears (state_at was calls k)
  hears_at k = hears_is was (history_at was calls k) (state_at was calls k) (mem_at was calls k) (held k)

  -- The wire of the rules is the state's.
  pub wire_at : (k : ℕ) → wires.wire_level (history_at was calls k) ≡ wire (state_at was calls k).levels.sda (pulls (state_at was calls k).phase)
  wire_at k = rw ((held k).levels, (held k).pulled)

  -- SCL rises in the states as in the history.
  pub rise_at : (k : ℕ) → rises_at was calls k ≡ rise (state_at was calls k) (state_at was calls (suc k))
  rise_at k = rw (levels_at k, levels_at (suc k))

  -- SCL falls in the states as in the history.
  pub fall_at : (k : ℕ) → falls_at was calls k ≡ fall (state_at was calls k) (state_at was calls (suc k))
  fall_at k = rw (levels_at k, levels_at (suc k))

  -- A row shows the pull after its call.
  pub row_at : (rows : List Answer) → Answers was calls rows → (k : ℕ) → k < length calls
      → (get_or rows k no_answer).sda ≡ not (pulls (state_at was calls (suc k)).phase)
  row_at rows a k l =
      ap (λ (r : Answer). r.sda) (a k l ∙ answered was.fit _ _ fit)
      ∙ ap not (ap (λ cs. wires.pulls (history was cs)) (sym (first_more calls k l)) ∙ sym (held (suc k)).pulled)
