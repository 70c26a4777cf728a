-- A level call: the module's step follows the rules, whatever the edge.
use Rattle.std.proofs.Common.{◌≡◌, ℕ, Bool, true, false, cond, eqb, ◌∷◌, sym, refl, ap, ◌∙◌, subst}
use Rattle.memory.specs.Model.{Mem}
use Rattle.chip.specs.Wires.{wire, edge_by, edge_between}
use Rattle.chip.specs.declared.calls.Event.TheVariants.{Given}
use Rattle.chip.specs.declared.calls.Supply.{Supply}
use Rattle.chip.specs.declared.calls.Supply.TheVariants.{Off, Main, Battery}
use Rattle.chip.specs.declared.wires.Edge.{Edge}
use Rattle.chip.specs.declared.wires.Edge.TheVariants.{Start, Stop, Rise, Fall, Still}
use Rattle.chip.specs.declared.wires.Levels.{Levels}
use Rattle.rules.specs.Past.{History, is_start, is_stop, is_fall, refusal_of}
use Rattle.rules.specs.Past as past
use Rattle.rules.specs.Wires as wires
use Rattle.rules.specs.History.{entry_with, entry_of, outcome_at}
use Rattle.x1226.specs.declared.state.Phase.{Phase}
use Rattle.x1226.specs.declared.state.Phase.TheVariants.{Deaf, Receiving, Acknowledging, Sending, Listening}
use Rattle.x1226.specs.declared.state.State.{State}
use Rattle.x1226.specs.State.{with_levels, with_phase}
use Rattle.x1226.specs.Frame.{pulls, fallen, fallen_in}
use Rattle.x1226.specs.Stop.{stopped}
use Rattle.x1226.specs.Step.{hears, heard, acted, leveled, is_main}
use Rattle.law.proofs.Edges.{SaidBy, start_says, stop_says, rise_says, fall_says, still_says, is_rise, is_still, level_in, wire_free}
use Rattle.law.proofs.Tracks.{scl, Holds, Follows, Tracks}
use Rattle.law.proofs.Quiet.{unheard_tracks, still_tracks, start_tracks}
use Rattle.law.proofs.Rising.{rise_tracks}
use Rattle.law.proofs.Silence.{deaf_falls}
use Rattle.law.proofs.Taking.{taking_falls}
use Rattle.law.proofs.Acked.{acking_falls}
use Rattle.law.proofs.Sending.{sending_falls, listening_falls}
use Rattle.law.proofs.Falling.{fell}
use Rattle.law.proofs.Back.{chosen, passed_over}

-- A state with the phase it has.
same_phase : (s : State) (p : Phase) → s.phase ≡ p → with_phase p s ≡ s
same_phase s p e = ap (λ (q : Phase). with_phase q s) (sym e)

module _ (was : Mem) (h : History) (s : State) (m : Mem) (l : Levels) where
  -- A fall, in each phase.
  fall_in : (p : Phase) → scl h ≡ true → l.scl ≡ false → s.phase ≡ p → Holds was h s m → Follows was h s p
      → Tracks was (fell was l h ∷ h) (with_levels l (fallen_in p s m)) m
  fall_in Deaf a b e k f = deaf_falls was h s m l a b e k f
  fall_in (Receiving stage bits shift) a b e k f =
      subst (λ (u : State). Tracks was (fell was l h ∷ h) (with_levels l (fallen_in (Receiving stage bits shift) u m)) m)
      (same_phase s (Receiving stage bits shift) e) (taking_falls was h s m l a b stage bits shift f.0 f.1 k)
  fall_in (Acknowledging stage byte) a b e k f = acking_falls was h s m l a b k stage byte f.0 f.1
  fall_in (Sending sent byte) a b e k f = sending_falls was h s m l a b k sent byte f.0 f.1
  fall_in Listening a b e k f = listening_falls was h s m l a b k f.0 f.1

  fall_tracks : scl h ≡ true → l.scl ≡ false → Tracks was h s m → Tracks was (fell was l h ∷ h) (with_levels l (fallen s m)) m
  fall_tracks a b t = fall_in s.phase a b refl t.holds t.follows

  -- The two supplies' tests for main are one.
  main_same : (p : Supply) → is_main p ≡ past.is_main p
  main_same Off = refl
  main_same Main = refl
  main_same Battery = refl

  -- Module and rules hear alike.
  pub hears_same : Holds was h s m → hears s ≡ wires.hears h
  hears_same k =
      ap (λ (b : Bool). cond b (eqb s.cycle 0) false) (main_same s.supply ∙ ap past.is_main k.supply)
      ∙ ap (λ (c : ℕ). cond (wires.on_main h) (eqb c 0) false) k.cycle
      ∙ by_main (wires.on_main h)
    where
      by_main : (b : Bool) → cond b (eqb (wires.cycle_left h) 0) false ≡ elim b as (λ _. Bool) [ true ↦ eqb (wires.cycle_left h) 0 | false ↦ false ]
      by_main true = refl
      by_main false = refl

-- What a level call leaves, where an edge is heard: state, memory and refusal follow the rules.
abbrev pub Leaves : Mem → History → State → Mem → Levels → Edge → Type 0
Leaves was h s m l edge =
    Tracks was (entry_with was (Given l) edge h ∷ h) (with_levels l (acted edge s m).state) (acted edge s m).mem
    × ((acted edge s m).refusal ≡ refusal_of (outcome_at was edge h))

module _ (was : Mem) (h : History) (s : State) (m : Mem) (l : Levels)
    (stops : scl h ≡ true → l.scl ≡ true → wires.hears h ≡ true → wires.pulls h ≡ false → Tracks was h s m
    → Tracks was (entry_with was (Given l) Stop h ∷ h) (with_levels l (stopped s m).state) (stopped s m).mem
    × ((stopped s m).refusal ≡ refusal_of (outcome_at was Stop h))) where
  -- Whichever edge is heard.
  by_edge : (edge : Edge) → wires.hears h ≡ true → edge_between (wires.levels h) (wires.pulls h) l ≡ edge → Tracks was h s m → Leaves was h s m l edge
  by_edge Start hearing e t =
      let q : SaidBy (scl h) l.scl (wire (wires.levels h).sda (wires.pulls h)) (wire l.sda (wires.pulls h)) true true true false =
      start_says (scl h) l.scl (wire (wires.levels h).sda (wires.pulls h)) (wire l.sda (wires.pulls h)) (ap is_start e) in
      (start_tracks was h s m l hearing (wire_free (wires.levels h).sda (wires.pulls h) q.wire_was) t, refl)
  by_edge Stop hearing e t =
      let q : SaidBy (scl h) l.scl (wire (wires.levels h).sda (wires.pulls h)) (wire l.sda (wires.pulls h)) true true false true =
      stop_says (scl h) l.scl (wire (wires.levels h).sda (wires.pulls h)) (wire l.sda (wires.pulls h)) (ap is_stop e) in
      stops q.scl_was q.scl_is hearing (wire_free l.sda (wires.pulls h) q.wire_is) t
  by_edge (Rise v) hearing e t =
      let w : Bool = wire (wires.levels h).sda (wires.pulls h) in
      let x : Bool = wire l.sda (wires.pulls h) in
      let q : SaidBy (scl h) l.scl w x false true w (level_in (edge_by (scl h) l.scl w x)) =
      rise_says (scl h) l.scl w x (ap is_rise e) in
      (rise_tracks was h s m l v q.scl_was q.scl_is t, refl)
  by_edge Fall hearing e t =
      let w : Bool = wire (wires.levels h).sda (wires.pulls h) in
      let x : Bool = wire l.sda (wires.pulls h) in
      let q : SaidBy (scl h) l.scl w x true false w x = fall_says (scl h) l.scl w x (ap is_fall e) in
      (fall_tracks was h s m l q.scl_was q.scl_is t, refl)
  by_edge Still hearing e t =
      let w : Bool = wire (wires.levels h).sda (wires.pulls h) in
      let x : Bool = wire l.sda (wires.pulls h) in
      (still_tracks was h s m l (still_says (scl h) l.scl w x (ap is_still e)) t, refl)

  -- Module and rules hear the same edge.
  edge_same : Holds was h s m → heard s l ≡ wires.edge_heard (Given l) h
  edge_same k =
      ap (λ (b : Bool). cond b (edge_between s.levels (pulls s.phase) l) Still) (hears_same was h s m l k)
      ∙ ap (λ (x : Levels). cond (wires.hears h) (edge_between x (pulls s.phase) l) Still) k.levels
      ∙ ap (λ (p : Bool). cond (wires.hears h) (edge_between (wires.levels h) p l) Still) k.pulled
      ∙ by_hearing (wires.hears h)
    where
      by_hearing : (b : Bool) → cond b (edge_between (wires.levels h) (wires.pulls h) l) Still
          ≡ elim b as (λ _. Edge) [ true ↦ edge_between (wires.levels h) (wires.pulls h) l | false ↦ Still ]
      by_hearing true = refl
      by_hearing false = refl

  by_hearing : (b : Bool) → wires.hears h ≡ b → Tracks was h s m → Leaves was h s m l (wires.edge_heard (Given l) h)
  by_hearing true e t =
      subst (Leaves was h s m l)
      (sym (chosen (wires.hears h) (edge_between (wires.levels h) (wires.pulls h) l) Still e))
      (by_edge (edge_between (wires.levels h) (wires.pulls h) l) e refl t)
  by_hearing false e t =
      subst (Leaves was h s m l)
      (sym (passed_over (wires.hears h) (edge_between (wires.levels h) (wires.pulls h) l) Still e))
      (unheard_tracks was h s m l e t, refl)

  -- A level call.
  pub given_tracks : Tracks was h s m
      → Tracks was (entry_of was (Given l) h ∷ h) (leveled l s m).state (leveled l s m).mem
      × ((leveled l s m).refusal ≡ refusal_of (outcome_at was (wires.edge_heard (Given l) h) h))
  given_tracks t =
      subst (λ (x : Edge).
      Tracks was (entry_of was (Given l) h ∷ h) (with_levels l (acted x s m).state) (acted x s m).mem
      × ((acted x s m).refusal ≡ refusal_of (outcome_at was (wires.edge_heard (Given l) h) h)))
      (sym (edge_same t.holds)) (by_hearing (wires.hears h) refl t)
