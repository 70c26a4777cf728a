-- Every list of calls: module and memory are what the rules say of its history.
use Rattle.std.proofs.Common.{◌≡◌, Bool, true, false, not, List, [], ◌∷◌, length, Some, Ok, Err, Result, sym, refl, ap, ◌∙◌, subst}
use Rattle.std.proofs.lemmas.Bool.{cond-true}
use Rattle.memory.specs.Model.{Mem}
use Rattle.memory.specs.Sizes.{places}
use Rattle.chip.specs.Calls.{accepted}
use Rattle.chip.specs.declared.calls.Answer.{Answer}
use Rattle.chip.specs.declared.calls.Call.{Call}
use Rattle.chip.specs.declared.calls.Event.{Event}
use Rattle.chip.specs.declared.calls.Event.TheVariants.{Given, Ticked, Supplied}
use Rattle.chip.specs.declared.refusals.Refusal.{Refusal}
use Rattle.chip.specs.declared.refusals.Refusal.TheVariants.{Unfit}
use Rattle.rules.specs.Past.{History, refusal_of}
use Rattle.rules.specs.Wires as wires
use Rattle.rules.specs.History.{entry_of, outcome_at, extended, history, newest_outcome, answer}
use Rattle.x1226.specs.declared.state.State.{State}
use Rattle.x1226.specs.Stop.{Left, refused}
use Rattle.x1226.specs.Step.{done, taken, worked, told, left}
use Rattle.law.proofs.Tracks.{Tracks}
use Rattle.law.proofs.OffMain.{Quiet, quiet}
use Rattle.law.proofs.Given.{given_tracks}
use Rattle.law.proofs.Stopping.{stop_tracks}
use Rattle.law.proofs.Ticking.{tick_tracks}
use Rattle.law.proofs.Switching.{switch_tracks, made_tracks}

-- An event: state and memory go on as the rules say, and the refusal out of a stop is theirs.
pub event_tracks : (was : Mem) (h : History) (s : State) (m : Mem) (e : Event) → Quiet h → Tracks was h s m
    → Tracks was (entry_of was e h ∷ h) (done e s m).state (done e s m).mem
    × ((done e s m).refusal ≡ refusal_of (outcome_at was (wires.edge_heard e h) h))
event_tracks was h s m (Given l) q t = given_tracks was h s m l (stop_tracks was h s m l) t
event_tracks was h s m Ticked q t = (tick_tracks was h s m q t, refl)
event_tracks was h s m (Supplied p) q t = (switch_tracks was h s m p q t, refl)

-- A call, taken or not.
taken_tracks : (was : Mem) (h : History) (s : State) (m : Mem) (r : Result Event Refusal) → Quiet h → Tracks was h s m
    → Tracks was (extended was r h) (taken r s m).state (taken r s m).mem × ((taken r s m).refusal ≡ newest_outcome r (extended was r h))
taken_tracks was h s m (Ok e) q t = event_tracks was h s m e q t
taken_tracks was h s m (Err r) q t = (t, refl)

module _ (was : Mem) (fit : was.fit ≡ true) (sized : length was.bytes ≡ places) where
  -- A call on a module and a memory that are what the rules say.
  call_tracks : (c : Call) (cs : List Call) (s : State) (m : Mem) → Tracks was (history was cs) s m
      → Tracks was (history was (c ∷ cs)) (worked c s m).state (worked c s m).mem
      × ((worked c s m).refusal ≡ newest_outcome (accepted c) (history was (c ∷ cs)))
  call_tracks c cs s m t =
      subst (λ (l : Left). Tracks was (history was (c ∷ cs)) l.state l.mem × (l.refusal ≡ newest_outcome (accepted c) (history was (c ∷ cs))))
      (sym (cond-true m.fit (taken (accepted c) s m) (refused Unfit s m) t.holds.fit))
      (taken_tracks was (history was cs) s m (accepted c) (quiet was cs) t)

  -- Module and memory after any list of calls.
  pub left_tracks : (cs : List Call) → Tracks was (history was cs) (left was cs).state (left was cs).mem
  unfolding left
  left_tracks [] = made_tracks was fit sized
  left_tracks (c ∷ cs) = (call_tracks c cs (left was cs).state (left was cs).mem (left_tracks cs)).0

  -- What a board is told after a call is what the rules answer.
  pub told_answers : (c : Call) (cs : List Call) → told (worked c (left was cs).state (left was cs).mem) ≡ answer was c cs
  told_answers c cs =
      let s : State = (left was cs).state in
      let m : Mem = (left was cs).mem in
      let n : Tracks was (history was (c ∷ cs)) (worked c s m).state (worked c s m).mem
      × ((worked c s m).refusal ≡ newest_outcome (accepted c) (history was (c ∷ cs)))
      = call_tracks c cs s m (left_tracks cs) in
      (λ i. record { sda = not (n.0.holds.pulled i); refusal = n.1 i })
      ∙ sym (ap (λ (b : Bool). elim b as (λ _. Answer) [
        | true ↦ record { sda = not (wires.pulls (history was (c ∷ cs))); refusal = newest_outcome (accepted c) (history was (c ∷ cs)) }
        | false ↦ record { sda = true; refusal = Some Unfit }
      ]) fit)
