-- Off main supply nothing is heard, so no stop does anything: what follows for the latches and the write cycle.
use Rattle.std.proofs.Common.{◌≡◌, ◌-◌, Bool, true, false, eqb, List, [], ◌∷◌, None, Ok, Err, Result, sym, refl, ap, ◌∙◌}
use Rattle.std.proofs.lemmas.Bool.{true≢false}
use Rattle.memory.specs.Model.{Mem}
use Rattle.chip.specs.Calls.{accepted}
use Rattle.chip.specs.Sizes.{write_cycle}
use Rattle.chip.specs.Wires.{edge_between}
use Rattle.chip.specs.declared.calls.Call.{Call}
use Rattle.chip.specs.declared.calls.Event.{Event}
use Rattle.chip.specs.declared.calls.Event.TheVariants.{Given, Ticked, Supplied}
use Rattle.chip.specs.declared.calls.Supply.TheVariants.{Off, Main, Battery}
use Rattle.chip.specs.declared.refusals.Refusal.{Refusal}
use Rattle.chip.specs.declared.wires.Edge.TheVariants.{Still}
use Rattle.chip.specs.declared.wires.Levels.{Levels}
use Rattle.rules.specs.Past.{History, Moment, Outcome, Idle, Refused, Stored, Waits, Status, latest, since, any_of, count_of, is_tick, is_stop}
use Rattle.rules.specs.Wires as wires
use Rattle.rules.specs.Latches.{sets_wel, sets_rwel, wel}
use Rattle.rules.specs.Stop.{closes, outcome_of}
use Rattle.rules.specs.History.{entry_of, outcome_at, extended, history}
use Rattle.rules.proofs.Ticks.{chosen, passed_over}

-- A stop did something.
abbrev pub acts : Outcome → Bool
acts Idle = false
acts (Refused r) = true
acts (Stored w) = true
acts (Waits c) = true
acts (Status b) = true

-- A stop of these moments did something.
abbrev pub any_acts : List Moment → Bool
any_acts ms = any_of (λ m. acts m.entry.outcome) ms

-- Off main supply no stop did anything since main supply ended.
abbrev pub Quiet : History → Type 0
Quiet h = wires.on_main h ≡ false → any_acts (wires.since_main h) ≡ false

-- What does nothing is idle.
idle : (o : Outcome) → acts o ≡ false → o ≡ Idle
idle Idle e = refl
idle (Refused r) e = absurd (true≢false e)
idle (Stored w) e = absurd (true≢false e)
idle (Waits c) e = absurd (true≢false e)
idle (Status b) e = absurd (true≢false e)

-- Where no stop did anything, the newest did nothing.
newest_idle : (m : Moment) (ms : List Moment) → any_acts (m ∷ ms) ≡ false → m.entry.outcome ≡ Idle
newest_idle m ms e = go (acts m.entry.outcome) refl
  where
    go : (b : Bool) → acts m.entry.outcome ≡ b → m.entry.outcome ≡ Idle
    go true f = absurd (true≢false (sym (chosen (acts m.entry.outcome) true (any_acts ms) f) ∙ e))
    go false f = idle m.entry.outcome f

-- Nor did those before it.
others_idle : (m : Moment) (ms : List Moment) → any_acts (m ∷ ms) ≡ false → any_acts ms ≡ false
others_idle m ms e =
    sym (passed_over (acts m.entry.outcome) true (any_acts ms) (ap acts (newest_idle m ms e))) ∙ e

-- So none was a lawful write.
none_lawful : (ms : List Moment) → any_acts ms ≡ false → any_of wires.is_lawful ms ≡ false
none_lawful [] e = refl
none_lawful (m ∷ ms) e = rw (newest_idle m ms e, none_lawful ms (others_idle m ms e))

-- None touched WEL.
pub none_sets_wel : (ms : List Moment) → any_acts ms ≡ false → latest (λ m. sets_wel m.entry.outcome) ms ≡ None
none_sets_wel [] e = refl
none_sets_wel (m ∷ ms) e = rw (newest_idle m ms e, none_sets_wel ms (others_idle m ms e))

-- None touched RWEL.
pub none_sets_rwel : (ms : List Moment) → any_acts ms ≡ false → latest (λ m. sets_rwel m.entry.outcome (wel m.before)) ms ≡ None
none_sets_rwel [] e = refl
none_sets_rwel (m ∷ ms) e = rw (newest_idle m ms e, none_sets_rwel ms (others_idle m ms e))

-- Off main supply no write cycle is open.
pub cycle_none : (h : History) → Quiet h → wires.on_main h ≡ false → wires.cycle_left h ≡ 0
cycle_none h q e =
    passed_over (any_of wires.is_lawful (wires.since_main h))
    (write_cycle - count_of (λ m. is_tick m.entry.event) (since wires.is_lawful (wires.since_main h)))
    0
    (none_lawful (wires.since_main h) (q e))

-- Off main supply levels are not heard, and so are no stop.
given_idle : (was : Mem) (l : Levels) (h : History) → wires.on_main h ≡ false → outcome_at was (wires.edge_heard (Given l) h) h ≡ Idle
given_idle was l h e =
    let a : wires.hears h ≡ false = passed_over (wires.on_main h) (eqb (wires.cycle_left h) 0) false e in
    let b : wires.edge_heard (Given l) h ≡ Still =
    passed_over (wires.hears h) (edge_between (wires.levels h) (wires.pulls h) l) Still a in
    passed_over (is_stop (wires.edge_heard (Given l) h)) (outcome_of was h (closes h)) Idle (ap is_stop b)

-- An event keeps off main supply what is said there.
pub quiet_on : (was : Mem) (e : Event) (h : History) → Quiet h → Quiet (entry_of was e h ∷ h)
quiet_on was (Given l) h q e =
    passed_over (acts (outcome_at was (wires.edge_heard (Given l) h) h)) true (any_acts (wires.since_main h)) (ap acts (given_idle was l h e)) ∙ q e
quiet_on was Ticked h q e = q e
quiet_on was (Supplied Off) h q e = refl
quiet_on was (Supplied Main) h q e = absurd (true≢false e)
quiet_on was (Supplied Battery) h q e = refl

-- A call keeps it too: a refused one leaves no entry.
quiet_call : (was : Mem) (r : Result Event Refusal) (h : History) → Quiet h → Quiet (extended was r h)
quiet_call was (Ok e) h q = quiet_on was e h q
quiet_call was (Err r) h q = q

-- It holds of every list of calls.
pub quiet : (was : Mem) (cs : List Call) → Quiet (history was cs)
quiet was [] = λ e. refl
quiet was (c ∷ cs) = quiet_call was (accepted c) (history was cs) (quiet was cs)
