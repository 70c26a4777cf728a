-- The history of a list of calls: the one recursion that ties the rules together.
use Rattle.std.specs.Prelude.{Bool, true, false, not, List, [], ◌∷◌, Some, None, Ok, Err, Option, Result}
use Rattle.memory.specs.Model.{Mem}
use Rattle.chip.specs.Calls.{accepted}
use Rattle.chip.specs.declared.calls.Answer.{Answer}
use Rattle.chip.specs.declared.calls.Call.{Call}
use Rattle.chip.specs.declared.calls.Event.{Event}
use Rattle.chip.specs.declared.calls.Event.TheVariants.{Given, Ticked, Supplied}
use Rattle.chip.specs.declared.refusals.Refusal.{Refusal}
use Rattle.chip.specs.declared.refusals.Refusal.TheVariants.{Unfit}
use Rattle.chip.specs.declared.wires.Edge.{Edge}
use Rattle.rules.specs.Past.{History, Entry, Outcome, Idle, is_main, is_stop, is_fall, refusal_of}
use Rattle.rules.specs.Wires.{pulls, edge_heard}
use Rattle.rules.specs.Reads.{pull_at_fall}
use Rattle.rules.specs.Stop.{closes, outcome_of}

-- The pull changes only at a fall that is heard, or ends where main supply goes.
abbrev pub pulls_after : Mem → Event → Edge → History → Bool
pulls_after was (Given l) edge h = elim (is_fall edge) [ true ↦ pull_at_fall was h | false ↦ pulls h ]
pulls_after was Ticked edge h = pulls h
pulls_after was (Supplied s) edge h = elim (is_main s) [ true ↦ pulls h | false ↦ false ]

-- What an edge does as a stop.
abbrev pub outcome_at : Mem → Edge → History → Outcome
outcome_at was edge h = elim (is_stop edge) [ true ↦ outcome_of was h (closes h) | false ↦ Idle ]

-- The entry of an event at which an edge is heard.
abbrev pub entry_with : Mem → Event → Edge → History → Entry
entry_with was e edge h =
    record { event = e; edge = edge; pulls = pulls_after was e edge h; outcome = outcome_at was edge h }

-- The entry that an event makes after a history.
abbrev pub entry_of : Mem → Event → History → Entry
entry_of was e h = entry_with was e (edge_heard e h) h

abbrev pub extended : Mem → Result Event Refusal → History → History
extended was (Ok e) h = entry_of was e h ∷ h
extended was (Err r) h = h

-- The history of a list of calls, the newest first: refused calls leave no entry.
abbrev pub history : Mem → List Call → History
history was [] = []
history was (c ∷ cs) = extended was (accepted c) (history was cs)

-- The entry of the newest call, where it was taken.
abbrev pub newest_outcome : Result Event Refusal → History → Option Refusal
newest_outcome (Err r) h = Some r
newest_outcome (Ok e) [] = None
newest_outcome (Ok e) (n ∷ h) = refusal_of n.outcome

-- What a call answers: the level that the module leaves on SDA, and the refusal of its numbers or out of its stop.
-- An unfit memory is refused first, and then nothing else happens.
abbrev pub answer : Mem → Call → List Call → Answer
answer was c cs =
    elim was.fit [
      | true ↦
          record {
            sda = not (pulls (history was (c ∷ cs)));
            refusal = newest_outcome (accepted c) (history was (c ∷ cs));
          }
      | false ↦ record { sda = true; refusal = Some Unfit }
    ]
