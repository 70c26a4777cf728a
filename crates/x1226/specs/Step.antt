-- What each call does: its answer, and what it leaves of module and memory.
use Rattle.std.specs.Prelude.{Bool, true, false, cond, not, List, [], ◌∷◌, Ok, Err, Option, Result, ◌==◌}
use Rattle.memory.specs.Model.{Mem}
use Rattle.chip.specs.Calls.{accepted}
use Rattle.chip.specs.Wires.{edge_between}
use Rattle.chip.specs.declared.calls.Answer.{Answer}
use Rattle.chip.specs.declared.calls.Call.{Call}
use Rattle.chip.specs.declared.calls.Event.{Event}
use Rattle.chip.specs.declared.calls.Event.TheVariants.{Given, Ticked, Supplied}
use Rattle.chip.specs.declared.calls.Supply.{Supply}
use Rattle.chip.specs.declared.calls.Supply.TheVariants.{Off, Main, Battery}
use Rattle.chip.specs.declared.refusals.Refusal.{Refusal}
use Rattle.chip.specs.declared.refusals.Refusal.TheVariants.{Unfit}
use Rattle.chip.specs.declared.wires.Edge.{Edge}
use Rattle.chip.specs.declared.wires.Edge.TheVariants.{Start, Stop, Rise, Fall, Still}
use Rattle.chip.specs.declared.wires.Levels.{Levels}
use Rattle.x1226.specs.declared.state.Phase.TheVariants.{Deaf}
use Rattle.x1226.specs.declared.state.State.{State}
use Rattle.x1226.specs.State.{with_levels, with_supply, with_phase, with_counter, with_staging, with_latches, with_cycle, unsupplied, nothing_staged, latches_off, made}
use Rattle.x1226.specs.Frame.{pulls, started, risen, fallen}
use Rattle.x1226.specs.Stop.{Left, passed, refused, stopped}
use Rattle.x1226.specs.Timer.{ticked}

abbrev pub is_main : Supply → Bool
is_main Off = false
is_main Main = true
is_main Battery = false

-- The bus hears on main supply, outside a write cycle.
abbrev pub hears : State → Bool
hears s = cond (is_main s.supply) (s.cycle == 0) false

-- What is heard of new levels.
abbrev pub heard : State → Levels → Edge
heard s l = cond (hears s) (edge_between s.levels (pulls s.phase) l) Still

-- What the module does depends on its phase and on the edge.
abbrev pub acted : Edge → State → Mem → Left
acted Start s m = passed (started s) m
acted Stop s m = stopped s m
acted (Rise level) s m = passed (risen level s) m
acted Fall s m = passed (fallen s m) m
acted Still s m = passed s m

-- The levels are remembered, whatever came of them.
abbrev pub remembered : Levels → Left → Left
remembered l left = record { state = with_levels l left.state; mem = left.mem; refusal = left.refusal }

abbrev pub leveled : Levels → State → Mem → Left
leveled l s m = remembered l (acted (heard s l) s m)

-- Off main supply: latches off, frame and write cycle dropped, counter 0.
abbrev pub off_main : State → State
off_main s = with_phase Deaf (with_counter 0 (with_staging nothing_staged (with_latches latches_off (with_cycle 0 s))))

abbrev pub switched : Supply → State → State
switched Off s = unsupplied s.levels
switched Main s = with_supply Main s
switched Battery s = with_supply Battery (off_main s)

abbrev pub done : Event → State → Mem → Left
done (Given l) s m = leveled l s m
done Ticked s m = passed (ticked s m) m
done (Supplied p) s m = passed (switched p s) m

abbrev pub taken : Result Event Refusal → State → Mem → Left
taken (Ok e) s m = done e s m
taken (Err r) s m = refused r s m

-- A call: an unfit memory is refused first, then numbers out of range; a refusal of these leaves all as before.
abbrev pub worked : Call → State → Mem → Left
worked c s m = cond m.fit (taken (accepted c) s m) (refused Unfit s m)

-- What a board is told as the module stands.
abbrev pub told_with : State → Option Refusal → Answer
told_with s refusal = record { sda = not (pulls s.phase); refusal = refusal }

-- What a board is told after a call.
abbrev pub told : Left → Answer
told l = record { sda = not (pulls l.state.phase); refusal = l.refusal }

-- Module and memory after calls one after the other, the newest first, from a module just made.
unfoldable pub left : Mem → List Call → Left
left m [] = passed made m
left m (c ∷ cs) = worked c (left m cs).state (left m cs).mem
