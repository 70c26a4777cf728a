-- What calls leave of module and memory, from any state on.
use Rattle.std.specs.Prelude.{List, [], ◌∷◌}
use Rattle.memory.specs.Model.{Mem}
use Rattle.chip.specs.declared.calls.Call.{Call}
use Rattle.x1226.specs.declared.state.State.{State}
use Rattle.x1226.specs.Stop.{Left, passed}
use Rattle.x1226.specs.Step.{worked}

-- Module and memory after calls one after the other, the newest first, with the refusal of the newest.
unfoldable pub left_from : State → Mem → List Call → Left
left_from s m [] = passed s m
left_from s m (c ∷ cs) = worked c (left_from s m cs).state (left_from s m cs).mem
