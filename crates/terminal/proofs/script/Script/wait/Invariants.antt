use Rattle.std.proofs.Common.{◌≡◌, ◌++◌}
use Rattle.terminal.specs.Calls.{tick_calls}
use Rattle.terminal.proofs.script.Script.wait.Given as goal

abbrev pub invariant-loop-tick : goal.invariant-loop-tick
invariant-loop-tick l = l.self ≡ l.initial.self ++ tick_calls l._tick
