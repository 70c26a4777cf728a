use Rattle.std.proofs.Common.{◌≡◌, ◌-◌, ◌++◌}
use Rattle.terminal.specs.Calls.{all_received}
use Rattle.terminal.proofs.script.Script.receive_all.Given as goal

abbrev pub invariant-loop-k : goal.invariant-loop-k
invariant-loop-k l = l.self ++ all_received (l.count - l._k) ≡ l.initial.self ++ all_received (l.count - 1)
