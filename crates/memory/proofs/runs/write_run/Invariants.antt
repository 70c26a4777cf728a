use Rattle.std.proofs.Common.{◌≡◌}
use Rattle.memory.proofs.RunLaws.{partial}
use Rattle.memory.proofs.runs.write_run.Given as goal

abbrev pub invariant-loop-i : goal.invariant-loop-i
invariant-loop-i g l = let holds = g.M.Memory.holds in holds l.memory ≡ partial (holds l.initial.memory) l.place l.bytes l.i
