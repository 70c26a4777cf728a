use Rattle.std.proofs.Common.{◌≡◌, ◌+◌, ◌≤◌, drop}
use Rattle.memory.specs.Runs.{after, made}
use Rattle.memory.proofs.runs.write_each.Given as goal

abbrev pub invariant-loop-write : goal.invariant-loop-write
invariant-loop-write g l =
    let holds = g.M.Memory.holds in
    let rest = drop l.write-index l.writes in
    record {
      few : l.count ≤ l.write-index;
      counts : l.count + made (holds l.memory) rest ≡ made (holds l.initial.memory) l.writes;
      leads : after (holds l.memory) rest ≡ after (holds l.initial.memory) l.writes;
      spent : l.count + (holds l.memory).life ≡ (holds l.initial.memory).life;
    }
