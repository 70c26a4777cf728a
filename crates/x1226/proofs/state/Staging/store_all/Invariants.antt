use Rattle.std.proofs.Common.{◌≡◌}
use Rattle.x1226.specs.Memories.{holding}
use Rattle.x1226.specs.Stop.{stored_held}
use Rattle.x1226.proofs.state.Staging.store_all.Given as goal

abbrev pub invariant-loop-k : goal.invariant-loop-k
invariant-loop-k g l =
    l.fit ≡ holding (stored_held l.area l.self.address l.self.held l.k l.initial.fit.mem) l.initial.fit
