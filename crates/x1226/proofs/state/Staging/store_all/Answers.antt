use Rattle.std.proofs.Common.{rules, ap}
use Rattle.x1226.specs.Memories.{holding}
use Rattle.x1226.proofs.Staged.{stored_none, stored_more}
use Rattle.x1226.proofs.state.Staging.store_all.Goals as goal

pub loop-k-init : goal.loop-k-init
loop-k-init g c = ap (λ m. holding m c.args.fit.now) (stored_none _ _ _ _)

pub loop-k-preserved : goal.loop-k-preserved
loop-k-preserved g c = search (rules, stored_more)
