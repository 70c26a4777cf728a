-- The law of a run, from what `replay` promises and a fit memory is.
use Rattle.std.proofs.Common.{ℕ, ◌≤◌, min, length, arith}
use Rattle.law.proofs.Whole.{replay_lawful, replay_unmoved}
use Rattle.law.proofs.run.Goals as goal

pub returns : goal.returns
returns g c =
    let n : ℕ = min (length c.args.calls.now) (length c.args.rows.now) in
    let few : n ≤ length c.args.calls.now = omega arith in
    record {
      lawful = λ fit.
          replay_lawful n (g.M.Memory.holds c.args.memory.now) c.args.calls.now c.args.rows.now c.replay.new.rows
          c.replay.result.state (g.M.Memory.holds c.replay.new.memory) few fit
          (g.met.M.Memory.whole c.args.memory.now fit).sized c.replay.ensures;
      replayed = c.replay.ensures;
      unmoved = λ unfit.
          replay_unmoved n (g.M.Memory.holds c.args.memory.now) c.args.calls.now c.args.rows.now c.replay.new.rows
          c.replay.result.state (g.M.Memory.holds c.replay.new.memory) unfit c.replay.ensures;
    }
