use Rattle.std.proofs.Common.{sym, refl, ap, ◌∙◌, arith}
use Rattle.x1226.specs.Step.{told, worked}
use Rattle.x1226.proofs.Replaying.{replayed_none, replayed_more, next_of}
use Rattle.x1226.proofs.replays.replay.Goals as goal

pub loop-row-init : goal.loop-row-init
loop-row-init g c = (
  replayed_none (g.M.Memory.holds c.args.memory.now) c.args.calls.now c.args.rows.now c.make-module.result.state c.make-module.ensures,
  (refl, omega arith),
)

pub loop-row-preserved : goal.loop-row-preserved
loop-row-preserved g c =
    let holds = g.M.Memory.holds in
    let calls = c.args.calls.now in
    let k = c.loop-row.row-index in
    let s = c.loop-row.module.state in
    let m = holds c.loop-row.memory in
    let next = next_of calls k c.in-Some.call.now c.in-Some.later.now (sym c.loop-row.invariant.1.0 ∙ c.in-Some.ensures.cases.0) in
    let same = ap (λ call. worked call s m) next.call_is in (
      replayed_more k (holds c.args.memory.now) calls c.args.rows.now c.loop-row.rows
          s c.work.new.self.state m (holds c.work.new.memory) c.work.result
          next.below (omega arith)
          (c.work.ensures.state ∙ ap (λ l. l.state) same) (c.work.ensures.mem ∙ ap (λ l. l.mem) same) (c.work.ensures.answer ∙ ap told same)
          c.loop-row.invariant.0,
      (next.later_is, omega (arith, next.below)),
    )
