use Rattle.std.proofs.Common.{◌≡◌, subst, arith, refl}
use Rattle.runlog.proofs.Working.{Made, made_none, made_more}
use Rattle.runlog.proofs.board.Board.work.Goals as goal

pub loop-init : goal.loop-init
loop-init g c = made_none g.M.Memory.holds c.args.self.now c.args.line.call c.told-answer.result c.told-answer.ensures

pub loop-preserved : goal.loop-preserved
loop-preserved g c =
    let holds = g.M.Memory.holds in
    let w = c.work-answer.ensures in
    made_more holds c.args.self.now c.loop.self _ c.args.line.call c.loop.counter c.loop.answer c.work-answer.result c.loop.invariant
    (record { state = w.state; mem = w.mem; chip = refl; memory = refl }) w.answer

pub returns : goal.returns
returns g c =
    let all : c.loop.counter ≡ c.args.line.times = omega arith in
    let k : Made g.M.Memory.holds c.args.self.now c.loop.self c.args.line.call c.args.line.times c.loop.answer =
    subst (λ n. Made g.M.Memory.holds c.args.self.now c.loop.self c.args.line.call n c.loop.answer) all c.loop.invariant in
    record { left = k.left; answer = k.told_is }
