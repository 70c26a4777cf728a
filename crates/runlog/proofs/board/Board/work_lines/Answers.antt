use Rattle.std.proofs.Common.{◌≡◌, ◌-◌, ⊎_elim, arith}
use Rattle.runlog.proofs.Going.{going_more, going_stop, going_end}
use Rattle.runlog.proofs.board.Board.work_lines.Goals as goal

pub returns-then-not-work_line : goal.returns-then-not-work_line
returns-then-not-work_line g c =
    let w = c.work_line.ensures in
    let steps = c.in-Some.ensures.steps in
    let gone = going_stop g.M.Memory.holds c.args.self.now c.loop-number.self c.work_line.new.self c.args.reply.now c.loop-number.reply c.work_line.new.reply
    c.args.values.rest.now _ _ _ _ _ _ steps.0.0 steps.0.1 c.loop-number.invariant steps.1 w.left w.written w.short w.back c.if-not-work_line.ensures.goes_on in
    record { left = gone.left; written = gone.written; back = gone.back }

pub loop-number-preserved : goal.loop-number-preserved
loop-number-preserved g c =
    let w = c.work_line.ensures in
    let steps = c.in-Some.ensures.steps in
    going_more g.M.Memory.holds c.args.self.now c.loop-number.self c.work_line.new.self c.args.reply.now c.loop-number.reply c.work_line.new.reply
    c.args.values.rest.now _ _ _ _ _ _ steps.0.0 steps.0.1 c.loop-number.invariant steps.1 w.left w.written w.short w.back c.if-not-work_line.ensures.goes_on

pub returns : goal.returns
returns g c =
    let k = c.loop-number.invariant in
    let gone = going_end g.M.Memory.holds c.args.self.now c.loop-number.self c.args.reply.now c.loop-number.reply c.args.values.rest.now _ _ k
    (⊎_elim (λ h. let top : 65535 - c.loop-number.number-iterator.a.start ≡ 0 = h.1.0 in absurd (omega (arith, k.count, top))) (λ h. h.1.0) c.in-None.ensures.steps) in
    record { left = gone.left; written = gone.written; back = gone.back }
