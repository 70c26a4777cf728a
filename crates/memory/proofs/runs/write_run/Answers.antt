use Rattle.std.proofs.Common.{◌+◌, length, get_or, ap, ◌∙◌}
use Rattle.memory.specs.Model.{written}
use Rattle.memory.proofs.RunLaws.{store_passed, partial_more}
use Rattle.memory.proofs.runs.write_run.Goals as goal

pub loop-i-preserved : goal.loop-i-preserved
loop-i-preserved g c =
    let m = g.M.Memory.holds c.args.memory.now in
    let place = c.args.place in
    let bytes = c.args.bytes.now in
    let whole = g.met.M.Memory.whole c.args.memory.now (store_passed m place (length bytes) c.requires).0 in
    c.write.ensures.after
    ∙ ap (λ m. written m (place + c.loop-i.i) (get_or bytes c.loop-i.i 0)) c.loop-i.invariant
    ∙ partial_more m place bytes c.loop-i.i whole c.requires c.loop-i-test.true
