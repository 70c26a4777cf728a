use Rattle.std.proofs.Common.{}
use Rattle.terminal.proofs.Appending.{ticks_none, ticks_more}
use Rattle.terminal.proofs.script.Script.wait.Goals as goal

pub loop-tick-init : goal.loop-tick-init
loop-tick-init c = ticks_none c.args.self.now

pub loop-tick-preserved : goal.loop-tick-preserved
loop-tick-preserved c =
    ticks_more c.args.self.now c.loop-tick.self c.add.new.self
    c.loop-tick._tick c.loop-tick.invariant c.in_ok-add.ensures
