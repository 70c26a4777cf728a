use Rattle.std.proofs.Common.{◌-◌, ◌++◌}
use Rattle.terminal.specs.Calls.{all_received}
use Rattle.terminal.proofs.Appending.{receiving_more, receiving_all}
use Rattle.terminal.proofs.script.Script.receive_all.Goals as goal

pub loop-k-preserved : goal.loop-k-preserved
loop-k-preserved c =
    receiving_more c.loop-k.self c.receive.new.self
    (c.args.self.now ++ all_received (c.args.count - 1)) c.args.count c.loop-k._k
    c.loop-k-test.true c.in_ok-receive.ensures c.loop-k.invariant

pub returns : goal.returns
returns c =
    receiving_all c.loop-k.self c.receive-2.new.self
    (c.args.self.now ++ all_received (c.args.count - 1)) c.args.count c.loop-k._k
    c.loop-k-test.false c.loop-k.invariant c.in_ok-receive-2.ensures
