use Rattle.std.proofs.Common.{◌++◌}
use Rattle.terminal.specs.Calls.{all_sent}
use Rattle.terminal.proofs.Appending.{sending_more, sending_all}
use Rattle.terminal.proofs.script.Script.send_all.Goals as goal

pub loop-byte-preserved : goal.loop-byte-preserved
loop-byte-preserved c =
    sending_more c.loop-byte.self c.send.new.self
    (c.args.self.now ++ all_sent c.args.bytes.now) c.args.bytes.now c.loop-byte.byte-index
    c.loop-byte-test.true c.in_ok-send.ensures c.loop-byte.invariant

pub returns : goal.returns
returns c =
    sending_all c.loop-byte.self
    (c.args.self.now ++ all_sent c.args.bytes.now) c.args.bytes.now c.loop-byte.byte-index
    c.loop-byte-test.false c.loop-byte.invariant
