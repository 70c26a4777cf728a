use Rattle.std.proofs.Common.{decimal, arith}
use Rattle.runlog.proofs.Replies.{appends_room, digits_short}
use Rattle.runlog.proofs.reply.Reply.field.Goals as goal

pub number-requires : goal.number-requires
number-requires c = omega (arith, c.requires, digits_short c.args.number (omega arith))

pub text-requires : goal.text-requires
text-requires c =
    let room = appends_room c.args.self.now c.number.new.self (decimal c.args.number) c.number.ensures in
    omega (arith, c.requires, room, c.number.ensures.used, digits_short c.args.number (omega arith))

pub returns-clause-short : goal.returns-clause-short
returns-clause-short c = omega (arith, c.number.ensures.used, c.text.ensures.used, digits_short c.args.number (omega arith))
