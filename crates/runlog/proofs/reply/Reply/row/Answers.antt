use Rattle.std.proofs.Common.{rules}
use Rattle.runlog.proofs.Back.{reads_back}
use Rattle.runlog.proofs.Replies.{appends_append, field_same}
use Rattle.runlog.proofs.reply.Reply.row.Goals as goal

pub returns-clause-written : goal.returns-clause-written
returns-clause-written c =
    appends_append _ _ _ _ _ c.field.ensures.written
    (appends_append _ _ _ _ _ (field_same _ _ _ _ _ c.from.ensures c.field-2.ensures.written)
    (appends_append _ _ _ _ _ (field_same _ _ _ _ _ c.from-2.ensures c.field-3.ensures.written)
    (appends_append _ _ _ _ _ (field_same _ _ _ _ _ c.from-3.ensures c.field-4.ensures.written) c.field-5.ensures.written)))

pub returns-clause-back : goal.returns-clause-back
returns-clause-back c =
    reads_back c.args.row (search rules) (search rules) (search rules) (search rules) (search rules)
