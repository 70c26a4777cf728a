use Rattle.runlog.proofs.reply.Reply.+number.Given as goal

abbrev pub decreases-number : goal.decreases-number
decreases-number l = l.n
