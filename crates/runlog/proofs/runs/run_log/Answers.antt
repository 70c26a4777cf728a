use Rattle.std.proofs.Common.{sym, ap, ◌∙◌, refl, arith, rules}
use Rattle.runlog.specs.Run.{Logged}
use Rattle.runlog.proofs.Replies.{appends_append, appends_room}
use Rattle.runlog.proofs.Logging.{front_written, log_runs}
use Rattle.runlog.proofs.runs.run_log.Goals as goal

pub work_log-requires-clause-room : goal.work_log-requires-clause-room
work_log-requires-clause-room g c = omega (arith, appends_room _ _ _ c.text.ensures)

pub returns-clause-reply : goal.returns-clause-reply
returns-clause-reply g c =
    let s = c.args.chip.now.state in
    let m = g.M.Memory.holds c.args.memory.now in
    let whole = appends_append _ _ _ _ _ c.text.ensures c.work_log.ensures.written in
    let bytes = front_written _ _ _ refl whole
    ∙ ap (λ (l : Logged). l.reply) (sym (log_runs s m c.args.log.now c.args.reply.now c.if-not-is_fit.ensures.answer c.if-log-gt-MOST_LOG.false c.if-reply-lt-LEAST_REPLY.false)) in
    let same = whole.loan in
    search (rules, same, bytes)
