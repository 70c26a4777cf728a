use Rattle.std.proofs.Common.{rules, sym, ap, ◌∙◌}
use Rattle.x1226.specs.Memories.{Lent}
use Rattle.x1226.proofs.board.Module.take.Goals as goal

pub returns-clause-mem : goal.returns-clause-mem
returns-clause-mem g c =
    let left = c.fit.view_is ∙ c.work-answer.ensures.mem in
    let loan = sym (ap (λ (l : Lent). l.loan) left) in
    let mem = ap (λ (l : Lent). l.mem) left in
    search (rules, loan, mem)
