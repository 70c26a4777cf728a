use Rattle.std.proofs.Common.{sym, ap, ◌∙◌, subst}
use Rattle.runlog.specs.Texts.{lines}
use Rattle.runlog.specs.Lines.{Values}
use Rattle.runlog.proofs.Naming.{names_first}
use Rattle.runlog.proofs.board.values.Goals as goal

pub returns : goal.returns
returns c =
    subst (Values c.args.log.now) (sym c.then_some.ensures)
    (names_first c.args.log.now _ c.next.new.self c.eq.result (ap lines (sym c.of-lines.ensures) ∙ c.in_ok-next.ensures.steps) c.eq.ensures)
