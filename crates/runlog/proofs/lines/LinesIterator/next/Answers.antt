use Rattle.std.proofs.Common.{◌∷◌, refl, sym, ap, ◌∙◌, arith}
use Rattle.std.proofs.lemmas.Bool.{eqb-true, eqb-false}
use Rattle.std.proofs.lemmas.Grind.{common_steps}
use Rattle.runlog.specs.Texts.{lines}
use Rattle.runlog.proofs.Texts.{no_line, first_line}
use Rattle.runlog.proofs.lines.LinesIterator.next.Goals as goal

pub returns-then-is_empty-clause-steps : goal.returns-then-is_empty-clause-steps
returns-then-is_empty-clause-steps c =
    let e = no_line c.args.self.now.rest.now (sym (eqb-true _ 0 (sym c.if-is_empty.ensures))) in
    (e, e)

pub returns-clause-steps : goal.returns-clause-steps
returns-clause-steps c =
    let some = eqb-false _ 0 (sym c.if-is_empty.ensures) in
    first_line c.args.self.now.rest _ c.cut.result (omega (arith, some)) refl c.cut.ensures ∙ ap (λ p. p.0.now ∷ lines p.1.now) (sym c.unwrap_or.ensures)

pub returns-clause-goes : goal.returns-clause-goes
returns-clause-goes c =
    let steps = returns-clause-steps c in
    grind (arith, common_steps)
