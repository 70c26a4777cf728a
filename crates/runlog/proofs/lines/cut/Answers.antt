use Rattle.std.proofs.Common.{◌≡◌, false, eqb, sym, subst, rules, arith, tests}
use Rattle.std.proofs.lemmas.Iterator.{IsFirst-from_position, YieldsList-from_slice}
use Rattle.std.proofs.lemmas.Option.{MatchOption-at_none, MatchOption-at_some}
use Rattle.runlog.specs.Texts.{Cut}
use Rattle.runlog.proofs.Texts.{lacks_all, lacks_within, cut_at}
use Rattle.runlog.proofs.lines.cut.Goals as goal

pub returns-in_err-i : goal.returns-in_err-i
returns-in_err-i c =
    let none = MatchOption-at_none _ _ c.in_err-i.was
    (IsFirst-from_position _ _ c.position.result (λ y. y ≡ c.args.at) (λ y. eqb y c.args.at ≡ false) c.position.ensures.ran
    (YieldsList-from_slice c.args.text.now cc) (λ x q k. search (rules, tests)) (λ x q k. search (rules, tests))) in
    subst (Cut c.args.at c.args.text.now) (sym c.from_residual.ensures) (lacks_all c.args.at c.args.text.now none)

pub returns : goal.returns
returns c =
    let first = MatchOption-at_some _ _ c.in_ok-i.i c.in_ok-i.was
    (IsFirst-from_position _ _ c.position.result (λ y. y ≡ c.args.at) (λ y. eqb y c.args.at ≡ false) c.position.ensures.ran
    (YieldsList-from_slice c.args.text.now cc) (λ x q k. search (rules, tests)) (λ x q k. search (rules, tests))) in
    (cut_at c.args.at c.args.text.now c.in_ok-i.i first.0 (first.1 0), lacks_within c.args.at c.args.text.now c.in_ok-i.i (omega arith) first.2)
