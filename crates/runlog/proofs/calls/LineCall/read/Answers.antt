use Rattle.std.proofs.Common.{sym, ◌∙◌}
use Rattle.runlog.specs.Numbers.{number}
use Rattle.runlog.specs.Calls.{call_of}
use Rattle.runlog.proofs.Texts.{no_words, one_word, three_words}
use Rattle.runlog.proofs.calls.LineCall.read.Goals as goal

pub returns-in_err-name : goal.returns-in_err-name
returns-in_err-name c = c.from_residual.ensures ∙ sym (no_words c.args.line.now c.in_err-name.ensures)

pub returns-in_err-one : goal.returns-in_err-one
returns-in_err-one c = c.from_residual-in_err-one.ensures ∙ sym (one_word _ _ _ c.in_ok-name.ensures c.in_err-one.ensures)

pub returns-in_err-of : goal.returns-in_err-of
returns-in_err-of c =
    c.from_residual-in_err-of.ensures
    ∙ (λ i. call_of (c.in_err-of.ensures i) (number c.in_ok-one.one.now) (number c.in_ok-one.two.now))
    ∙ sym (three_words _ _ _ _ _ c.in_ok-name.ensures c.in_ok-one.ensures)

pub returns-in_err-number : goal.returns-in_err-number
returns-in_err-number c =
    c.from_residual-in_err-number.ensures
    ∙ (λ i. call_of (c.in_ok-of.ensures i) (c.in_err-number.ensures i) (number c.in_ok-one.two.now))
    ∙ sym (three_words _ _ _ _ _ c.in_ok-name.ensures c.in_ok-one.ensures)

pub returns-in_err-number-2 : goal.returns-in_err-number-2
returns-in_err-number-2 c =
    c.from_residual-in_err-number-2.ensures
    ∙ (λ i. call_of (c.in_ok-of.ensures i) (c.in_ok-number.ensures i) (c.in_err-number-2.ensures i))
    ∙ sym (three_words _ _ _ _ _ c.in_ok-name.ensures c.in_ok-one.ensures)

pub returns : goal.returns
returns c =
    c.of-2.ensures ∙ (λ i. call_of (c.in_ok-of.ensures i) (c.in_ok-number.ensures i) (c.in_ok-number-2.ensures i))
    ∙ sym (three_words _ _ _ _ _ c.in_ok-name.ensures c.in_ok-one.ensures)
