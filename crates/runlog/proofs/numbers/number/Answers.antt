use Rattle.std.proofs.Common.{◌-◌, ◌≤◌, get_or, sym, ◌∙◌, arith}
use Rattle.runlog.proofs.Numerals.{no_digit, value_more, digits_more, grows, too_large, the_number}
use Rattle.runlog.proofs.numbers.number.Goals as goal

pub returns-then-not-is_ascii_digit : goal.returns-then-not-is_ascii_digit
returns-then-not-is_ascii_digit c =
    no_digit c.args.word.now c.loop-digit.digit-index c.loop-digit-test.true (sym c.if-not-is_ascii_digit.ensures.value)
    c.loop-digit.invariant.1

pub loop-digit-preserved : goal.loop-digit-preserved
loop-digit-preserved c =
    let w = c.args.word.now in
    let i = c.loop-digit.digit-index in
    let inv = c.loop-digit.invariant in
    let digit = sym c.if-not-is_ascii_digit.ensures.value in
    let few : get_or w i 0 - 48 ≤ 9 = omega (arith, c.if-not-is_ascii_digit.ensures.cases) in (
      sym (value_more c.loop-digit.value w i c.loop-digit-test.true) ∙ inv.0,
      sym (digits_more w i c.loop-digit-test.true digit) ∙ inv.1,
      grows c.loop-digit.value (get_or w i 0 - 48) i inv.2 few,
    )

pub returns-then-value-gt-LARGEST : goal.returns-then-value-gt-LARGEST
returns-then-value-gt-LARGEST c =
    too_large c.args.word.now c.loop-digit.value c.loop-digit.digit-index c.if-is_empty.ensures
    c.if-word-gt-MOST_DIGITS.false c.loop-digit-test.false c.loop-digit.invariant.0 c.loop-digit.invariant.1 c.if-value-gt-LARGEST.true

pub returns-else-value-gt-LARGEST : goal.returns-else-value-gt-LARGEST
returns-else-value-gt-LARGEST c =
    the_number c.args.word.now c.loop-digit.value c.loop-digit.digit-index c.if-is_empty.ensures
    c.if-word-gt-MOST_DIGITS.false c.loop-digit-test.false c.loop-digit.invariant.0 c.loop-digit.invariant.1 c.if-value-gt-LARGEST.false
