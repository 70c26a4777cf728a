use Rattle.std.proofs.Common.{◌≡◌, ◌^◌, ◌<◌, drop}
use Rattle.std.specs.Str.{all_ascii_digits}
use Rattle.runlog.specs.Numbers.{value_after}
use Rattle.runlog.proofs.numbers.number.Given as goal

-- The digits still to come make the whole of the number from the value so far.
abbrev pub invariant-loop-digit : goal.invariant-loop-digit
invariant-loop-digit l =
    (value_after l.value (drop l.digit-index l.word) ≡ value_after 0 l.word)
    × (all_ascii_digits (drop l.digit-index l.word) ≡ all_ascii_digits l.word)
    × (l.value < 10 ^ l.digit-index)
