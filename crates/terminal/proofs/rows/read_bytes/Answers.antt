use Rattle.std.proofs.Common.{◌<◌, ◌≢◌, length, refl, ◌∙◌, arith, get_or-set_other, get_or-set_same, below_more}
use Rattle.terminal.proofs.Reading.{behind_more, first_of_left}
use Rattle.terminal.proofs.rows.read_bytes.Goals as goal

pub loop-byte-init : goal.loop-byte-init
loop-byte-init c = (refl, λ k below. absurd (omega arith))

pub loop-byte-preserved : goal.loop-byte-preserved
loop-byte-preserved c =
    let i = c.loop-byte.byte-index in
    let so = c.loop-byte.invariant in
    let room : i < length c.loop-byte.bytes = omega arith in (
      c.behind-left.ensures ∙ behind_more c.args.rows.now c.loop-byte.left.now i so.0,
      below_more _ i
          (λ j below. let other : j ≢ i = omega arith in rw get_or-set_other (so.1 j below))
          (rw get_or-set_same (c.first_byte.ensures ∙ first_of_left c.args.rows.now c.loop-byte.left.now i so.0)),
    )
