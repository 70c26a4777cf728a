use Rattle.std.proofs.Common.{◌≡◌, length, replicate, ap, ◌∙◌, arith}
use lib.Seq.{paste}
use Rattle.memory.specs.Sizes.{places}
use Rattle.memory.specs.Journal.{blank, records_of}
use Rattle.memory.proofs.ByteLaws.{laid_more, laid_on_blanks}
use Rattle.memory.proofs.words.lay_down.Goals as goal

pub loop-place-preserved : goal.loop-place-preserved
loop-place-preserved c =
    let n = length c.args.words.now in
    laid_more n c.args.bytes.now c.loop-place.words c.loop-place.place c.from.result
    c.requires (omega arith) c.loop-place.invariant c.from.ensures

pub returns : goal.returns
returns c =
    let n = length c.args.words.now in
    let end : c.loop-place.place ≡ places = omega arith in
    c.loop-place.invariant ∙ ap (paste (replicate n blank) 0 (records_of c.args.bytes.now)) end ∙ laid_on_blanks n c.args.bytes.now
