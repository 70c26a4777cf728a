use Rattle.std.proofs.Common.{◌∙◌, arith}
use Rattle.memory.proofs.Images.{image_byte}
use Rattle.memory.proofs.image.CellsKeeper.byte_at.Goals as goal

pub returns : goal.returns
returns c =
    let s = c.args.self.now in
    c.byte_at.ensures ∙ image_byte s.bytes.now s.writes c.args.place c.requires (omega (arith, c.byte_at.ensures))
