use Rattle.std.proofs.Common.{arith}
use Rattle.memory.proofs.Images.{image_put}
use Rattle.memory.proofs.image.CellsKeeper.put.Goals as goal

pub returns-clause-after : goal.returns-clause-after
returns-clause-after c = image_put c.args.self.now.bytes.now c.args.self.now.writes c.args.place c.args.byte (omega arith) c.requires
