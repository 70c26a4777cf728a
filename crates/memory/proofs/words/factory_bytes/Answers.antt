use Rattle.std.proofs.Common.{[], rules}
use Rattle.memory.proofs.ByteLaws.{bytes_from}
use Rattle.memory.proofs.words.factory_bytes.Goals as goal

pub returns : goal.returns
returns c =
    let items = c.from_fn.ensures.items in
    bytes_from c.from_fn.result [] items.long (λ k low. let made = items.at k 0 low in search rules)
