use Rattle.std.proofs.Common.{◌≡◌, take}
use Rattle.memory.specs.Journal.{bytes_of}
use Rattle.memory.proofs.journal.Log.gather.Given as goal

abbrev pub invariant-loop-word : goal.invariant-loop-word
invariant-loop-word l = l.bytes ≡ bytes_of (take l.word-index l.word-items)
