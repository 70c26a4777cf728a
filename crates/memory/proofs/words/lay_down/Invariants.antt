use Rattle.std.proofs.Common.{◌≡◌, length, replicate}
use lib.Seq.{paste}
use Rattle.memory.specs.Journal.{blank, records_of}
use Rattle.memory.proofs.words.lay_down.Given as goal

abbrev pub invariant-loop-place : goal.invariant-loop-place
invariant-loop-place l = l.words ≡ paste (replicate (length l.fn.words) blank) 0 (records_of l.bytes) l.place
