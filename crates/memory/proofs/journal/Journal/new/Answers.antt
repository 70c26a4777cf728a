use Rattle.std.proofs.Common.{arith}
use Rattle.std.proofs.lemmas.List.Sums.{prefix_len-le-length}
use Rattle.memory.specs.Journal.{is_record}
use Rattle.memory.proofs.journal.Journal.new.Goals as goal

pub invariant_of-over : goal.invariant_of-over
invariant_of-over c = record { counted = c.count_records-used.ensures; within = omega (arith, c.count_records-used.ensures, prefix_len-le-length is_record c.args.words.now) }
