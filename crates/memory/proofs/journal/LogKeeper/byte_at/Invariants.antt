use Rattle.std.proofs.Common.{◌≡◌, ◌≤◌, take}
use Rattle.memory.specs.Journal.{byte_at}
use Rattle.memory.proofs.journal.LogKeeper.byte_at.Given as goal

abbrev pub invariant-loop-i : goal.invariant-loop-i
invariant-loop-i l = (l.i ≤ l.self.used) × (l.byte ≡ byte_at (take l.i l.self.words.now) l.place)
