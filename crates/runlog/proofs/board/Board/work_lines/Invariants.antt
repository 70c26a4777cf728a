use Rattle.runlog.proofs.Going.{Going}
use Rattle.runlog.proofs.board.Board.work_lines.Given as goal

-- What is ahead ends as what was ahead at the beginning.
abbrev pub invariant-loop-number : goal.invariant-loop-number
invariant-loop-number g l =
    Going g.M.Memory.holds l.initial.self l.self l.initial.reply l.reply l.initial.values.rest.now l.number-iterator.b.rest.now l.number-iterator.a.start
