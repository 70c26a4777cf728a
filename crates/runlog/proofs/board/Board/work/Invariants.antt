use Rattle.runlog.proofs.Working.{Made}
use Rattle.runlog.proofs.board.Board.work.Given as goal

-- As many calls as turns are made.
abbrev pub invariant-loop : goal.invariant-loop
invariant-loop g l = Made g.M.Memory.holds l.initial.self l.self l.line.call l.counter l.answer
