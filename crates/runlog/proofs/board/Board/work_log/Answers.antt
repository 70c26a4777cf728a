use Rattle.std.proofs.Common.{[], rules}
use Rattle.runlog.proofs.Back.{none_read_back, more_read_back}
use Rattle.runlog.proofs.board.Board.work_log.Goals as goal

pub returns-in-None-clause-back : goal.returns-in-None-clause-back
returns-in-None-clause-back g c =
    let one = more_read_back c.of.result [] c.row.ensures.back none_read_back in
    search (rules, one)
