use Rattle.std.proofs.Common.{◌≡◌, ◌≤◌, drop, length}
use Rattle.x1226.specs.Replay.{Replayed}
use Rattle.x1226.proofs.replays.replay.Given as goal

abbrev pub invariant-loop-row : goal.invariant-loop-row
invariant-loop-row g l =
    let holds = g.M.Memory.holds in
    Replayed l.row-index (holds l.initial.memory) l.calls l.initial.rows l.rows l.module.state (holds l.memory)
    × ((l.left ≡ drop l.row-index l.calls) × (l.row-index ≤ length l.calls))
