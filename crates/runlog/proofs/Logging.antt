-- A whole log, from what its parts left.
use Rattle.std.proofs.Common.{◌≡◌, ℕ, ◌+◌, ◌≤◌, true, false, ◌||◌, ltb, List, length, sym, ◌∙◌, arith}
use Rattle.std.proofs.lemmas.Bool.{cond-true, cond-false, le-ltb, or_from}
use Rattle.std.specs.List.{replace_range}
use Rattle.memory.specs.Model.{Mem}
use Rattle.chip.specs.declared.refusals.Refusal.TheVariants.{Unfit, LogSize}
use Rattle.x1226.specs.declared.state.State.{State}
use Rattle.runlog.specs.declared.reply.Reply.{Reply}
use Rattle.runlog.specs.Reply.{Appends}
use Rattle.runlog.specs.Run.{most_log, least_reply, log_worked, at_front, replied, unlogged, run_log}

-- A text at the front of its room.
pub front_written : (a b : Reply) (text : List ℕ) → a.used ≡ 0 → Appends a b text → b.room.now ≡ at_front text a.room.now
front_written a b text none p =
    let n : a.used + length text ≡ length text = omega arith in
    p.bytes ∙ (λ i. replace_range a.room.now (none i) (n i) text)

-- A log that is neither too long nor short of room, over a fit memory.
pub log_runs : (s : State) (m : Mem) (log room : List ℕ) → true ≡ m.fit → length log ≤ most_log → least_reply ≤ length room
    → run_log s m log room ≡ replied (log_worked log s m) room
log_runs s m log room fit few wide =
    let a : ltb most_log (length log) ≡ false = le-ltb most_log (length log) few in
    let b : ltb (length room) least_reply ≡ false = le-ltb (length room) least_reply wide in
    cond-true m.fit _ (unlogged Unfit s m room) (sym fit)
    ∙ cond-false (ltb most_log (length log) || ltb (length room) least_reply) (unlogged LogSize s m room) (replied (log_worked log s m) room)
    (or_from (ltb most_log (length log)) (ltb (length room) least_reply) a b)
