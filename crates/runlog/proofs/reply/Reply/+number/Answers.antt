use Rattle.std.proofs.Common.{◌+◌, ◌%◌, ◌<◌, ◌≤◌, [], ◌∷◌, subst, sym, arith}
use Rattle.runlog.specs.Reply.{Appends, room_left}
use Rattle.runlog.proofs.Replies.{last_digit, only_digit, room_before, room_for_last, room_for_only}
use Rattle.runlog.proofs.reply.Reply.+number.Goals as goal
use Rattle.runlog.proofs.reply.Reply.+number.Goals.{then-n-ge10, else-n-ge10}

pub number-requires : goal.number-requires
number-requires t c = (omega arith, room_before c.args.self.now c.args.n c.if-n-ge10.true (omega arith) c.requires)

pub text-requires : goal.text-requires
text-requires t c =
    let n = c.args.n in
    let small : n < 65536 = omega arith in
    elim c.if-n-ge10.branch [
      | then-n-ge10 w ↦ subst (λ r. 1 ≤ room_left r) (sym w.self-is)
          (room_for_last c.args.self.now w.number.new.self n w.if-n-ge10.true small c.requires w.number.ensures)
      | else-n-ge10 w ↦ subst (λ r. 1 ≤ room_left r) (sym w.self-is)
          (room_for_only c.args.self.now n w.if-n-ge10.false c.requires)
    ]

pub returns : goal.returns
returns t c =
    let n = c.args.n in
    let small : n < 65536 = omega arith in
    elim c.if-n-ge10.branch [
      | then-n-ge10 w ↦ last_digit c.args.self.now w.number.new.self c.text.new.self n w.if-n-ge10.true small w.number.ensures
          (subst (λ r. Appends r c.text.new.self ((48 + n % 10) ∷ [])) w.self-is c.text.ensures)
      | else-n-ge10 w ↦ only_digit c.args.self.now c.text.new.self n w.if-n-ge10.false
          (subst (λ r. Appends r c.text.new.self ((48 + n % 10) ∷ [])) w.self-is c.text.ensures)
    ]
