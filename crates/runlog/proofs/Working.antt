-- A call that is made again and again on a board.
use Rattle.std.proofs.Common.{◌≡◌, ℕ, ◌+◌, replicate, None, sym, refl, ◌∙◌, subst, add-one}
use Rattle.memory.specs.Model.{Mem}
use Rattle.chip.specs.declared.calls.Answer.{Answer}
use Rattle.chip.specs.declared.calls.Call.{Call}
use Rattle.x1226.specs.Step.{worked, told}
use Rattle.runlog.specs.declared.board.Board.{Board}
use Rattle.runlog.specs.Board.{told_of, called, IsLeft}
use Rattle.runlog.specs.Left.{left_from}

-- A board and its answer after n such calls.
pub record Made {M : Type 0} (holds : M → Mem) (before after : Board M) (c : Call) (n : ℕ) (answer : Answer) : Type 0 where
  pub left : IsLeft holds before after (called holds before (replicate n c)).state (called holds before (replicate n c)).mem
  pub told_is : answer ≡ told (called holds before (replicate n c))

-- No call yet.
pub made_none : {M : Type 0} (holds : M → Mem) (b : Board M) (c : Call) (answer : Answer) → answer ≡ told_of b None → Made holds b b c 0 answer
unfolding left_from
made_none holds b c answer e = record { left = record { state = refl; mem = refl; chip = refl; memory = refl }; told_is = e }

-- One call more.
pub made_more : {M : Type 0} (holds : M → Mem) (before now after : Board M) (c : Call) (n : ℕ) (old answer : Answer)
    → Made holds before now c n old
    → IsLeft holds now after (worked c now.chip.now.state (holds now.memory.now)).state (worked c now.chip.now.state (holds now.memory.now)).mem
    → answer ≡ told (worked c now.chip.now.state (holds now.memory.now)) → Made holds before after c (n + 1) answer
unfolding left_from
made_more holds before now after c n old answer k w e =
    subst (λ j. Made holds before after c j answer) (sym (add-one n))
    (record {
      left = record {
        state = w.state ∙ (λ i. (worked c (k.left.state i) (k.left.mem i)).state);
        mem = w.mem ∙ (λ i. (worked c (k.left.state i) (k.left.mem i)).mem);
        chip = w.chip ∙ k.left.chip;
        memory = w.memory ∙ k.left.memory;
      };
      told_is = e ∙ (λ i. told (worked c (k.left.state i) (k.left.mem i)));
    })
