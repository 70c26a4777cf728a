-- A board: a module and the memory that it is worked over, lent together.
use Rattle.std.specs.Prelude.{◌≡◌, ℕ, List, not, Option}
use Rattle.memory.specs.Model.{Mem}
use Rattle.chip.specs.declared.calls.Answer.{Answer}
use Rattle.chip.specs.declared.calls.Call.{Call}
use Rattle.chip.specs.declared.refusals.Refusal.{Refusal}
use Rattle.x1226.specs.declared.state.State.{State}
use Rattle.x1226.specs.Frame.{pulls}
use Rattle.x1226.specs.Stop.{Left}
use Rattle.runlog.specs.declared.board.Board.{Board}
use Rattle.runlog.specs.Left.{left_from}
use Rattle.runlog.specs.Run.{Lined, line_worked, Ran, lines_worked, log_worked}
use Rattle.runlog.specs.Texts.{lines}

-- What a board is told where no call is made: the level on SDA as it stands.
abbrev pub told_of : {M : Type 0} → Board M → Option Refusal → Answer
told_of b refusal = record { sda = not (pulls b.chip.now.state.phase); refusal = refusal }

-- The module and the memory are the ones that were lent, and are left so.
pub record IsLeft {M : Type 0} (holds : M → Mem) (before after : Board M) (s : State) (m : Mem) : Type 0 where
  pub state : after.chip.now.state ≡ s
  pub mem : holds after.memory.now ≡ m
  pub chip : after.chip.ghost_name ≡ before.chip.ghost_name
  pub memory : after.memory.ghost_name ≡ before.memory.ghost_name

module _ {M : Type 0} (holds : M → Mem) (b : Board M) where
  -- What calls do on a board, what line n does, what value lines do from line 2 on, and what a log does.
  abbrev pub called : List Call → Left
  called calls = left_from b.chip.now.state (holds b.memory.now) calls

  abbrev pub lined : ℕ → List ℕ → Lined
  lined n text = line_worked n text b.chip.now.state (holds b.memory.now)

  abbrev pub ran : List ℕ → Ran
  ran text = lines_worked 2 (lines text) b.chip.now.state (holds b.memory.now)

  abbrev pub logged : List ℕ → Ran
  logged log = log_worked log b.chip.now.state (holds b.memory.now)
