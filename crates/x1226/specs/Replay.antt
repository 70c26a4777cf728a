-- A list of calls worked one after the other on a module just made.
use Rattle.std.specs.Prelude.{◌≡◌, ℕ, ◌<◌, ◌≤◌, true, List, reverse, take, None, slice_index_or}
use Rattle.memory.specs.Model.{Mem}
use Rattle.chip.specs.declared.calls.Answer.{Answer}
use Rattle.chip.specs.declared.calls.Call.{Call}
use Rattle.chip.specs.declared.calls.Call.TheVariants.{Level}
use Rattle.x1226.specs.declared.state.State.{State}
use Rattle.x1226.specs.Stop.{Left}
use Rattle.x1226.specs.Step.{left, told, worked}

-- Stand-ins past the end of a list.
abbrev pub no_call : Call
no_call = Level 0 0

abbrev pub no_row : Answer
no_row = record { sda = true; refusal = None }

-- The first n of the calls, the newest first.
abbrev pub first : ℕ → List Call → List Call
first n calls = reverse (take n calls)

-- What call k leaves of what the calls before it left.
abbrev pub left_by : Mem → List Call → ℕ → Left
left_by was calls k = worked (slice_index_or calls k no_call) (left was (first k calls)).state (left was (first k calls)).mem

-- The first n calls are worked: module and memory are those that they leave, row k is what a board is told after call k, and the
-- other rows are as before.
pub record Replayed (n : ℕ) (was : Mem) (calls : List Call) (before after : List Answer) (s : State) (m : Mem) : Type 0 where
  pub state : s ≡ (left was (first n calls)).state
  pub mem : m ≡ (left was (first n calls)).mem
  pub row : (k : ℕ) → k < n → slice_index_or after k no_row ≡ told (left_by was calls k)
  pub rest : (k : ℕ) → n ≤ k → slice_index_or after k no_row ≡ slice_index_or before k no_row
