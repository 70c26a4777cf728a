-- Answers: what a whole byte and a bit sent come to on the bus, and what level tells the board.
use Rattle.std.specs.Prelude.{ℕ, ◌+◌, Bool, cond, not, Some, None, Ok, Err, Option, Result, nat_lt}
use Rattle.chip.specs.declared.refusals.Refusal.{Refusal}
use Rattle.x1226.specs.declared.state.Phase.TheVariants.{Deaf, Acknowledging, Sending}
use Rattle.x1226.specs.declared.state.State.{State}
use Rattle.x1226.specs.State.{with_phase}
use Rattle.x1226.specs.Frame.{pulls, takes, sent_whole}
use Rattle.x1226.specs.Stop.{Left}

-- A byte that is taken is acknowledged; after silence the module is deaf.
abbrev pub answered : ℕ → ℕ → State → State
answered stage byte s = with_phase (cond (takes s stage byte) (Acknowledging stage byte) Deaf) s

-- A bit sent is over: the next one follows, or the byte is whole.
abbrev pub sent_bit : ℕ → ℕ → State → State
sent_bit sent byte s = cond (nat_lt sent 7) (with_phase (Sending (sent + 1) byte) s) (sent_whole s)

abbrev pub level_or : Option Refusal → Bool → Result Bool Refusal
level_or None sda = Ok sda
level_or (Some r) sda = Err r

-- Level answers the level that the module leaves on SDA, low where it pulls; or the refusal.
abbrev pub level_answer : Left → Result Bool Refusal
level_answer l = level_or l.refusal (not (pulls l.state.phase))
