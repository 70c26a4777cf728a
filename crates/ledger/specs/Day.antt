-- What a step of a day at the weighbridge answers and leaves.
use Rattle.std.specs.Prelude.{ℕ, Ok, Result}
use Rattle.memory.specs.Model.{Mem}
use Rattle.ledger.specs.declared.day.Step.{Step}
use Rattle.ledger.specs.declared.day.Step.TheVariants.{SetTare, Weigh, Read, Bill}
use Rattle.ledger.specs.declared.day.Outcome.{Outcome}
use Rattle.ledger.specs.declared.day.Outcome.TheVariants.{TareSet, Weighed, Held, Billed}
use Rattle.ledger.specs.declared.error.LedgerError.{LedgerError}
use Rattle.ledger.specs.declared.records.Weighing.{Weighing}
use Rattle.ledger.specs.Book.{and_then, weighing_answer, set_tare_answer, set_tare_after, weigh_answer, weigh_after, bill_answer, bill_after}

-- A weighing without a time.
abbrev pub untimed : ℕ → ℕ → Weighing
untimed truck gross = record {
  truck = truck;
  gross = gross;
  stamp = record { clock = record { seconds = 0; minutes = 0; hours = 0; date = 0; month = 0; year = 0; weekday = 0; century = 0 } };
}

-- Each step is answered as its call of the ledger is.
abbrev pub step_answer : Mem → Step → Result Outcome LedgerError
step_answer m (SetTare truck weight) = and_then (set_tare_answer m truck) (λ _. Ok TareSet)
step_answer m (Weigh ticket truck gross) = and_then (weigh_answer m ticket truck) (λ _. Ok Weighed)
step_answer m (Read ticket) = and_then (weighing_answer m ticket) (λ held. Ok (Held held))
step_answer m (Bill ticket) = and_then (bill_answer m ticket) (λ invoice. Ok (Billed invoice))

-- Each step leaves what its call of the ledger leaves.
abbrev pub step_after : Mem → Step → Mem
step_after m (SetTare truck weight) = set_tare_after m truck (record { weight = weight })
step_after m (Weigh ticket truck gross) = weigh_after m ticket (untimed truck gross)
step_after m (Read ticket) = m
step_after m (Bill ticket) = bill_after m ticket
