-- The bill of a weighing.
use Rattle.std.specs.Prelude.{ℕ, cond, List, Ok, Err, Result, nat_lt}
use Rattle.std.specs.Option.{ok_or}
use Rattle.ledger.specs.Book.{and_then, invoice}
use Rattle.ledger.specs.Records.{tare_of, weighing_of}
use Rattle.ledger.specs.declared.book.Invoice.{Invoice}
use Rattle.ledger.specs.declared.error.LedgerError.{LedgerError}
use Rattle.ledger.specs.declared.error.LedgerError.TheVariants.{NoTare, NotOpen, Light}

-- The bill of the bytes of a weighing by the bytes of a tare: both must be there, and the truck must not be lighter than its tare.
abbrev pub bill_of : List ℕ → List ℕ → Result Invoice LedgerError
bill_of weighing tare =
    and_then (ok_or (weighing_of weighing) NotOpen) (λ w.
    and_then (ok_or (tare_of tare) NoTare) (λ t.
    cond (nat_lt w.gross t.weight) (Err Light) (Ok (invoice w t))))
