-- What each call of the ledger answers and leaves, over any memory.
use Rattle.std.specs.Prelude.{ℕ, ◌-◌, cond, List, is_some, is_ok, Ok, Err, Option, Result, nat_lt}
use Rattle.std.specs.Option.{ok_or}
use Rattle.memory.specs.declared.refusal.Refusal.{Refusal}
use Rattle.memory.specs.Model.{Mem, write, with_byte}
use Rattle.memory.specs.Runs.{fetch, run_at, store, with_run}
use Rattle.ledger.specs.declared.book.Invoice.{Invoice}
use Rattle.ledger.specs.declared.error.LedgerError.{LedgerError}
use Rattle.ledger.specs.declared.error.LedgerError.TheVariants.{Memory, NoTruck, NoTicket, NoTare, NotBilled, NotOpen, Light}
use Rattle.ledger.specs.declared.records.Tare.{Tare}
use Rattle.ledger.specs.declared.records.Weighing.{Weighing}
use Rattle.ledger.specs.Layout.{truck_count, ticket_count, tare_size, weighing_size, tare_place, weighing_place}
use Rattle.ledger.specs.Records.{billed, tare_bytes, tare_of, weighing_bytes, weighing_of}

-- A refusal of the memory goes on as one of the ledger.
abbrev pub from_memory : {A : Type 0} → Result A Refusal → Result A LedgerError
from_memory (Ok x) = Ok x
from_memory (Err e) = Err (Memory e)

-- A second answer that is asked for only if the first is given.
abbrev pub and_then : {A B : Type 0} → Result A LedgerError → (A → Result B LedgerError) → Result B LedgerError
and_then (Ok x) f = f x
and_then (Err e) f = Err e

-- The record that n bytes from a place on hold, if they hold one.
abbrev pub record_answer : {R : Type 0} → (List ℕ → Option R) → Mem → ℕ → ℕ → Result (Option R) LedgerError
record_answer decoded m place n = and_then (from_memory (fetch m.fit place n)) (λ _. Ok (decoded (run_at m place n)))

-- There must be such a truck.
abbrev pub truck_check : ℕ → Result Unit LedgerError
truck_check truck = cond (nat_lt truck truck_count) (Ok tt) (Err NoTruck)

-- The tare of a truck: there must be such a truck, and it must have a tare.
abbrev pub tare_answer : Mem → ℕ → Result Tare LedgerError
tare_answer m truck =
    and_then (truck_check truck) (λ _.
    and_then (record_answer tare_of m (tare_place truck) tare_size) (λ found.
    ok_or found NoTare))

-- The weighing that a ticket holds, if it holds one that is not yet billed.
abbrev pub weighing_answer : Mem → ℕ → Result (Option Weighing) LedgerError
weighing_answer m ticket =
    cond (nat_lt ticket ticket_count)
    (record_answer weighing_of m (weighing_place ticket) weighing_size)
    (Err NoTicket)

-- A tare is set for a truck, over the one it had.
abbrev pub set_tare_answer : Mem → ℕ → Result Unit LedgerError
set_tare_answer m truck = and_then (truck_check truck) (λ _. from_memory (store m (tare_place truck) tare_size))

abbrev pub set_tare_after : Mem → ℕ → Tare → Mem
set_tare_after m truck t = cond (is_ok (set_tare_answer m truck)) (with_run m (tare_place truck) (tare_bytes t)) m

-- A ticket is free for a weighing unless it holds one that is not yet billed.
abbrev pub free_answer : Mem → ℕ → Result Unit LedgerError
free_answer m ticket = and_then (weighing_answer m ticket) (λ held. cond (is_some held) (Err NotBilled) (Ok tt))

-- A weighing of a truck is entered on a free ticket.
abbrev pub weigh_answer : Mem → ℕ → ℕ → Result Unit LedgerError
weigh_answer m ticket truck =
    and_then (truck_check truck) (λ _.
    and_then (free_answer m ticket) (λ _.
    from_memory (store m (weighing_place ticket) weighing_size)))

abbrev pub weigh_after : Mem → ℕ → Weighing → Mem
weigh_after m ticket w = cond (is_ok (weigh_answer m ticket w.truck)) (with_run m (weighing_place ticket) (weighing_bytes w)) m

-- The invoice of a weighing: the net weight is the gross weight less the tare.
abbrev pub invoice : Weighing → Tare → Invoice
invoice w t = record { truck = w.truck; gross = w.gross; tare = t.weight; net = w.gross - t.weight; stamp = w.stamp }

-- The invoice of a weighing by a tare: there is none where the truck is lighter than its tare.
abbrev pub invoice_answer : Weighing → Tare → Result Invoice LedgerError
invoice_answer w t = cond (nat_lt w.gross t.weight) (Err Light) (Ok (invoice w t))

-- What is billed: the weighing of the ticket, by the tare of its truck, where the truck is not lighter than that.
abbrev pub due : Mem → ℕ → Result Invoice LedgerError
due m ticket =
    and_then (weighing_answer m ticket) (λ held.
    and_then (ok_or held NotOpen) (λ w.
    and_then (tare_answer m w.truck) (λ t.
    invoice_answer w t)))

-- The bill is answered, and the weighing is marked billed.
abbrev pub bill_answer : Mem → ℕ → Result Invoice LedgerError
bill_answer m ticket = and_then (due m ticket) (λ b. and_then (from_memory (write m (weighing_place ticket))) (λ _. Ok b))

abbrev pub bill_after : Mem → ℕ → Mem
bill_after m ticket = cond (is_ok (bill_answer m ticket)) (with_byte m (weighing_place ticket) billed) m
