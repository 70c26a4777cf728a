-- Where the records of the ledger lie in the array. No record crosses a page of 64 bytes.
use Rattle.std.specs.Prelude.{ℕ, ◌+◌, ◌*◌}

-- The trucks that have a tare, numbered from 0.
abbrev pub truck_count : ℕ
truck_count = 16

-- The tickets for weighings not yet billed, numbered from 0.
abbrev pub ticket_count : ℕ
ticket_count = 24

-- The bytes of a tare record, and of a weighing record: both divide 64.
abbrev pub tare_size : ℕ
tare_size = 8

abbrev pub weighing_size : ℕ
weighing_size = 16

-- Tare records come first, from place 0 on.
abbrev pub tare_place : ℕ → ℕ
tare_place truck = truck * tare_size

-- Weighing records follow the last tare record.
abbrev pub weighing_place : ℕ → ℕ
weighing_place ticket = truck_count * tare_size + ticket * weighing_size
