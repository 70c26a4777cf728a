-- Refusals: each with its number, layer, area, address and life, defined once.
use Rattle.std.specs.Prelude.{ℕ, Some, None, Option}
use Rattle.memory.specs.Refusals.{number}
use Rattle.memory.specs.declared.refusal.Refusal.TheVariants.{Unfit as MemoryUnfit, Place as MemoryPlace, Short as MemoryShort}
use Rattle.chip.specs.declared.refusals.Line.{Line}
use Rattle.chip.specs.declared.refusals.Line.TheVariants.{Scl, Sda}
use Rattle.chip.specs.declared.refusals.Layer.{Layer}
use Rattle.chip.specs.declared.refusals.Layer.TheVariants.{Board, Bus, Memory, Log}
use Rattle.chip.specs.declared.refusals.Refusal.{Refusal}
use Rattle.chip.specs.declared.refusals.Refusal.TheVariants.{BadLevel, BadSupply, Unfit, BadPlace, Worn, RwelOff, NotADate, PageLocked, NoNames, Unreadable, LogSize}
use Rattle.chip.specs.declared.refusals.Report.{Report}
use Rattle.chip.specs.declared.slaves.Area.{Area}
use Rattle.chip.specs.declared.slaves.Area.TheVariants.{Array, Registers}

-- The board is layer 1, the bus (the terminal at its other end) 2, the memory 3, the log (its writer) 4.
abbrev pub layer_number : Layer → ℕ
layer_number Board = 1
layer_number Bus = 2
layer_number Memory = 3
layer_number Log = 4

-- No area is 0, the array 1, the registers 2.
abbrev pub area_number : Option Area → ℕ
area_number None = 0
area_number (Some Array) = 1
area_number (Some Registers) = 2

-- A bad level is reported at address 0 for SCL, 1 for SDA.
abbrev pub line_address : Line → ℕ
line_address Scl = 0
line_address Sda = 1

-- A report that names no area, no address and no life.
abbrev pub unplaced : Layer → ℕ → Report
unplaced layer n = record { number = n; layer = layer; area = None; address = 0; life = None }

-- A report that names an area and an address.
abbrev pub placed : Layer → ℕ → Area → ℕ → Report
placed layer n area address = record { number = n; layer = layer; area = Some area; address = address; life = None }

-- What the log's writer has to look into names no area and no address.
abbrev pub of_log : ℕ → Report
of_log n = unplaced Log n

-- 1 a level above 1; 2 a supply above 2; 3 an unfit memory; 4 a place out of range, which is the address;
-- 5 a life too short, with the life left; 6 RWEL off; 7 not a date; 8 a locked page; 9 the first line of
-- a log not the names; 10 an unreadable line; 11 a log too long, or too little room for its reply. 5 to 8 name area and address.
-- The numbers of 3, 4 and 5 are the memory's own.
abbrev pub report : Refusal → Report
report (BadLevel line) = record { number = 1; layer = Board; area = None; address = line_address line; life = None }
report BadSupply = record { number = 2; layer = Board; area = None; address = 0; life = None }
report Unfit = record { number = number MemoryUnfit; layer = Board; area = None; address = 0; life = None }
report (BadPlace place) = record { number = number MemoryPlace; layer = Board; area = None; address = place; life = None }
report (Worn area address life) =
    record { number = number (MemoryShort life); layer = Memory; area = Some area; address = address; life = Some life }
report (RwelOff register) = record { number = 6; layer = Bus; area = Some Registers; address = register; life = None }
report (NotADate register) = record { number = 7; layer = Bus; area = Some Registers; address = register; life = None }
report (PageLocked address) = record { number = 8; layer = Bus; area = Some Array; address = address; life = None }
report NoNames = of_log 9
report Unreadable = of_log 10
report LogSize = of_log 11
