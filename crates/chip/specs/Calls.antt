-- The calls of a board, and which of them are taken.
use Rattle.std.specs.Prelude.{ℕ, Bool, true, false, cond, Ok, Err, Result, ◌==◌}
use Rattle.chip.specs.declared.calls.Call.{Call}
use Rattle.chip.specs.declared.calls.Call.TheVariants.{Level, Tick, Supply as SupplyCall}
use Rattle.chip.specs.declared.calls.Event.{Event}
use Rattle.chip.specs.declared.calls.Event.TheVariants.{Given, Ticked, Supplied}
use Rattle.chip.specs.declared.calls.Supply.{Supply}
use Rattle.chip.specs.declared.calls.Supply.TheVariants.{Off, Main, Battery}
use Rattle.chip.specs.declared.refusals.Line.{Line}
use Rattle.chip.specs.declared.refusals.Line.TheVariants.{Scl, Sda}
use Rattle.chip.specs.declared.refusals.Refusal.{Refusal}
use Rattle.chip.specs.declared.refusals.Refusal.TheVariants.{BadLevel, BadSupply}

-- A level is 0 or 1; another number is refused with its line.
abbrev pub level_of : Line → ℕ → Result Bool Refusal
level_of line n = cond (n == 0) (Ok false) (cond (n == 1) (Ok true) (Err (BadLevel line)))

-- A supply is 0 none, 1 main, 2 battery; another number is refused.
abbrev pub supply_of : ℕ → Result Supply Refusal
supply_of n = cond (n == 0) (Ok Off) (cond (n == 1) (Ok Main) (cond (n == 2) (Ok Battery) (Err BadSupply)))

-- The number that means a supply.
abbrev pub supply_number : Supply → ℕ
supply_number Off = 0
supply_number Main = 1
supply_number Battery = 2

-- Two levels that were both taken; else the refusal of the first that was not.
abbrev pub given : Result Bool Refusal → Result Bool Refusal → Result Event Refusal
given (Ok c) (Ok d) = Ok (Given (record { scl = c; sda = d }))
given (Ok c) (Err r) = Err r
given (Err r) d = Err r

abbrev pub supplied : Result Supply Refusal → Result Event Refusal
supplied (Ok s) = Ok (Supplied s)
supplied (Err r) = Err r

-- What a call does to the module, or why its numbers are refused; SCL is looked at before SDA.
abbrev pub accepted : Call → Result Event Refusal
accepted (Level c d) = given (level_of Scl c) (level_of Sda d)
accepted Tick = Ok Ticked
accepted (SupplyCall which) = supplied (supply_of which)
