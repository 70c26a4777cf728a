-- The interrupt pin.
use Rattle.std.specs.Prelude.{ℕ}
use Rattle.chip.specs.declared.pins.Pin.{Pin}
use Rattle.chip.specs.declared.pins.Pin.TheVariants.{Low, Released, Crystal}

-- 0 low, 1 released, 2 the crystal.
abbrev pub pin_number : Pin → ℕ
pin_number Low = 0
pin_number Released = 1
pin_number Crystal = 2
