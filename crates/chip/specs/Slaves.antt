-- Slave bytes.
use Rattle.std.specs.Prelude.{ℕ, Bool, true, false, cond, Some, None, Option, ◌==◌}
use Rattle.chip.specs.declared.slaves.Area.{Area}
use Rattle.chip.specs.declared.slaves.Area.TheVariants.{Array, Registers}
use Rattle.chip.specs.declared.slaves.Direction.{Direction}
use Rattle.chip.specs.declared.slaves.Direction.TheVariants.{Write, Read}
use Rattle.chip.specs.declared.slaves.Slave.{Slave}
use Rattle.chip.specs.declared.slaves.Slave.TheVariants.{ArrayWrite, ArrayRead, RegisterWrite, RegisterRead}

-- AEh writes the array, AFh reads it; DEh writes the registers, DFh reads them. No other byte is ours.
abbrev pub slave_named : ℕ → Option Slave
slave_named b =
    cond (b == 0xAE) (Some ArrayWrite)
    (cond (b == 0xAF) (Some ArrayRead)
    (cond (b == 0xDE) (Some RegisterWrite)
    (cond (b == 0xDF) (Some RegisterRead) None)))

-- The byte that names a slave.
abbrev pub slave_byte : Slave → ℕ
slave_byte ArrayWrite = 0xAE
slave_byte ArrayRead = 0xAF
slave_byte RegisterWrite = 0xDE
slave_byte RegisterRead = 0xDF

-- The slave by which an area is written or read.
abbrev pub slave_of : Area → Direction → Slave
slave_of Array Write = ArrayWrite
slave_of Array Read = ArrayRead
slave_of Registers Write = RegisterWrite
slave_of Registers Read = RegisterRead

-- The address space that a slave byte names.
abbrev pub area_of : Slave → Area
area_of ArrayWrite = Array
area_of ArrayRead = Array
area_of RegisterWrite = Registers
area_of RegisterRead = Registers

-- Whether the module sends.
abbrev pub reads : Slave → Bool
reads ArrayWrite = false
reads ArrayRead = true
reads RegisterWrite = false
reads RegisterRead = true
