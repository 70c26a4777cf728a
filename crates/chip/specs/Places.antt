-- Places: where the memory keeps an address, and what a write stores there.
use Rattle.std.specs.Prelude.{ℕ, ◌+◌}
use Rattle.memory.specs.Sizes.{array_places}
use Rattle.chip.specs.declared.slaves.Area.{Area}
use Rattle.chip.specs.declared.slaves.Area.TheVariants.{Array, Registers}
use Rattle.chip.specs.Registers.{masked}

-- The memory's place for an address: the array first, then the registers from 00h on.
abbrev pub place_of : Area → ℕ → ℕ
place_of Array a = a
place_of Registers r = array_places + r

-- What a byte sent to an address stores there: all of it in the array, in a register what its mask lets through.
abbrev pub stores : Area → ℕ → ℕ → ℕ
stores Array a b = b
stores Registers r b = masked r b
