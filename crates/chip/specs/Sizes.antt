-- The chip's sizes, each once.
use Rattle.std.specs.Prelude.{ℕ}
use Rattle.memory.specs.Sizes.{array_places}

-- bytes of the array
abbrev pub array_length : ℕ
array_length = array_places

-- register addresses, most of them empty
abbrev pub register_space : ℕ
register_space = 64

-- bytes of an array page
abbrev pub page_length : ℕ
page_length = 64

-- registers that the memory stores
abbrev pub stored_registers : ℕ
stored_registers = 20

-- ticks of a write cycle
abbrev pub write_cycle : ℕ
write_cycle = 164

-- ticks of a second
abbrev pub second : ℕ
second = 32768

-- the first clock register
abbrev pub clock_base : ℕ
clock_base = 0x30

-- the status register
abbrev pub status_register : ℕ
status_register = 0x3F

-- BL, the lock register
abbrev pub lock_register : ℕ
lock_register = 0x10

-- INT, the interrupt register
abbrev pub interrupt_register : ℕ
interrupt_register = 0x11
