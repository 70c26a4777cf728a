-- The address counter: the addresses that it takes and how it moves, and which data bytes are taken where it stands.
use Rattle.std.specs.Prelude.{ℕ, ◌+◌, ◌*◌, ◌%◌, Bool, true, false, Some, None, Option}
use Rattle.chip.specs.declared.counter.Address.{Address}
use Rattle.chip.specs.declared.registers.Section.{Section}
use Rattle.chip.specs.declared.registers.Section.TheVariants.{Alarm0, Alarm1, Control, Clock, Status}
use Rattle.chip.specs.declared.slaves.Area.{Area}
use Rattle.chip.specs.declared.slaves.Area.TheVariants.{Array, Registers}
use Rattle.chip.specs.Sizes.{array_length, register_space}
use Rattle.chip.specs.Pages.{next_in_page, next_in_array}
use Rattle.chip.specs.Registers.{section_of, next_in, next_register}

-- An address of an area.
abbrev pub address_at : Area → ℕ → Address
address_at area offset = record { area = area; offset = offset }

-- How many addresses an area has.
abbrev pub room_of : Area → ℕ
room_of Array = array_length
room_of Registers = register_space

-- The address that two bytes name: modulo 512 in the array, modulo 64 among the registers.
abbrev pub address_in : Area → ℕ → ℕ → ℕ
address_in area high low = (high * 256 + low) % room_of area

-- After an acknowledged data byte the counter moves on by one inside its page or section, and wraps there.
abbrev pub next_written : Area → ℕ → ℕ
next_written Array c = next_in_page c
next_written Registers c = next_register c

abbrev pub next_in_section : Option Section → ℕ → ℕ
next_in_section None c = c
next_in_section (Some Alarm0) c = next_in Alarm0 (c % register_space)
next_in_section (Some Alarm1) c = next_in Alarm1 (c % register_space)
next_in_section (Some Control) c = next_in Control (c % register_space)
next_in_section (Some Clock) c = next_in Clock (c % register_space)
next_in_section (Some Status) c = c

-- After a byte sent it moves on across the whole array, or inside its section: registers are read at the counter modulo 64. Status and
-- empty addresses do not move it.
abbrev pub next_read : Area → ℕ → ℕ
next_read Array c = next_in_array c
next_read Registers c = next_in_section (section_of (c % register_space)) c

abbrev pub is_status : Option Section → Bool
is_status None = false
is_status (Some Alarm0) = false
is_status (Some Alarm1) = false
is_status (Some Control) = false
is_status (Some Clock) = false
is_status (Some Status) = true

-- A read at the counter sends status.
abbrev pub at_status : Area → ℕ → Bool
at_status Array c = false
at_status Registers c = is_status (section_of (c % register_space))

abbrev pub section_takes : Bool → Option Section → Bool → Bool
section_takes wel None is_first = false
section_takes wel (Some Alarm0) is_first = wel
section_takes wel (Some Alarm1) is_first = wel
section_takes wel (Some Control) is_first = wel
section_takes wel (Some Clock) is_first = wel
section_takes wel (Some Status) is_first = is_first

-- A data byte is taken where WEL is on; status takes its first always and a second never; outside all sections none is taken.
abbrev pub takes_data : Bool → Area → ℕ → Bool → Bool
takes_data wel Array a is_first = wel
takes_data wel Registers a is_first = section_takes wel (section_of a) is_first
