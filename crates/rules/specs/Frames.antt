-- Frames: the bits since the last start, the bytes they make, and which bytes are acknowledged.
use Rattle.std.specs.Prelude.{ℕ, zero, suc, ◌+◌, ◌*◌, Bool, true, false, cond, ◌&&◌, List, [], ◌∷◌, map, reverse, take, drop, is_some, Some, None, Option, ◌==◌, slice_index_or}
use Rattle.std.specs.Option.{unwrap_or, option_map}
use Rattle.chip.specs.Counter.{address_in, takes_data}
use Rattle.chip.specs.Slaves.{slave_named}
use Rattle.chip.specs.declared.slaves.Area.{Area}
use Rattle.chip.specs.declared.slaves.Area.TheVariants.{Array, Registers}
use Rattle.chip.specs.declared.slaves.Slave.{Slave}
use Rattle.chip.specs.declared.slaves.Slave.TheVariants.{ArrayWrite, ArrayRead, RegisterWrite, RegisterRead}
use Rattle.chip.specs.declared.wires.Edge.{Edge}
use Rattle.chip.specs.declared.wires.Edge.TheVariants.{Start, Stop, Rise, Fall, Still}
use Rattle.rules.specs.Past.{History, Moment, moments, latest, since, all_of, is_start, rise_level, leaves_main}

-- A start opens a frame; a stop ends it, and so does the end of main supply.
abbrev pub opens_or_ends : Edge → Bool → Option Bool
opens_or_ends Start left = Some true
opens_or_ends Stop left = Some false
opens_or_ends (Rise v) left = cond left (Some false) None
opens_or_ends Fall left = cond left (Some false) None
opens_or_ends Still left = cond left (Some false) None

-- Whether a frame is open.
abbrev pub in_frame : History → Bool
in_frame h = unwrap_or (latest (λ m. opens_or_ends m.entry.edge (leaves_main m.entry.event)) (moments h)) false

-- What a rise of SCL shows: the level on the wire, and whether the module pulled it.
pub record Sample : Type 0 where
  pub level : Bool
  pub pulled : Bool

abbrev pub no_sample : Sample
no_sample = record { level = true; pulled = false }

abbrev pub sample_at : Moment → Option Sample
sample_at m = option_map (λ v. record { level = v; pulled = m.entry.pulls }) (rise_level m.entry.edge)

-- The samples at the rises since the last start, the oldest first.
abbrev pub sampled : History → List Sample
sampled h = reverse (all_of sample_at (since (λ m. is_start m.entry.edge) (moments h)))

-- The number that bits make after those already read, the highest first.
abbrev pub number_from : ℕ → List Bool → ℕ
number_from n [] = n
number_from n (b ∷ bs) = number_from (2 * n + cond b 1 0) bs

-- Rises fall into groups of nine. Byte k is the first eight levels of group k, the highest bit first.
abbrev pub byte_at : ℕ → List Sample → ℕ
byte_at k xs = number_from 0 (map (λ s. s.level) (take 8 (drop (9 * k) xs)))

-- The ninth sample of group k: the acknowledge.
abbrev pub ninth : ℕ → List Sample → Sample
ninth k xs = slice_index_or xs (9 * k + 8) no_sample

-- The module acknowledged each of the first k bytes: it pulled at their ninth rises.
abbrev pub acknowledged : ℕ → List Sample → Bool
acknowledged zero xs = true
acknowledged (suc k) xs = acknowledged k xs && (ninth k xs).pulled

-- The slave that the frame names by its first byte.
abbrev pub slave : List Sample → Option Slave
slave xs = slave_named (byte_at 0 xs)

-- The area that a frame writes, where it is a write.
abbrev pub area_written : Option Slave → Option Area
area_written None = None
area_written (Some ArrayWrite) = Some Array
area_written (Some ArrayRead) = None
area_written (Some RegisterWrite) = Some Registers
area_written (Some RegisterRead) = None

-- The area that a frame reads, where it is a read.
abbrev pub area_read : Option Slave → Option Area
area_read None = None
area_read (Some ArrayWrite) = None
area_read (Some ArrayRead) = Some Array
area_read (Some RegisterWrite) = None
area_read (Some RegisterRead) = Some Registers

-- The address that a write's second and third byte name.
abbrev pub address : Area → List Sample → ℕ
address area xs = address_in area (byte_at 1 xs) (byte_at 2 xs)

-- Data byte i, from 0, is the byte after the slave byte and the two address bytes.
abbrev pub data_byte : List Sample → ℕ → ℕ
data_byte xs i = byte_at (3 + i) xs

-- A write's two address bytes are taken. Its data bytes are taken where WEL is on; by status the first always and a second never;
-- outside all sections none.
abbrev pub takes_in_write : Bool → Area → List Sample → ℕ → Bool
takes_in_write wel area xs zero = true
takes_in_write wel area xs (suc zero) = true
takes_in_write wel area xs (suc (suc i)) = takes_data wel area (address area xs) (i == 0)

abbrev pub takes_after_slave : Bool → Option Area → List Sample → ℕ → Bool
takes_after_slave wel None xs k = false
takes_after_slave wel (Some area) xs k = takes_in_write wel area xs k

-- Byte k is taken: the slave byte where it is one of ours; in a write the bytes after it as above.
abbrev pub takes : Bool → List Sample → ℕ → Bool
takes wel xs zero = is_some (slave xs)
takes wel xs (suc k) = takes_after_slave wel (area_written (slave xs)) xs k

-- The module acknowledges byte k where it takes it and acknowledged all before; after a silence it stays silent.
abbrev pub acknowledges : Bool → List Sample → ℕ → Bool
acknowledges wel xs k = acknowledged k xs && takes wel xs k
