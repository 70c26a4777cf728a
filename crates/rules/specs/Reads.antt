-- Reads: the byte that the module sends, and when it pulls SDA.
use Rattle.std.specs.Prelude.{ℕ, ◌-◌, ◌/◌, ◌%◌, Bool, true, false, List, length, Some, None, Option, ◌==◌}
use Rattle.std.specs.Option.{unwrap_or}
use Rattle.memory.specs.Model.{Mem}
use Rattle.calendar.specs.Clock.{byte_of}
use Rattle.chip.specs.Bits.{is_zero_bit}
use Rattle.chip.specs.Places.{place_of}
use Rattle.chip.specs.Sizes.{register_space, clock_base}
use Rattle.chip.specs.Status.{status_byte}
use Rattle.chip.specs.Registers.{section_of}
use Rattle.chip.specs.declared.calls.Supply.{Supply}
use Rattle.chip.specs.declared.calls.Supply.TheVariants.{Off, Main, Battery}
use Rattle.chip.specs.declared.registers.Section.{Section}
use Rattle.chip.specs.declared.registers.Section.TheVariants.{Alarm0, Alarm1, Control, Clock, Status}
use Rattle.chip.specs.declared.slaves.Area.{Area}
use Rattle.chip.specs.declared.slaves.Area.TheVariants.{Array, Registers}
use Rattle.rules.specs.Past.{History, moments, latest, since, is_start}
use Rattle.rules.specs.Wires.{supply}
use Rattle.rules.specs.Frames.{Sample, in_frame, sampled, slave, area_read, acknowledges}
use Rattle.rules.specs.Stored.{stored}
use Rattle.rules.specs.Latches.{wel, rwel}
use Rattle.rules.specs.Clock.{rtcf, clock}
use Rattle.rules.specs.Counter.{counter, sends_byte}
use Rattle.rules.specs.Alarms.{flag, copies}

abbrev pub is_battery : Supply → Bool
is_battery Off = false
is_battery Main = false
is_battery Battery = true

-- Status as it stands. BAT is on exactly on battery.
abbrev pub status : Mem → History → ℕ
status was h =
    status_byte
    (record {
      bat = is_battery (supply h);
      al1 = flag was Alarm1 h;
      al0 = flag was Alarm0 h;
      rwel = rwel h;
      wel = wel h;
      rtcf = rtcf h;
    })

-- The history at the fall that ended the slave byte's acknowledge, where a read copies clock and status; at that fall, the present one.
abbrev pub copied : History → History
copied h =
    unwrap_or
    (latest (λ m. elim (copies m) [ true ↦ Some m.before | false ↦ None ]) (since (λ m. is_start m.entry.edge) (moments h)))
    h

-- A register's byte: as stored; of the clock and of status as copied; 00h at an empty address.
abbrev pub register_sent : Mem → History → Option Section → ℕ → ℕ
register_sent was h None r = 0
register_sent was h (Some Alarm0) r = stored was h (place_of Registers r)
register_sent was h (Some Alarm1) r = stored was h (place_of Registers r)
register_sent was h (Some Control) r = stored was h (place_of Registers r)
register_sent was h (Some Clock) r = byte_of (clock (copied h)) (r - clock_base)
register_sent was h (Some Status) r = status was (copied h)

-- The byte that a read sends: the one at the counter; registers are read at the counter modulo 64.
abbrev pub byte_sent : Mem → History → Area → ℕ
byte_sent was h Array = stored was h (counter h)
byte_sent was h Registers = register_sent was h (section_of (counter h % register_space)) (counter h % register_space)

-- In a read the module pulls for a bit that is 0.
abbrev pub sends_zero : Mem → History → Option Area → List Sample → Bool
sends_zero was h None xs = false
sends_zero was h (Some area) xs =
    elim (sends_byte area (counter h) xs (length xs / 9)) [
      | true ↦ is_zero_bit (byte_sent was h area) (length xs % 9)
      | false ↦ false
    ]

-- What the module does with SDA from a fall on: after the eighth bit of a byte it pulls where it acknowledges the byte, else it pulls
-- where it sends a 0.
abbrev pub pulls_from_fall : Mem → History → List Sample → Bool
pulls_from_fall was h xs =
    elim (length xs % 9 == 8) [
      | true ↦ acknowledges (wel h) xs (length xs / 9)
      | false ↦ sends_zero was h (area_read (slave xs)) xs
    ]

-- The same, and nothing outside a frame.
abbrev pub pull_at_fall : Mem → History → Bool
pull_at_fall was h = elim (in_frame h) [ true ↦ pulls_from_fall was h (sampled h) | false ↦ false ]
