-- When an alarm matches the clock. Assumes nothing.
use Rattle.std.specs.Prelude.{ℕ, Bool, not, ◌&&◌, ◌||◌, List, [], ◌∷◌, ◌==◌, bit_and}
use Rattle.calendar.specs.declared.alarm.Alarm.{Alarm}
use Rattle.calendar.specs.declared.alarm.Compared.{Compared}
use Rattle.calendar.specs.declared.clock.Clock.{Clock}
use Rattle.calendar.specs.Clock.{unlisted}

-- Eight bytes in the order of the clock's: seconds, minutes, hours, date, month, year, weekday, century.
abbrev pub alarm_of : List ℕ → Alarm
alarm_of bytes = record { bytes = unlisted bytes }

-- Bit 7 of an alarm's byte is its enable bit.
abbrev pub enabled : ℕ → Bool
enabled byte = not (bit_and byte 0x80 == 0)

-- The byte is not enabled, or equals the clock's in the bits of the mask.
abbrev pub agrees : ℕ → ℕ → ℕ → Bool
agrees mask byte shown = not (enabled byte) || bit_and byte mask == bit_and shown mask

-- An alarm's byte, the clock's, and the mask of the bits that are compared.
abbrev pub pair : ℕ → ℕ → ℕ → Compared
pair byte shown mask = record { byte = byte; shown = shown; mask = mask }

-- The bytes that are compared: seconds, minutes, hours (bits 5-0), date, month and weekday, in bits 6-0.
abbrev pub compared : Alarm → Clock → List Compared
compared a c =
    pair a.bytes.seconds c.seconds 0x7f
    ∷ pair a.bytes.minutes c.minutes 0x7f
    ∷ pair a.bytes.hours c.hours 0x3f
    ∷ pair a.bytes.date c.date 0x7f
    ∷ pair a.bytes.month c.month 0x7f
    ∷ pair a.bytes.weekday c.weekday 0x7f
    ∷ []

-- One of seconds, minutes, hours, date, month and weekday has its enable bit.
abbrev pub some_enabled : Alarm → Bool
some_enabled a =
    enabled a.bytes.seconds || (enabled a.bytes.minutes || (enabled a.bytes.hours || (enabled a.bytes.date || (enabled a.bytes.month || enabled a.bytes.weekday))))

-- Every enabled one of seconds, minutes, hours (bits 5-0), date, month and weekday equals the clock in bits 6-0.
abbrev pub all_agree : Alarm → Clock → Bool
all_agree a c =
    agrees 0x7f a.bytes.seconds c.seconds
    && (agrees 0x7f a.bytes.minutes c.minutes
    && (agrees 0x3f a.bytes.hours c.hours
    && (agrees 0x7f a.bytes.date c.date
    && (agrees 0x7f a.bytes.month c.month
    && agrees 0x7f a.bytes.weekday c.weekday))))

-- An alarm with an enable bit matches if every enabled byte equals the clock's.
unfoldable pub matches : Alarm → Clock → Bool
matches a c = some_enabled a && all_agree a c
