-- Alarms: what matches at a second mark, the two flags, and what a status read clears.
use Rattle.std.specs.Prelude.{ℕ, ◌+◌, Bool, true, false, ◌&&◌, List, ◌∷◌, length, Some, None, Option, ◌==◌, nat_eq}
use Rattle.std.specs.Option.{unwrap_or}
use Rattle.memory.specs.Model.{Mem}
use Rattle.calendar.specs.Alarm.{matches}
use Rattle.calendar.specs.declared.alarm.Alarm.{Alarm}
use Rattle.chip.specs.Counter.{at_status}
use Rattle.chip.specs.Places.{place_of}
use Rattle.chip.specs.Registers.{first_of}
use Rattle.chip.specs.declared.registers.Section.{Section}
use Rattle.chip.specs.declared.slaves.Area.{Area}
use Rattle.chip.specs.declared.slaves.Area.TheVariants.{Registers}
use Rattle.rules.specs.Past.{History, Moment, moments, latest, since, any_of, is_fall, loses_supply}
use Rattle.rules.specs.Frames.{Sample, in_frame, sampled, slave, area_read}
use Rattle.rules.specs.Stored.{stored}
use Rattle.rules.specs.Clock.{is_mark, clock}
use Rattle.rules.specs.Counter.{counter, sends_byte}

-- Register k of an alarm's section, as stored.
abbrev pub alarm_byte : Mem → History → Section → ℕ → ℕ
alarm_byte was h s k = stored was h (place_of Registers (first_of s + k))

-- An alarm: the eight bytes stored in its section.
abbrev pub alarm : Mem → History → Section → Alarm
alarm was h s =
    record {
      bytes =
          record {
            seconds = alarm_byte was h s 0;
            minutes = alarm_byte was h s 1;
            hours = alarm_byte was h s 2;
            date = alarm_byte was h s 3;
            month = alarm_byte was h s 4;
            year = alarm_byte was h s 5;
            weekday = alarm_byte was h s 6;
            century = alarm_byte was h s 7;
          };
    }

-- An alarm matches at a second mark, against the date shown after it.
abbrev pub matched : Mem → Section → Moment → Bool
matched was s m =
    elim (is_mark m) [
      | true ↦ matches (alarm was m.before s) (clock (m.entry ∷ m.before))
      | false ↦ false
    ]

-- The fall that ends the slave byte's acknowledge: a read copies clock and status here.
abbrev pub copies : Moment → Bool
copies m = elim (is_fall m.entry.edge) [ true ↦ nat_eq (length (sampled m.before)) 9 | false ↦ false ]

-- The alarm matched since the copy.
abbrev pub matched_since_copy : Mem → Section → History → Bool
matched_since_copy was s h = any_of (matched was s) (since copies (moments h))

abbrev pub sends_status : Option Area → List Sample → ℕ → Bool
sends_status None xs c = false
sends_status (Some area) xs c = at_status area c && sends_byte area c xs 1

-- The fall after the eighth bit of a status byte sent.
abbrev pub status_sent : Moment → Bool
status_sent m =
    elim (is_fall m.entry.edge && in_frame m.before) [
      | true ↦
          elim (length (sampled m.before) == 17) [
            | true ↦ sends_status (area_read (slave (sampled m.before))) (sampled m.before) (counter m.before)
            | false ↦ false
          ]
      | false ↦ false
    ]

-- What a moment makes of an alarm's flag. A match puts it on. A status byte sent clears it where the read copied it and it was not
-- matched again since; so it is on then exactly if it matched since the copy. Without supply it is off.
abbrev pub sets_flag : Mem → Section → Moment → Option Bool
sets_flag was s m =
    elim (loses_supply m.entry.event) [
      | true ↦ Some false
      | false ↦
          elim (status_sent m) [
            | true ↦ Some (matched_since_copy was s m.before)
            | false ↦ elim (matched was s m) [ true ↦ Some true | false ↦ None ]
          ]
    ]

-- Whether an alarm's flag is on.
abbrev pub flag : Mem → Section → History → Bool
flag was s h = unwrap_or (latest (sets_flag was s) (moments h)) false
