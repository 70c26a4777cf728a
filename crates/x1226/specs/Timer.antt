-- What a tick does.
use Rattle.std.specs.Prelude.{ℕ, ◌+◌, ◌-◌, Bool, true, false, cond, not, ◌&&◌, ◌||◌, None, nat_lt, slice_index}
use Rattle.std.specs.Option.{unwrap_or}
use Rattle.memory.specs.Model.{Mem}
use Rattle.calendar.specs.Alarm.{matches}
use Rattle.calendar.specs.Next.{next}
use Rattle.calendar.specs.declared.alarm.Alarm.{Alarm}
use Rattle.calendar.specs.declared.clock.Clock.{Clock}
use Rattle.chip.specs.Places.{place_of}
use Rattle.chip.specs.Registers.{first_of}
use Rattle.chip.specs.Sizes.{second}
use Rattle.chip.specs.declared.calls.Supply.{Supply}
use Rattle.chip.specs.declared.calls.Supply.TheVariants.{Off, Main, Battery}
use Rattle.chip.specs.declared.registers.Section.{Section}
use Rattle.chip.specs.declared.registers.Section.TheVariants.{Alarm0, Alarm1}
use Rattle.chip.specs.declared.slaves.Area.TheVariants.{Registers}
use Rattle.x1226.specs.declared.state.Timer.{Timer}
use Rattle.x1226.specs.declared.state.Alarms.{Alarms}
use Rattle.x1226.specs.declared.state.State.{State}
use Rattle.x1226.specs.State.{with_cycle, with_timer, with_flags, with_copies}

-- The divider counts a tick, and begins anew at a full second.
abbrev pub divider_after : ℕ → ℕ
divider_after d = cond (nat_lt (d + 1) second) (d + 1) 0

-- The tick completes a second.
abbrev pub completes : ℕ → Bool
completes d = not (nat_lt (d + 1) second)

-- A second mark: the bytes that wait are taken over, else one second passes.
abbrev pub marked : Timer → Timer
marked t =
    record { rtcf = t.rtcf; divider = divider_after t.divider; clock = unwrap_or t.waiting (next t.clock); waiting = None }

-- A tick that is no mark.
abbrev pub counted : Timer → Timer
counted t = record { rtcf = t.rtcf; divider = divider_after t.divider; clock = t.clock; waiting = t.waiting }

abbrev pub alarm_byte : Mem → Section → ℕ → ℕ
alarm_byte m s k = slice_index m.bytes (place_of Registers (first_of s + k))

-- The eight bytes of an alarm, as stored.
abbrev pub alarm : Mem → Section → Alarm
alarm m s =
    record {
      bytes =
          record {
            seconds = alarm_byte m s 0;
            minutes = alarm_byte m s 1;
            hours = alarm_byte m s 2;
            date = alarm_byte m s 3;
            month = alarm_byte m s 4;
            year = alarm_byte m s 5;
            weekday = alarm_byte m s 6;
            century = alarm_byte m s 7;
          };
    }

-- The alarms that match a date shown.
abbrev pub matching : Mem → Clock → Alarms
matching m c = record { first = matches (alarm m Alarm0) c; second = matches (alarm m Alarm1) c }

-- What was on, and what came.
abbrev pub joined : Alarms → Alarms → Alarms
joined a b = record { first = a.first || b.first; second = a.second || b.second }

-- After a mark the alarms are looked at.
abbrev pub noted : State → Mem → State
noted s m =
    with_flags (joined s.flags (matching m s.timer.clock))
    (with_copies
    (record { clock = s.copies.clock; status = s.copies.status; matched = joined s.copies.matched (matching m s.timer.clock) })
    s)

abbrev pub timed : State → Mem → State
timed s m =
    cond (completes s.timer.divider && not s.timer.rtcf)
    (noted (with_timer (marked s.timer) s) m)
    (with_timer (counted s.timer) s)

abbrev pub is_supplied : Supply → Bool
is_supplied Off = false
is_supplied Main = true
is_supplied Battery = true

-- A tick: one less of the write cycle; the divider counts while supplied.
abbrev pub ticked : State → Mem → State
ticked s m =
    cond (is_supplied s.supply) (timed (with_cycle (s.cycle - 1) s) m) s
