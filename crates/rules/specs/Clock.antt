-- The clock: the divider, second marks, dates taken over, and the date shown.
use Rattle.std.specs.Prelude.{ℕ, ◌+◌, ◌%◌, Bool, true, false, not, ◌&&◌, List, is_some, Some, None, Option, ◌==◌}
use Rattle.std.specs.Option.{unwrap_or}
use Rattle.calendar.specs.Clock.{start_date}
use Rattle.calendar.specs.Next.{after}
use Rattle.calendar.specs.declared.clock.Clock.{Clock}
use Rattle.chip.specs.Sizes.{second}
use Rattle.rules.specs.Past.{History, Moment, moments, latest, since, any_of, count_of, is_tick, loses_supply, clock_write}
use Rattle.rules.specs.Wires.{supplied}

-- The moments since all supply was last away.
abbrev pub since_supply : History → List Moment
since_supply h = since (λ m. loses_supply m.entry.event) (moments h)

-- A tick while supplied.
abbrev pub counts : Moment → Bool
counts m = elim (is_tick m.entry.event) [ true ↦ supplied m.before | false ↦ false ]

-- The ticks while supplied since all supply was last away.
abbrev pub ticks : History → ℕ
ticks h = count_of counts (since_supply h)

-- The divider counts them, and begins anew at each full second.
abbrev pub divider : History → ℕ
divider h = ticks h % second

-- RTCF is on until a clock write passes, and again after supply was away: then the clock stands.
abbrev pub rtcf : History → Bool
rtcf h = not (any_of (λ m. is_some (clock_write m.entry.outcome)) (since_supply h))

-- A second mark: the tick that completes 32,768 with RTCF off.
abbrev pub is_mark : Moment → Bool
is_mark m =
    elim (counts m) [
      | true ↦ ((divider m.before + 1) % second == 0) && not (rtcf m.before)
      | false ↦ false
    ]

-- The bytes that wait: those of the last clock write that passed, unless a mark has come since.
abbrev pub waiting : History → Option Clock
waiting h = latest (λ m. clock_write m.entry.outcome) (since is_mark (since_supply h))

-- The date taken over: the bytes that wait, at a mark; the start date where supply goes away.
abbrev pub taken_at : Moment → Option Clock
taken_at m =
    elim (loses_supply m.entry.event) [
      | true ↦ Some start_date
      | false ↦ elim (is_mark m) [ true ↦ waiting m.before | false ↦ None ]
    ]

-- The date taken over last; the start date at first.
abbrev pub taken_over : History → Clock
taken_over h = unwrap_or (latest taken_at (moments h)) start_date

-- The second marks since then.
abbrev pub marks_since : History → ℕ
marks_since h = count_of is_mark (since (λ m. is_some (taken_at m)) (moments h))

-- The date shown: the one taken over last, and one second more for each mark since.
abbrev pub clock : History → Clock
clock h = after (taken_over h) (marks_since h)
