-- The state after making, and one field changed at a time.
use Rattle.std.specs.Prelude.{ℕ, true, false, List, replicate, None, Option}
use Rattle.calendar.specs.Clock.{start_date}
use Rattle.chip.specs.declared.calls.Supply.{Supply}
use Rattle.chip.specs.declared.calls.Supply.TheVariants.{Off}
use Rattle.chip.specs.declared.slaves.Area.{Area}
use Rattle.chip.specs.declared.slaves.Area.TheVariants.{Array}
use Rattle.chip.specs.declared.wires.Levels.{Levels}
use Rattle.x1226.specs.declared.state.Phase.{Phase}
use Rattle.x1226.specs.declared.state.Phase.TheVariants.{Deaf}
use Rattle.x1226.specs.declared.state.Latches.{Latches}
use Rattle.x1226.specs.declared.state.Staging.{Staging}
use Rattle.x1226.specs.declared.state.Timer.{Timer}
use Rattle.x1226.specs.declared.state.Alarms.{Alarms}
use Rattle.x1226.specs.declared.state.Copies.{Copies}
use Rattle.x1226.specs.declared.state.State.{State}

-- Nothing staged. (Shut, since a list of 64 is long to compute with.)
unfoldable pub empty_places : List (Option ℕ)
empty_places = replicate 64 None

abbrev pub nothing_staged : Staging
nothing_staged = record { address = 0; held = empty_places }

abbrev pub latches_off : Latches
latches_off = record { wel = false; rwel = false }

abbrev pub no_alarms : Alarms
no_alarms = record { first = false; second = false }

abbrev pub nothing_copied : Copies
nothing_copied = record { clock = start_date; status = 0; matched = no_alarms }

-- RTCF on, divider 0, the start date, nothing waiting.
abbrev pub timer_at_start : Timer
timer_at_start = record { rtcf = true; divider = 0; clock = start_date; waiting = None }

-- Without supply, under the levels that are remembered: all else as after making.
abbrev pub unsupplied : Levels → State
unsupplied levels =
    record {
      levels = levels;
      supply = Off;
      phase = Deaf;
      area = Array;
      high = 0;
      counter = 0;
      staging = nothing_staged;
      latches = latches_off;
      cycle = 0;
      timer = timer_at_start;
      flags = no_alarms;
      copies = nothing_copied;
    }

-- After making both levels are high.
abbrev pub made : State
made = unsupplied (record { scl = true; sda = true })

abbrev pub with_levels : Levels → State → State
with_levels v s = record { levels = v; supply = s.supply; phase = s.phase; area = s.area; high = s.high; counter = s.counter; staging = s.staging; latches = s.latches; cycle = s.cycle; timer = s.timer; flags = s.flags; copies = s.copies }

abbrev pub with_supply : Supply → State → State
with_supply v s = record { levels = s.levels; supply = v; phase = s.phase; area = s.area; high = s.high; counter = s.counter; staging = s.staging; latches = s.latches; cycle = s.cycle; timer = s.timer; flags = s.flags; copies = s.copies }

abbrev pub with_phase : Phase → State → State
with_phase v s = record { levels = s.levels; supply = s.supply; phase = v; area = s.area; high = s.high; counter = s.counter; staging = s.staging; latches = s.latches; cycle = s.cycle; timer = s.timer; flags = s.flags; copies = s.copies }

abbrev pub with_area : Area → State → State
with_area v s = record { levels = s.levels; supply = s.supply; phase = s.phase; area = v; high = s.high; counter = s.counter; staging = s.staging; latches = s.latches; cycle = s.cycle; timer = s.timer; flags = s.flags; copies = s.copies }

abbrev pub with_high : ℕ → State → State
with_high v s = record { levels = s.levels; supply = s.supply; phase = s.phase; area = s.area; high = v; counter = s.counter; staging = s.staging; latches = s.latches; cycle = s.cycle; timer = s.timer; flags = s.flags; copies = s.copies }

abbrev pub with_counter : ℕ → State → State
with_counter v s = record { levels = s.levels; supply = s.supply; phase = s.phase; area = s.area; high = s.high; counter = v; staging = s.staging; latches = s.latches; cycle = s.cycle; timer = s.timer; flags = s.flags; copies = s.copies }

abbrev pub with_staging : Staging → State → State
with_staging v s = record { levels = s.levels; supply = s.supply; phase = s.phase; area = s.area; high = s.high; counter = s.counter; staging = v; latches = s.latches; cycle = s.cycle; timer = s.timer; flags = s.flags; copies = s.copies }

abbrev pub with_latches : Latches → State → State
with_latches v s = record { levels = s.levels; supply = s.supply; phase = s.phase; area = s.area; high = s.high; counter = s.counter; staging = s.staging; latches = v; cycle = s.cycle; timer = s.timer; flags = s.flags; copies = s.copies }

abbrev pub with_cycle : ℕ → State → State
with_cycle v s = record { levels = s.levels; supply = s.supply; phase = s.phase; area = s.area; high = s.high; counter = s.counter; staging = s.staging; latches = s.latches; cycle = v; timer = s.timer; flags = s.flags; copies = s.copies }

abbrev pub with_timer : Timer → State → State
with_timer v s = record { levels = s.levels; supply = s.supply; phase = s.phase; area = s.area; high = s.high; counter = s.counter; staging = s.staging; latches = s.latches; cycle = s.cycle; timer = v; flags = s.flags; copies = s.copies }

abbrev pub with_flags : Alarms → State → State
with_flags v s = record { levels = s.levels; supply = s.supply; phase = s.phase; area = s.area; high = s.high; counter = s.counter; staging = s.staging; latches = s.latches; cycle = s.cycle; timer = s.timer; flags = v; copies = s.copies }

abbrev pub with_copies : Copies → State → State
with_copies v s = record { levels = s.levels; supply = s.supply; phase = s.phase; area = s.area; high = s.high; counter = s.counter; staging = s.staging; latches = s.latches; cycle = s.cycle; timer = s.timer; flags = s.flags; copies = v }
