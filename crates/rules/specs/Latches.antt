-- The two latches, WEL and RWEL.
use Rattle.std.specs.Prelude.{Bool, true, false, cond, Some, None, Option, ◌==◌}
use Rattle.std.specs.Option.{unwrap_or}
use Rattle.chip.specs.declared.slaves.Area.{Area}
use Rattle.chip.specs.declared.slaves.Area.TheVariants.{Array, Registers}
use Rattle.rules.specs.Past.{History, Outcome, Idle, Refused, Stored, Waits, Status, latest}
use Rattle.rules.specs.Wires.{on_main, since_main}

-- 02h puts WEL on, 00h puts it off; no other byte touches it.
abbrev pub sets_wel : Outcome → Option Bool
sets_wel Idle = None
sets_wel (Refused r) = None
sets_wel (Stored w) = None
sets_wel (Waits c) = None
sets_wel (Status b) = cond (b == 0x02) (Some true) (cond (b == 0x00) (Some false) None)

-- WEL is on when, of the status writes 00h and 02h since main supply came on, the last is 02h.
abbrev pub wel : History → Bool
wel h = elim (on_main h) [ true ↦ unwrap_or (latest (λ m. sets_wel m.entry.outcome) (since_main h)) false | false ↦ false ]

-- A passed register write puts RWEL off; an array write leaves it.
abbrev pub write_sets_rwel : Area → Option Bool
write_sets_rwel Array = None
write_sets_rwel Registers = Some false

-- 00h and 02h put RWEL off; 06h puts it on where WEL is on; a passed register or clock write puts it off.
abbrev pub sets_rwel : Outcome → Bool → Option Bool
sets_rwel Idle wel_on = None
sets_rwel (Refused r) wel_on = None
sets_rwel (Stored w) wel_on = write_sets_rwel w.area
sets_rwel (Waits c) wel_on = Some false
sets_rwel (Status b) wel_on =
    cond (b == 0x00) (Some false) (cond (b == 0x02) (Some false) (cond (b == 0x06) (cond wel_on (Some true) None) None))

-- RWEL is on when, of 00h, 02h, a 06h with WEL on, and passed register or clock writes in that time, the last is a 06h.
abbrev pub rwel : History → Bool
rwel h =
    elim (on_main h) [
      | true ↦ unwrap_or (latest (λ m. sets_rwel m.entry.outcome (wel m.before)) (since_main h)) false
      | false ↦ false
    ]
