-- The status register.
use Rattle.std.specs.Prelude.{ℕ, ◌+◌, Bool, cond}
use Rattle.chip.specs.declared.status.Status.{Status}

-- A bit's weight where it is on, else 0.
abbrev pub weighing : ℕ → Bool → ℕ
weighing n b = cond b n 0

-- The status byte: BAT, AL1, AL0, 0, 0, RWEL, WEL, RTCF, from bit 7 down.
abbrev pub status_byte : Status → ℕ
status_byte s =
    weighing 128 s.bat + weighing 64 s.al1 + weighing 32 s.al0
    + weighing 4 s.rwel + weighing 2 s.wel + weighing 1 s.rtcf
