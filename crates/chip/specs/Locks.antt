-- The lock: which addresses of the array BL's top three bits close to writes.
use Rattle.std.specs.Prelude.{ℕ, ◌/◌, Bool, cond, ◌&&◌, ◌==◌, nat_le, nat_lt}
use Rattle.std.specs.declared.ops.Range.{Range}
use Rattle.chip.specs.Sizes.{array_length}

-- What the top three bits lock: 000 nothing; 001 180h-1FFh; 010 100h-1FFh; 011 and 111 all;
-- 100 000h-03Fh; 101 000h-07Fh; 110 000h-0FFh.
abbrev pub stretch_by : ℕ → Range ℕ
stretch_by code =
    cond (code == 0) (record { start = 0; end = 0 })
    (cond (code == 1) (record { start = 0x180; end = array_length })
    (cond (code == 2) (record { start = 0x100; end = array_length })
    (cond (code == 4) (record { start = 0; end = 0x040 })
    (cond (code == 5) (record { start = 0; end = 0x080 })
    (cond (code == 6) (record { start = 0; end = 0x100 })
    (record { start = 0; end = array_length }))))))

-- The stretch that a BL byte locks.
abbrev pub stretch_of : ℕ → Range ℕ
stretch_of bl = stretch_by (bl / 32)

-- An address is locked when it lies in that stretch.
abbrev pub is_locked : ℕ → ℕ → Bool
is_locked bl a = nat_le (stretch_of bl).start a && nat_lt a (stretch_of bl).end
