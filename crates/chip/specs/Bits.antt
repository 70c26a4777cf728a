-- The bits of a byte in the order in which they are sent: the highest first.
use Rattle.std.specs.Prelude.{ℕ, ◌+◌, ◌*◌, ◌/◌, ◌%◌, Bool, cond, ◌==◌}

-- What bit j of a byte is worth, counted from the highest.
abbrev pub weight : ℕ → ℕ
weight j =
    cond (j == 0) 128 (cond (j == 1) 64 (cond (j == 2) 32 (cond (j == 3) 16
    (cond (j == 4) 8 (cond (j == 5) 4 (cond (j == 6) 2 1))))))

-- Bit j of a byte, counted from the highest, is 0.
abbrev pub is_zero_bit : ℕ → ℕ → Bool
is_zero_bit b j = b / weight j % 2 == 0

-- A byte with one bit more at its low end; the highest bit falls out.
abbrev pub shifted : ℕ → Bool → ℕ
shifted b level = b % 128 * 2 + cond level 1 0
