-- Two decimal digits, and the byte that holds them. Assumes nothing.
use Rattle.std.specs.Prelude.{◌≡◌, ℕ, ◌+◌, ◌*◌, ◌/◌, ◌%◌, ◌≤◌, Bool, ◌&&◌, nat_le, nat_lt}
use Rattle.calendar.specs.declared.digits.Digits.{Digits}

-- The digits of n: ten times the tens plus the units gives n back, both are at most 9, and no other two digits do so.
pub record AreDigits (n : ℕ) (d : Digits) : Type 0 where
  pub back : 10 * d.tens + d.units ≡ n
  pub tens_digit : d.tens ≤ 9
  pub units_digit : d.units ≤ 9
  pub no_other : (tens units : ℕ) → tens ≤ 9 → units ≤ 9 → 10 * tens + units ≡ n → (tens ≡ d.tens) × (units ≡ d.units)

-- The count that a byte of two digits stands for: ten times its high four bits plus its low four.
abbrev pub count_of : ℕ → ℕ
count_of byte = 10 * (byte / 16) + byte % 16

-- The byte that holds the last two digits of n.
abbrev pub bcd_of : ℕ → ℕ
bcd_of n = 16 * (n / 10 % 10) + n % 10

-- A byte holds two digits, and their count lies from low to high (which is at most 99).
abbrev pub in_range : ℕ → ℕ → ℕ → Bool
in_range byte low high = nat_lt (byte % 16) 10 && (nat_le low (count_of byte) && nat_le (count_of byte) high)
