-- Numbers of a log.
use Rattle.std.specs.Prelude.{ℕ, ◌+◌, ◌-◌, ◌*◌, Bool, cond, ◌&&◌, List, [], ◌∷◌, length, Some, None, Option, nat_le, nat_lt}
use Rattle.std.specs.Str.{all_ascii_digits}

-- The value of digits after a number read so far.
abbrev pub value_after : ℕ → List ℕ → ℕ
value_after n [] = n
value_after n (c ∷ cs) = value_after (10 * n + (c - 48)) cs

abbrev pub value : List ℕ → ℕ
value word = value_after 0 word

-- The most digits that a number is written with, and the largest number.
abbrev pub most_digits : ℕ
most_digits = 5

abbrev pub largest : ℕ
largest = 65535

-- A number is written with one to five digits, and is at most 65,535.
abbrev pub is_number : List ℕ → Bool
is_number word =
    nat_lt 0 (length word) && (nat_le (length word) most_digits && (all_ascii_digits word && nat_le (value word) largest))

abbrev pub number : List ℕ → Option ℕ
number word = cond (is_number word) (Some (value word)) None
