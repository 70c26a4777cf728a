-- Leap years, and the days before a year and before a month. Assumes nothing.
use Rattle.std.specs.Prelude.{ℕ, zero, suc, ◌+◌, ◌-◌, ◌%◌, Bool, cond, ◌&&◌, ◌||◌, ◌==◌, nat_le}

-- A year that 4 divides is a leap year, but the first of a century only where 400 divides it.
abbrev pub leap_year : ℕ → Bool
leap_year year = cond (year % 100 == 0) (year % 400 == 0) (year % 4 == 0)

-- A leap year has 366 days, any other 365.
abbrev pub year_length : ℕ → ℕ
year_length year = cond (leap_year year) 366 365

-- The months of a year: 1 to 12.
abbrev pub in_year : ℕ → Bool
in_year month = nat_le 1 month && nat_le month 12

-- February has 28 days, in a leap year 29; April, June, September and November have 30, the others 31; a month that is none has 0.
abbrev pub month_length : Bool → ℕ → ℕ
month_length leap month =
    cond (month == 2) (cond leap 29 28)
    (cond (month == 4 || (month == 6 || (month == 9 || month == 11))) 30 (cond (in_year month) 31 0))

-- f 0 + f 1 + .. + f (n - 1)
unfoldable pub sum_below : (ℕ → ℕ) → ℕ → ℕ
sum_below f zero = 0
sum_below f (suc n) = sum_below f n + f n

-- The years of the table: 1900 to 2099.
abbrev pub in_table : ℕ → Bool
in_table year = nat_le 1900 year && nat_le year 2099

-- The length of the year k years after 1900, and of the month k months after January.
abbrev pub year_length_after : ℕ → ℕ
year_length_after k = year_length (1900 + k)

abbrev pub month_length_after : Bool → ℕ → ℕ
month_length_after leap k = month_length leap (k + 1)

-- The days from 1 January 1900 to 1 January of a year.
abbrev pub days_before_year : ℕ → ℕ
days_before_year year = sum_below year_length_after (year - 1900)

-- The days from 1 January to the first of a month.
abbrev pub days_before_month : Bool → ℕ → ℕ
days_before_month leap month = sum_below (month_length_after leap) (month - 1)
