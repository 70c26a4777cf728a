-- The array's pages, and how an address moves inside its page or across the array.
use Rattle.std.specs.Prelude.{ℕ, ◌+◌, ◌*◌, ◌/◌, ◌%◌}
use Rattle.chip.specs.Sizes.{array_length, page_length}

-- The first address of the page that an address lies in.
abbrev pub page_first : ℕ → ℕ
page_first a = a / page_length * page_length

-- One address on inside its page; after the page's last comes its first.
abbrev pub next_in_page : ℕ → ℕ
next_in_page a = page_first a + (a % page_length + 1) % page_length

-- One address on across the whole array; after the last comes 0.
abbrev pub next_in_array : ℕ → ℕ
next_in_array a = (a % array_length + 1) % array_length
