-- How many places a memory has, and the limits of the two memories of this crate.
use Rattle.std.specs.Prelude.{ℕ, ◌+◌, ◌*◌}

-- The places of the array come first, from 0 on.
abbrev pub array_places : ℕ
array_places = 512

-- All places: those of the array, then one for each register from 00h on.
abbrev pub places : ℕ
places = 532

-- The values that a byte can have.
abbrev pub byte_values : ℕ
byte_values = 256

-- The most writes that a byte image may be allowed.
abbrev pub most_writes : ℕ
most_writes = 1000000000

-- The fewest words of a journal: a record for each place, and one word more.
abbrev pub fewest_words : ℕ
fewest_words = places + 1

-- The most words of a journal.
abbrev pub most_words : ℕ
most_words = 16384

-- The most erasures that a journal may be allowed.
abbrev pub most_erasures : ℕ
most_erasures = 100000

-- A record is below this number.
abbrev pub record_limit : ℕ
record_limit = places * byte_values
