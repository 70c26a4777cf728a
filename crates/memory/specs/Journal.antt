-- The journal: the memory that 32-bit words handed in and an allowance of erasures make.
use Rattle.std.specs.Prelude.{ℕ, ◌+◌, ◌-◌, ◌*◌, ◌/◌, ◌%◌, Bool, cond, ◌&&◌, ◌||◌, List, ◌++◌, map, length, take, drop, replicate, fold, ◌==◌, nat_le, nat_lt, slice_index, slice_set}
use Rattle.std.specs.List.{list_all, range_with_len, prefix_len}
use Rattle.memory.specs.Sizes.{array_places, places, byte_values, fewest_words, most_words, most_erasures, record_limit}
use Rattle.memory.specs.Model.{Mem}

-- A blank word is FFFFFFFFh.
abbrev pub blank : ℕ
blank = 0xFFFF_FFFF

-- A record of a byte at a place is the number place x 256 + byte.
abbrev pub record_word : ℕ → ℕ → ℕ
record_word place byte = place * byte_values + byte

-- A word is a record if it is below the limit, which is 256 for each place.
abbrev pub is_record : ℕ → Bool
is_record word = nat_lt word record_limit

-- A place without a record holds its factory byte: FFh in the array, 20h at registers 07h and 0Fh, else 00h.
abbrev pub factory : ℕ → ℕ
factory place =
    cond (nat_lt place array_places) 0xFF
    (cond (place == array_places + 0x07 || place == array_places + 0x0F) 0x20 0x00)

-- A record of the place replaces the byte that came before it.
abbrev pub replaced : ℕ → ℕ → ℕ → ℕ
replaced place byte word = cond (word / byte_values == place) (word % byte_values) byte

-- The last record of a place counts, read from the first on.
abbrev pub byte_at : List ℕ → ℕ → ℕ
byte_at records place = fold (replaced place) (factory place) records

-- The bytes that records give, at each place in rising order.
unfoldable pub bytes_of : List ℕ → List ℕ
bytes_of records = map (byte_at records) (range_with_len 0 places)

-- The words used are the records at the front.
abbrev pub used_words : List ℕ → ℕ
used_words words = prefix_len is_record words

abbrev pub records : List ℕ → List ℕ
records words = take (used_words words) words

-- Blanks only.
abbrev pub blanks : List ℕ → Bool
blanks words = list_all (λ word. word == blank) words

-- Records, then blanks only.
abbrev pub is_orderly : List ℕ → Bool
is_orderly words = blanks (drop (used_words words) words)

-- It is fit with 533 to 16,384 words, records then blanks only, and up to 100,000 erasures.
abbrev pub journal_fit : List ℕ → ℕ → Bool
journal_fit words erasures =
    nat_le fewest_words (length words) && (nat_le (length words) most_words && (nat_le erasures most_erasures && is_orderly words))

-- The life of a fit journal: the words left, and for each erasure the words that it wins.
abbrev pub journal_life : List ℕ → ℕ → ℕ
journal_life words erasures = (length words - used_words words) + erasures * (length words - places)

-- The memory that words and erasures make. An unfit journal takes no writes.
abbrev pub journal : List ℕ → ℕ → Mem
journal words erasures = record {
  fit = journal_fit words erasures;
  bytes = bytes_of (records words);
  life = cond (journal_fit words erasures) (journal_life words erasures) 0;
}

-- A journal is full when each word is a record.
abbrev pub full : List ℕ → Bool
full words = used_words words == length words

-- A record for each place, in rising order.
unfoldable pub records_of : List ℕ → List ℕ
records_of bytes = map (λ place. record_word place (slice_index bytes place)) (range_with_len 0 places)

-- The words after an erasure: a record of each byte as it was, and blanks after them.
abbrev pub laid_down : List ℕ → List ℕ
laid_down words = records_of (bytes_of (records words)) ++ replicate (length words - places) blank

-- A full journal is laid down anew, and that spends one erasure.
abbrev pub with_room : List ℕ → List ℕ
with_room words = cond (full words) (laid_down words) words

abbrev pub erasures_after : List ℕ → ℕ → ℕ
erasures_after words erasures = cond (full words) (erasures - 1) erasures

-- The words after a write: there is room, and then its record follows the others.
abbrev pub words_after : List ℕ → ℕ → ℕ → List ℕ
words_after words place byte = slice_set (with_room words) (used_words (with_room words)) (record_word place byte)
