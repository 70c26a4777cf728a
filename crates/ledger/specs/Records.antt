-- How a tare and a weighing lie in bytes, highest byte first.
use Rattle.std.specs.Prelude.{ℕ, ◌+◌, ◌*◌, ◌/◌, ◌%◌, cond, List, [], ◌∷◌, Some, None, Option, ◌==◌, slice_index}
use Rattle.calendar.specs.declared.clock.Clock.{Clock}
use Rattle.ledger.specs.declared.records.Stamp.{Stamp}
use Rattle.ledger.specs.declared.records.Tare.{Tare}
use Rattle.ledger.specs.declared.records.Weighing.{Weighing}

-- The first byte of a record that is there. A factory byte, or the byte of a billed weighing, is another.
abbrev pub present : ℕ
present = 0xA5

-- The first byte of a weighing that is billed.
abbrev pub billed : ℕ
billed = 0x00

-- A tare: the mark, three bytes of 00h, and the weight.
abbrev pub tare_bytes : Tare → List ℕ
tare_bytes t =
    present ∷ 0 ∷ 0 ∷ 0
    ∷ (t.weight / 16777216 % 256) ∷ (t.weight / 65536 % 256) ∷ (t.weight / 256 % 256) ∷ (t.weight % 256) ∷ []

-- The tare that eight bytes hold, if their mark says that there is one.
abbrev pub tare_of : List ℕ → Option Tare
tare_of bytes =
    cond (slice_index bytes 0 == present)
    (Some (record { weight = slice_index bytes 4 * 16777216 + slice_index bytes 5 * 65536 + slice_index bytes 6 * 256 + slice_index bytes 7 }))
    None

-- The eight clock bytes, one for one.
abbrev pub stamp_from : Clock → Stamp
stamp_from c = record { clock = c }

abbrev pub clock_from : Stamp → Clock
clock_from s = s.clock

-- The time of a weighing: the eight clock bytes, seconds first.
abbrev pub stamp_of : List ℕ → Stamp
stamp_of bytes = stamp_from (record {
  seconds = slice_index bytes 8;
  minutes = slice_index bytes 9;
  hours = slice_index bytes 10;
  date = slice_index bytes 11;
  month = slice_index bytes 12;
  year = slice_index bytes 13;
  weekday = slice_index bytes 14;
  century = slice_index bytes 15;
})

-- A weighing: the mark, a byte of 00h, the truck, the gross weight, and the time.
abbrev pub weighing_bytes : Weighing → List ℕ
weighing_bytes w =
    let clock = clock_from w.stamp in
    present ∷ 0 ∷ (w.truck / 256 % 256) ∷ (w.truck % 256)
    ∷ (w.gross / 16777216 % 256) ∷ (w.gross / 65536 % 256) ∷ (w.gross / 256 % 256) ∷ (w.gross % 256)
    ∷ clock.seconds ∷ clock.minutes ∷ clock.hours ∷ clock.date
    ∷ clock.month ∷ clock.year ∷ clock.weekday ∷ clock.century ∷ []

-- The weighing that sixteen bytes hold, if their mark says that there is one.
abbrev pub weighing_of : List ℕ → Option Weighing
weighing_of bytes =
    cond (slice_index bytes 0 == present)
    (Some (record {
      truck = slice_index bytes 2 * 256 + slice_index bytes 3;
      gross = slice_index bytes 4 * 16777216 + slice_index bytes 5 * 65536 + slice_index bytes 6 * 256 + slice_index bytes 7;
      stamp = stamp_of bytes;
    }))
    None
