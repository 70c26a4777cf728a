-- Stored bytes: the places and bytes of a write, and what the memory holds after a history.
use Rattle.std.specs.Prelude.{ℕ, zero, suc, ◌+◌, ◌-◌, ◌%◌, cond, List, [], ◌∷◌, length, Some, None, Option, ◌==◌, slice_index}
use Rattle.std.specs.Option.{unwrap_or, option_map}
use Rattle.memory.specs.Model.{Mem}
use Rattle.memory.specs.Sizes.{array_places, places}
use Rattle.chip.specs.Sizes.{page_length}
use Rattle.chip.specs.Pages.{page_first}
use Rattle.chip.specs.Places.{place_of, stores}
use Rattle.chip.specs.Registers.{section_of, first_of, length_of}
use Rattle.chip.specs.declared.registers.Section.{Section}
use Rattle.chip.specs.declared.slaves.Area.{Area}
use Rattle.chip.specs.declared.slaves.Area.TheVariants.{Array, Registers}
use Rattle.rules.specs.Past.{History, Write, moments, latest, all_of, lawful_write}

-- The stretch of addresses inside which a write's addresses move: its page or its section.
pub record Span : Type 0 where
  pub first : ℕ
  pub size : ℕ

abbrev pub section_span : Option Section → ℕ → Span
section_span None a = record { first = a; size = 1 }
section_span (Some s) a = record { first = first_of s; size = length_of s }

abbrev pub span_of : Area → ℕ → Span
span_of Array a = record { first = page_first a; size = page_length }
span_of Registers a = section_span (section_of a) a

-- Address i steps on from a inside a span, which wraps.
abbrev pub steps_on : Span → ℕ → ℕ → ℕ
steps_on s a i = s.first + (a - s.first + i) % s.size

-- The place of data byte i of a write whose first goes to address a.
abbrev pub place_at : Area → ℕ → ℕ → ℕ
place_at area a i = place_of area (steps_on (span_of area a) a i)

-- What the first n data bytes send to a place: the last byte sent to it counts.
abbrev pub last_sent : Area → ℕ → (ℕ → ℕ) → ℕ → ℕ → Option ℕ
last_sent area a byte zero p = None
last_sent area a byte (suc i) p = cond (place_at area a i == p) (Some (byte i)) (last_sent area a byte i p)

-- The last byte that a write sends to a place, as it was sent.
abbrev pub sent_raw : Write → ℕ → Option ℕ
sent_raw w p = last_sent w.area w.address (λ i. slice_index w.bytes i) (length w.bytes) p

-- A byte sent to a place of an area, as it is stored there.
abbrev pub stored_as : Area → ℕ → ℕ → ℕ
stored_as Array p b = stores Array p b
stored_as Registers p b = stores Registers (p - array_places) b

-- The byte that a write sends to a place: in a register only what its mask lets through.
abbrev pub sends : Write → ℕ → Option ℕ
sends w p = option_map (stored_as w.area p) (sent_raw w p)

-- How many of the first n places have a byte sent to them.
abbrev pub places_sent : (ℕ → Option ℕ) → ℕ → ℕ
places_sent f zero = 0
places_sent f (suc p) = elim (f p) [ Some b ↦ suc (places_sent f p) | None ↦ places_sent f p ]

-- The number of different places that a write sends, each of which is written once.
abbrev pub cost : Write → ℕ
cost w = places_sent (sent_raw w) places

abbrev pub sent_to : ℕ → Option Write → Option ℕ
sent_to p None = None
sent_to p (Some w) = sends w p

-- The byte stored at a place: the one that the latest lawful write sent there, else the one at making.
abbrev pub stored : Mem → History → ℕ → ℕ
stored was h p =
    unwrap_or (latest (λ m. sent_to p (lawful_write m.entry.outcome)) (moments h)) (slice_index was.bytes p)

abbrev pub total : List ℕ → ℕ
total [] = 0
total (n ∷ ns) = n + total ns

abbrev pub cost_of : Option Write → Option ℕ
cost_of None = None
cost_of (Some w) = Some (cost w)

-- The life left: the life at making, less one for each place that a lawful write sent.
abbrev pub life_left : Mem → History → ℕ
life_left was h = was.life - total (all_of (λ m. cost_of (lawful_write m.entry.outcome)) (moments h))
