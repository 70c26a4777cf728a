-- When a module's state and its memory are what the rules say of a history.
use Rattle.std.proofs.Common.{◌≡◌, ℕ, zero, suc, ◌+◌, ◌*◌, ◌/◌, ◌%◌, ◌<◌, ◌≤◌, min, Bool, true, false, cond, ◌⊎◌, List, [], ◌∷◌, ◌++◌, map, length, get_or, drop, Some, None, Option}
use Rattle.calendar.specs.declared.clock.Clock.{Clock}
use Rattle.memory.specs.Model.{Mem}
use Rattle.memory.specs.Sizes.{places}
use Rattle.chip.specs.Counter.{at_status}
use Rattle.chip.specs.Places.{place_of}
use Rattle.chip.specs.declared.registers.Section.TheVariants.{Alarm0, Alarm1}
use Rattle.chip.specs.declared.slaves.Area.{Area}
use Rattle.rules.specs.Past.{History, moments, latest, since, is_start}
use Rattle.rules.specs.Wires as wires
use Rattle.rules.specs.Frames.{Sample, in_frame, sampled, number_from, byte_at, ninth, acknowledged, acknowledges, takes, slave, area_written, area_read, address, data_byte}
use Rattle.rules.specs.Counter.{counter, asked_on, sends_byte}
use Rattle.rules.specs.Stored.{stored, life_left, last_sent, steps_on, span_of}
use Rattle.rules.specs.Latches.{wel, rwel}
use Rattle.rules.specs.Clock.{rtcf, divider, clock, waiting}
use Rattle.rules.specs.Alarms.{flag, copies, matched_since_copy}
use Rattle.rules.specs.Reads.{status, byte_sent}
use Rattle.rules.specs.Stop.{addresses}
use Rattle.x1226.specs.declared.state.Phase.{Phase}
use Rattle.x1226.specs.declared.state.Phase.TheVariants.{Deaf, Receiving, Acknowledging, Sending, Listening}
use Rattle.x1226.specs.declared.state.Staging.{Staging}
use Rattle.x1226.specs.declared.state.State.{State}
use Rattle.x1226.specs.Frame.{pulls}
use Rattle.x1226.specs.Stop.{address_staged}

-- The master's SCL.
abbrev pub scl : History → Bool
scl h = (wires.levels h).scl

-- A rise that this half of the pulse has had.
abbrev pub half : Bool → ℕ
half b = cond b 1 0

-- Everything but the phase.
pub record Holds (was : Mem) (h : History) (s : State) (m : Mem) : Type 0 where
  pub levels : s.levels ≡ wires.levels h
  pub supply : s.supply ≡ wires.supply h
  pub pulled : pulls s.phase ≡ wires.pulls h
  pub counted : s.counter ≡ counter h
  pub wel_is : s.latches.wel ≡ wel h
  pub rwel_is : s.latches.rwel ≡ rwel h
  pub cycle : s.cycle ≡ wires.cycle_left h
  pub rtcf_is : s.timer.rtcf ≡ rtcf h
  pub divided : s.timer.divider ≡ divider h
  pub shown : s.timer.clock ≡ clock h
  pub waits : s.timer.waiting ≡ waiting h
  pub first : s.flags.first ≡ flag was Alarm0 h
  pub second : s.flags.second ≡ flag was Alarm1 h
  pub fit : m.fit ≡ true
  pub sized : length m.bytes ≡ places
  pub bytes : (p : ℕ) → p < places → get_or m.bytes p 0 ≡ stored was h p
  pub life : m.life ≡ life_left was h

-- A frame is open on a bus that hears.
pub record Open (h : History) : Type 0 where
  pub open_frame : in_frame h ≡ true
  pub hearing : wires.hears h ≡ true

-- The history at the fall where this frame's second address byte was taken.
abbrev pub addressed_at : History → Option History
addressed_at h =
    latest (λ m. elim (addresses m) [ true ↦ Some m.before | false ↦ None ]) (since (λ m. is_start m.entry.edge) (moments h))

-- n data bytes are staged, and the counter stands where the next goes; the clock was copied where the address was taken.
pub record Staged (xs : List Sample) (at : Option History) (area : Area) (staging : Staging) (counted : ℕ) (copy : Clock) (n : ℕ) : Type 0 where
  pub address_is : staging.address ≡ address area xs
  pub wide : length staging.held ≡ 64
  pub held : (j : ℕ) → j < 64
      → get_or staging.held j None
      ≡ last_sent area (address area xs) (data_byte xs) n (place_of area (address_staged area (address area xs) j))
  pub next_is : counted ≡ steps_on (span_of area (address area xs)) (address area xs) n
  pub from : History
  pub found : at ≡ Some from
  pub clock_is : copy ≡ clock from

-- What the bytes before byte k of a write said.
abbrev pub Said : List Sample → Option History → Area → ℕ → Staging → ℕ → Clock → ℕ → Type 0
Said xs at area high staging counted copy zero = Unit {0}
Said xs at area high staging counted copy (suc zero) = area_written (slave xs) ≡ Some area
Said xs at area high staging counted copy (suc (suc zero)) = (area_written (slave xs) ≡ Some area) × (high ≡ byte_at 1 xs)
Said xs at area high staging counted copy (suc (suc (suc n))) =
    (area_written (slave xs) ≡ Some area) × Staged xs at area staging counted copy n

-- The history at the fall where this frame's read copied clock and status.
abbrev pub copied_at : History → Option History
copied_at h =
    latest (λ m. elim (copies m) [ true ↦ Some m.before | false ↦ None ]) (since (λ m. is_start m.entry.edge) (moments h))

-- k bytes are acknowledged, and some bits of the next are in.
pub record Taking (h : History) (s : State) (stage bits shift k : ℕ) : Type 0 where
  pub opened : Open h
  pub acked : acknowledged k (sampled h) ≡ true
  pub long : length (sampled h) ≡ 9 * k + bits
  pub few : bits ≤ 8
  pub high_at_eight : bits ≡ 8 → scl h ≡ true
  pub low_at_none : bits ≡ 0 → 0 < k → scl h ≡ false
  pub stage_is : stage ≡ min 4 k
  pub shift_is : shift ≡ number_from 0 (map (λ x. x.level) (drop (9 * k) (sampled h)))
  pub fresh : k ≡ 0 → copied_at h ≡ None
  pub said : Said (sampled h) (addressed_at h) s.area s.high s.staging s.counter s.copies.clock k

-- Byte k is being acknowledged.
pub record Acking (h : History) (s : State) (stage byte k : ℕ) : Type 0 where
  pub opened : Open h
  pub acked : acknowledged k (sampled h) ≡ true
  pub long : length (sampled h) ≡ 9 * k + 8 + half (scl h)
  pub taken : takes (wel h) (sampled h) k ≡ true
  pub ninth_pulled : scl h ≡ true → (ninth k (sampled h)).pulled ≡ true
  pub stage_is : stage ≡ min 4 k
  pub byte_is : byte ≡ byte_at k (sampled h)
  pub fresh : k ≡ 0 → copied_at h ≡ None
  pub said : Said (sampled h) (addressed_at h) s.area s.high s.staging s.counter s.copies.clock k

-- A read's copies.
pub record Copied (was : Mem) (h : History) (s : State) : Type 0 where
  pub reads_area : area_read (slave (sampled h)) ≡ Some s.area
  pub from : History
  pub found : copied_at h ≡ Some from
  pub clock_is : s.copies.clock ≡ clock from
  pub status_is : s.copies.status ≡ status was from
  pub first_since : s.copies.matched.first ≡ matched_since_copy was Alarm0 h
  pub second_since : s.copies.matched.second ≡ matched_since_copy was Alarm1 h

-- Byte k + 1 of the frame is being sent.
pub record Sends (was : Mem) (h : History) (s : State) (sent byte k : ℕ) : Type 0 where
  pub opened : Open h
  pub copied : Copied was h s
  pub long : length (sampled h) ≡ 9 * suc k + sent + half (scl h)
  pub few : sent < 8
  pub sends : sends_byte s.area s.counter (sampled h) (suc k) ≡ true
  pub byte_is : byte ≡ byte_sent was h s.area

-- The ninth level after byte k + 1 is awaited, or was low.
pub record Listens (was : Mem) (h : History) (s : State) (k : ℕ) : Type 0 where
  pub opened : Open h
  pub copied : Copied was h s
  pub long : length (sampled h) ≡ 9 * suc k + 8 + half (scl h)
  pub answered : (ninth 0 (sampled h)).pulled ≡ true
  pub asked : asked_on k (sampled h) ≡ true
  pub low : scl h ≡ true → (ninth (suc k) (sampled h)).level ≡ false
  pub no_status : at_status s.area s.counter ≡ false

abbrev pub unpulled : Bool → Sample
unpulled v = record { level = v; pulled = false }

-- Samples at which nothing is acknowledged, sent or closed, whatever WEL is.
pub record Silent (c : ℕ) (xs : List Sample) : Type 0 where
  pub no_acknowledge : length xs % 9 ≡ 8 → (w : Bool) → acknowledges w xs (length xs / 9) ≡ false
  pub no_send : (area : Area) → area_read (slave xs) ≡ Some area → sends_byte area c xs (length xs / 9) ≡ false
  pub no_write : (area : Area) → area_written (slave xs) ≡ Some area → length xs % 9 ≤ 1 → 27 ≤ length xs
      → acknowledged (length xs / 9) xs ≡ false

-- Whatever levels come until the next start, nothing is acknowledged and nothing acts.
abbrev pub SilentOn : ℕ → List Sample → Type 0
SilentOn c xs = (vs : List Bool) → Silent c (xs ++ map unpulled vs)

-- No frame is open, or the module has gone silent in it: with SCL low the next rise decides nothing either.
abbrev pub DeafnessUnder : Bool → ℕ → List Sample → Type 0
DeafnessUnder true c xs = SilentOn c xs
DeafnessUnder false c xs = (v : Bool) → SilentOn c (xs ++ unpulled v ∷ [])

abbrev pub Deafness : History → Type 0
Deafness h = (in_frame h ≡ false) ⊎ (Open h × DeafnessUnder (scl h) (counter h) (sampled h))

-- The phase against the samples of the frame.
abbrev pub Follows : Mem → History → State → Phase → Type 0
Follows was h s Deaf = Deafness h
Follows was h s (Receiving stage bits shift) = (k : ℕ) × Taking h s stage bits shift k
Follows was h s (Acknowledging stage byte) = (k : ℕ) × Acking h s stage byte k
Follows was h s (Sending sent byte) = (k : ℕ) × Sends was h s sent byte k
Follows was h s Listening = (k : ℕ) × Listens was h s k

pub record Tracks (was : Mem) (h : History) (s : State) (m : Mem) : Type 0 where
  pub holds : Holds was h s m
  pub follows : Follows was h s s.phase
