-- The law over every run, from the proof that module and memory are what the rules say.
use Rattle.std.proofs.Common.{◌≡◌, ℕ, suc, ◌<◌, ◌≤◌, Bool, true, false, not, ltb, List, [], ◌∷◌, reverse, length, get_or, take, is_some, Some, None, Ok, Err, Option, Result, unwrap_or, sym, refl, ap, ◌∙◌, subst, arith}
use Rattle.std.proofs.lemmas.List.{get_or-take, get_or_default, take-take, length-take-le}
use Rattle.std.proofs.lemmas.Bool.{cond-false}
use Rattle.memory.specs.Model.{Mem}
use Rattle.memory.specs.Sizes.{places}
use Rattle.calendar.specs.Clock.{start_date}
use Rattle.calendar.specs.Dates.{exists, first_bad, Plus}
use Rattle.calendar.specs.declared.clock.Clock.{Clock}
use Rattle.calendar.proofs.Existing.{start_exists}
use Rattle.calendar.proofs.Seconds.{after_exists, after_plus}
use Rattle.chip.specs.Calls.{accepted}
use Rattle.chip.specs.Locks.{is_locked}
use Rattle.chip.specs.Places.{place_of}
use Rattle.chip.specs.Registers.{section_of}
use Rattle.chip.specs.Sizes.{lock_register}
use Rattle.chip.specs.declared.calls.Answer.{Answer}
use Rattle.chip.specs.declared.calls.Call.{Call}
use Rattle.chip.specs.declared.calls.Call.TheVariants.{Tick}
use Rattle.chip.specs.declared.calls.Event.{Event}
use Rattle.chip.specs.declared.refusals.Refusal.{Refusal}
use Rattle.chip.specs.declared.refusals.Refusal.TheVariants.{Worn, RwelOff, PageLocked, Unfit}
use Rattle.chip.specs.declared.registers.Section.{Section}
use Rattle.chip.specs.declared.registers.Section.TheVariants.{Alarm0, Alarm1, Control, Clock as ClockSection, Status as StatusSection}
use Rattle.chip.specs.declared.slaves.Area.{Area}
use Rattle.chip.specs.declared.slaves.Area.TheVariants.{Array, Registers}
use Rattle.chip.specs.declared.wires.Edge.{Edge}
use Rattle.rules.specs.Past.{History, Entry, Moment, Write, Outcome, Idle, Refused, Stored, moments, latest, since, clock_write, lawful_write, is_stop, loses_supply}
use Rattle.rules.specs.Wires as wires
use Rattle.rules.specs.Stored.{stored, sent_to, life_left, cost}
use Rattle.rules.specs.Latches.{rwel}
use Rattle.rules.specs.Clock.{waiting, taken_at, taken_over, marks_since, is_mark, since_supply}
use Rattle.rules.specs.Stop.{closes, outcome_of, area_outcome, section_outcome, waits_or_bad, clock_asked, stored_or_worn}
use Rattle.rules.specs.History.{outcome_at, extended, history}
use Rattle.rules.specs.Law.{call_at, first, history_at, no_answer, Answers, Exists, Counts, Keeps, Shows, Pins, sent, sent_by}
use Rattle.x1226.specs.declared.state.State.{State}
use Rattle.x1226.specs.Stop.{Left}
use Rattle.x1226.specs.State.{made}
use Rattle.x1226.specs.Stop.{refused}
use Rattle.x1226.specs.Step.{left, worked, told, taken}
use Rattle.x1226.specs.Replay as replay
use Rattle.x1226.specs.Replay.{Replayed}
use Rattle.law.specs.Run.{clock_after, bytes_after, shown_after, pin_after, Lawful, Unmoved}
use Rattle.law.proofs.Tracks.{Holds}
use Rattle.law.proofs.Steps.{left_tracks, told_answers}
use Rattle.law.proofs.Runs.{first_more}
use Rattle.law.proofs.Recovery.{frees}
use Rattle.law.proofs.Heard.{hears_start}
use Rattle.law.proofs.Shown.{show_agrees, pin_agrees, show_unfit, pin_unfit}

-- Dates that wait exist

-- Every clock write that passed in a history is a date that exists.
abbrev Sound : History → Type 0
Sound [] = Unit {0}
Sound (e ∷ h) = ((c : Clock) → clock_write e.outcome ≡ Some c → exists c ≡ true) × Sound h

none_found : (c : Clock) → ◌≡◌ {A = Option Clock} None (Some c) → exists c ≡ true
none_found c e = let z : ◌≡◌ {A = ℕ} 0 1 = cc in absurd (omega arith)

-- Bytes that pass the test exist.
tested : (d : Clock) (o : Option ℕ) → first_bad d ≡ o → (c : Clock) → clock_write (waits_or_bad d o) ≡ Some c → exists c ≡ true
tested d None e c q =
    let same : d ≡ c = cc in
    subst (λ (x : Clock). exists x ≡ true) same (ap (λ (o : Option ℕ). not (is_some o)) e)
tested d (Some r) e c q = none_found c q

-- Neither of two ways waits unless it exists.
either_way : (b : Bool) (x y : Outcome) → ((c : Clock) → clock_write x ≡ Some c → exists c ≡ true) → ((c : Clock) → clock_write y ≡ Some c → exists c ≡ true)
    → (c : Clock) → clock_write (elim b as (λ _. Outcome) [ true ↦ x | false ↦ y ]) ≡ Some c → exists c ≡ true
either_way true x y p q = p
either_way false x y p q = q

worn_way : (was : Mem) (h : History) (w : Write) (c : Clock) → clock_write (stored_or_worn was h w) ≡ Some c → exists c ≡ true
worn_way was h w =
    either_way (ltb (life_left was h) (cost w)) (Refused (Worn w.area w.address (life_left was h))) (Stored w) none_found none_found

outcome_sound : (was : Mem) (h : History) (o : Option Write) (c : Clock) → clock_write (outcome_of was h o) ≡ Some c → exists c ≡ true
outcome_sound was h None = none_found
outcome_sound was h (Some w) = by_area w.area
  where
    by_section : (o : Option Section) (c : Clock) → clock_write (section_outcome was h w o) ≡ Some c → exists c ≡ true
    by_section None = none_found
    by_section (Some Alarm0) = either_way (rwel h) (stored_or_worn was h w) (Refused (RwelOff w.address)) (worn_way was h w) none_found
    by_section (Some Alarm1) = either_way (rwel h) (stored_or_worn was h w) (Refused (RwelOff w.address)) (worn_way was h w) none_found
    by_section (Some Control) = either_way (rwel h) (stored_or_worn was h w) (Refused (RwelOff w.address)) (worn_way was h w) none_found
    by_section (Some ClockSection) = either_way (rwel h) (waits_or_bad (clock_asked h w) (first_bad (clock_asked h w))) (Refused (RwelOff w.address)) (tested (clock_asked h w) (first_bad (clock_asked h w)) refl) none_found
    by_section (Some StatusSection) = none_found

    by_area : (a : Area) (c : Clock) → clock_write (area_outcome was h w a) ≡ Some c → exists c ≡ true
    by_area Array =
        either_way (is_locked (stored was h (place_of Registers lock_register)) w.address) (Refused (PageLocked w.address)) (stored_or_worn was h w)
        none_found (worn_way was h w)
    by_area Registers = by_section (section_of w.address)

at_sound : (was : Mem) (edge : Edge) (h : History) (c : Clock) → clock_write (outcome_at was edge h) ≡ Some c → exists c ≡ true
at_sound was edge h = either_way (is_stop edge) (outcome_of was h (closes h)) Idle (outcome_sound was h (closes h)) none_found

sound_more : (was : Mem) (h : History) (r : Result Event Refusal) → Sound h → Sound (extended was r h)
sound_more was h (Ok e) k = (at_sound was (wires.edge_heard e h) h, k)
sound_more was h (Err r) k = k

sound : (was : Mem) (cs : List Call) → Sound (history was cs)
sound was [] = tt
sound was (c ∷ cs) = sound_more was (history was cs) (accepted c) (sound was cs)

-- The same of moments.
abbrev AllExist : List Moment → Type 0
AllExist [] = Unit {0}
AllExist (m ∷ ms) = ((c : Clock) → clock_write m.entry.outcome ≡ Some c → exists c ≡ true) × AllExist ms

all_moments : (h : History) → Sound h → AllExist (moments h)
all_moments [] k = tt
all_moments (e ∷ h) k = (k.0, all_moments h k.1)

since_all : (b : Bool) (m : Moment) (ms : List Moment) → ((c : Clock) → clock_write m.entry.outcome ≡ Some c → exists c ≡ true) → AllExist ms
    → AllExist (elim b as (λ _. List Moment) [ true ↦ [] | false ↦ m ∷ ms ])
since_all true m ms f k = tt
since_all false m ms f k = (f, k)

all_since : (p : Moment → Bool) (ms : List Moment) → AllExist ms → AllExist (since p ms)
all_since p [] k = tt
all_since p (m ∷ ms) k = since_all (p m) m (since p ms) k.0 (all_since p ms k.1)

-- What is found first, or else later.
found_all : (o rest : Option Clock) → ((c : Clock) → o ≡ Some c → exists c ≡ true) → ((c : Clock) → rest ≡ Some c → exists c ≡ true)
    → (c : Clock) → elim o as (λ _. Option Clock) [ Some x ↦ Some x | None ↦ rest ] ≡ Some c → exists c ≡ true
found_all (Some x) rest f g = f
found_all None rest f g = g

all_latest : (ms : List Moment) → AllExist ms → (c : Clock) → latest (λ m. clock_write m.entry.outcome) ms ≡ Some c → exists c ≡ true
all_latest [] k = none_found
all_latest (m ∷ ms) k = found_all (clock_write m.entry.outcome) (latest (λ m. clock_write m.entry.outcome) ms) k.0 (all_latest ms k.1)

-- The bytes that wait are a date that exists.
waiting_exists : (h : History) → Sound h → (c : Clock) → waiting h ≡ Some c → exists c ≡ true
waiting_exists h k =
    all_latest (since is_mark (since_supply h))
    (all_since is_mark (since_supply h) (all_since (λ m. loses_supply m.entry.event) (moments h) (all_moments h k)))

some_start : (c : Clock) → ◌≡◌ {A = Option Clock} (Some start_date) (Some c) → exists c ≡ true
some_start c e = let same : start_date ≡ c = cc in subst (λ (x : Clock). exists x ≡ true) same start_exists

choice : (b : Bool) (x y : Option Clock) → ((c : Clock) → x ≡ Some c → exists c ≡ true) → ((c : Clock) → y ≡ Some c → exists c ≡ true)
    → (c : Clock) → elim b as (λ _. Option Clock) [ true ↦ x | false ↦ y ] ≡ Some c → exists c ≡ true
choice true x y f g = f
choice false x y f g = g

-- A date taken over exists.
taken_exists : (e : Entry) (h : History) → Sound h → (c : Clock) → taken_at (record { entry = e; before = h }) ≡ Some c → exists c ≡ true
taken_exists e h k =
    choice (loses_supply e.event) (Some start_date)
    (elim (is_mark (record { entry = e; before = h })) as (λ _. Option Clock) [ true ↦ waiting h | false ↦ None ])
    some_start (choice (is_mark (record { entry = e; before = h })) (waiting h) None (waiting_exists h k) none_found)

latest_taken : (h : History) → Sound h → (c : Clock) → latest taken_at (moments h) ≡ Some c → exists c ≡ true
latest_taken [] k = none_found
latest_taken (e ∷ h) k =
    found_all (taken_at (record { entry = e; before = h })) (latest taken_at (moments h)) (taken_exists e h k.1) (latest_taken h k.1)

or_start : (o : Option Clock) → ((c : Clock) → o ≡ Some c → exists c ≡ true) → exists (unwrap_or o start_date) ≡ true
or_start None f = start_exists
or_start (Some x) f = f x refl

-- So the date last taken over exists.
pub taken_over_exists : (was : Mem) (cs : List Call) → exists (taken_over (history was cs)) ≡ true
taken_over_exists was cs = or_start (latest taken_at (moments (history was cs))) (latest_taken (history was cs) (sound was cs))

-- What a call sends to a place, and else what was there.
stored_then : (o rest : Option ℕ) (d : ℕ) → unwrap_or (elim o as (λ _. Option ℕ) [ Some x ↦ Some x | None ↦ rest ]) d ≡ unwrap_or o (unwrap_or rest d)
stored_then (Some x) rest d = refl
stored_then None rest d = refl

stored_by : (was : Mem) (r : Result Event Refusal) (h : History) (p : ℕ) → stored was (extended was r h) p ≡ unwrap_or (sent_by was r h p) (stored was h p)
stored_by was (Err r) h p = refl
stored_by was (Ok e) h p =
    stored_then (sent_to p (lawful_write (outcome_at was (wires.edge_heard e h) h)))
    (latest (λ m. sent_to p (lawful_write m.entry.outcome)) (moments h)) (get_or was.bytes p 0)

module _ (was : Mem) (fit : was.fit ≡ true) (sized : length was.bytes ≡ places) (calls : List Call) where
  tracked : (k : ℕ) → Holds was (history_at was calls k) (left was (first k calls)).state (left was (first k calls)).mem
  tracked k = (left_tracks was fit sized (first k calls)).holds

  dates_exist : Exists calls (clock_after was calls)
  dates_exist k l =
      ap exists (tracked k).shown
      ∙ after_exists (taken_over (history_at was calls k)) (marks_since (history_at was calls k)) (taken_over_exists was (first k calls))

  dates_count : Counts was calls (clock_after was calls)
  dates_count k l =
      subst (Plus (taken_over (history_at was calls k)) (marks_since (history_at was calls k))) (sym (tracked k).shown)
      (after_plus (taken_over (history_at was calls k)) (marks_since (history_at was calls k)) (taken_over_exists was (first k calls)))

  bytes_at_first : bytes_after was calls 0 ≡ was.bytes
  unfolding left
  bytes_at_first = refl

  bytes_kept : Keeps was calls (bytes_after was calls)
  bytes_kept = (
    bytes_at_first,
    λ k p l lp.
        (tracked (suc k)).bytes p lp
        ∙ ap (λ (cs : List Call). stored was (history was cs) p) (first_more calls k l)
        ∙ stored_by was (accepted (call_at calls k)) (history_at was calls k) p
        ∙ ap (unwrap_or (sent was calls k p)) (sym ((tracked k).bytes p lp)),
  )

  -- What `show` and `pin` answer before the first call and after each.
  places_shown : Shows was calls (shown_after was calls)
  places_shown k p l =
      show_agrees was (history_at was calls k) (left was (first k calls)).state (left was (first k calls)).mem (tracked k) p

  pins_told : Pins was calls (pin_after was calls)
  pins_told k l =
      pin_agrees was (history_at was calls k) (left was (first k calls)).state (left was (first k calls)).mem (tracked k)

  -- The law, for rows that are what a board is told after each call.
  pub lawful : (rows : List Answer)
      → ((k : ℕ) → k < length calls → get_or rows k no_answer ≡ told (worked (call_at calls k) (left was (first k calls)).state (left was (first k calls)).mem))
      → Lawful was calls rows
  lawful rows row =
      let answers : Answers was calls rows = λ k l. row k l ∙ told_answers was fit sized (call_at calls k) (first k calls) in
      record {
        answers = answers;
        dates = dates_exist;
        counts = dates_count;
        keeps = bytes_kept;
        shows = places_shown;
        pins = pins_told;
        frees = frees was fit (left_tracks was fit sized) calls rows answers;
        hears_start = hears_start was fit (left_tracks was fit sized) calls rows answers;
      }

-- Rows of a replay are those of the first n calls.
pub replay_lawful : (n : ℕ) (was : Mem) (calls : List Call) (before after : List Answer) (s : State) (m : Mem) → n ≤ length calls
    → was.fit ≡ true → length was.bytes ≡ places → Replayed n was calls before after s m → Lawful was (take n calls) after
replay_lawful n was calls before after s m small fit sized r =
    lawful was fit sized (take n calls) after
    (λ k l.
    let lk : k < n = omega (arith, length-take-le n calls small) in
    r.row k lk
    ∙ ap (λ (c : Call). told (worked c (left was (replay.first k calls)).state (left was (replay.first k calls)).mem))
    (get_or_default calls k replay.no_call Tick (omega arith) ∙ sym (get_or-take n calls k Tick lk))
    ∙ ap (λ (cs : List Call). told (worked (call_at (take n calls) k) (left was cs).state (left was cs).mem))
    (ap reverse (sym (take-take k n calls (omega arith)))))

-- A call over an unfit memory.
unfit_call : (m : Mem) → m.fit ≡ false → (c : Call) (s : State) → worked c s m ≡ refused Unfit s m
unfit_call m unfit c s = cond-false m.fit (taken (accepted c) s m) (refused Unfit s m) unfit

-- Over an unfit memory nothing moves.
left_unfit : (was : Mem) → was.fit ≡ false → (cs : List Call) → ((left was cs).state ≡ made) × ((left was cs).mem ≡ was)
unfolding left
left_unfit was unfit [] = (refl, refl)
left_unfit was unfit (c ∷ cs) =
    let k : ((left was cs).state ≡ made) × ((left was cs).mem ≡ was) = left_unfit was unfit cs in
    let e : worked c (left was cs).state (left was cs).mem ≡ refused Unfit (left was cs).state (left was cs).mem =
    unfit_call (left was cs).mem (ap (λ (m : Mem). m.fit) k.1 ∙ unfit) c (left was cs).state in
    (ap (λ (l : Left). l.state) e ∙ k.0, ap (λ (l : Left). l.mem) e ∙ k.1)

-- So a run over it has its defined rows.
pub replay_unmoved : (n : ℕ) (was : Mem) (calls : List Call) (before after : List Answer) (s : State) (m : Mem)
    → was.fit ≡ false → Replayed n was calls before after s m → Unmoved n was after s m
replay_unmoved n was calls before after s m unfit r =
    let same : m ≡ was = r.mem ∙ (left_unfit was unfit (replay.first n calls)).1 in
    let still : m.fit ≡ false = ap (λ (m : Mem). m.fit) same ∙ unfit in
    record {
      row = λ k l.
          let q : ((left was (replay.first k calls)).state ≡ made) × ((left was (replay.first k calls)).mem ≡ was) = left_unfit was unfit (replay.first k calls) in
          r.row k l
          ∙ ap told (unfit_call (left was (replay.first k calls)).mem (ap (λ (m : Mem). m.fit) q.1 ∙ unfit) (get_or calls k replay.no_call) (left was (replay.first k calls)).state)
          ∙ ap (λ (s : State). told (refused Unfit s was)) q.0;
      state = r.state ∙ (left_unfit was unfit (replay.first n calls)).0;
      mem = same;
      show_refused = show_unfit s m still;
      pin_refused = pin_unfit s m still;
    }
