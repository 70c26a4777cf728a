-- A fall of SCL: what the rules say of it, by the number of rises.
use Rattle.std.proofs.Common.{◌≡◌, ℕ, ◌+◌, ◌*◌, ◌/◌, ◌%◌, Bool, true, false, List, ◌∷◌, length, Some, None, Option, unwrap_or, refl, ap, ◌∙◌, arith}
use Rattle.std.proofs.lemmas.Bool.{eq-eqb, ne_eqb}
use Rattle.memory.specs.Model.{Mem}
use Rattle.chip.specs.declared.calls.Event.TheVariants.{Given}
use Rattle.chip.specs.declared.registers.Section.{Section}
use Rattle.chip.specs.declared.registers.Section.TheVariants.{Alarm0, Alarm1}
use Rattle.chip.specs.declared.wires.Edge.TheVariants.{Fall}
use Rattle.chip.specs.declared.wires.Levels.{Levels}
use Rattle.rules.specs.Past.{History, Entry, Moment, Idle, moments, since, any_of, is_start}
use Rattle.rules.specs.Frames.{in_frame, sampled, acknowledges, slave, area_written, area_read}
use Rattle.rules.specs.Counter.{counter, fall_by, at_fall}
use Rattle.rules.specs.Latches.{wel}
use Rattle.rules.specs.Alarms.{flag, sets_flag, matched, matched_since_copy, status_sent, sends_status, copies}
use Rattle.rules.specs.Stop.{addresses}
use Rattle.rules.specs.Reads.{sends_zero, pulls_from_fall, pull_at_fall}
use Rattle.x1226.specs.declared.state.Latches.{Latches}
use Rattle.x1226.specs.declared.state.Timer.{Timer}
use Rattle.x1226.specs.declared.state.State.{State}
use Rattle.x1226.specs.State.{with_levels}
use Rattle.x1226.specs.Frame.{pulls}
use Rattle.law.proofs.Back.{latest_some, latest_none, since_here, since_past, chosen, passed_over}
use Rattle.law.proofs.Tracks.{Holds, Open, copied_at, addressed_at}

-- The entry of a level call at which SCL falls.
abbrev pub fell : Mem → Levels → History → Entry
fell was l h = record { event = Given l; edge = Fall; pulls = pull_at_fall was h; outcome = Idle }

module _ (was : Mem) (h : History) (l : Levels) where
  abbrev now_fell : Moment
  now_fell = record { entry = fell was l h; before = h }

  -- The flag after a fall: what matched since the copy where a status byte is over, else as before.
  pub flag_over : (a : Section) → status_sent now_fell ≡ true → flag was a (fell was l h ∷ h) ≡ matched_since_copy was a h
  flag_over a e =
      ap (λ (o : Option Bool). unwrap_or o false)
      (latest_some (sets_flag was a) now_fell (moments h) (matched_since_copy was a h)
      (chosen (status_sent now_fell) (Some (matched_since_copy was a h)) None e))

  pub flag_kept : (a : Section) → status_sent now_fell ≡ false → flag was a (fell was l h ∷ h) ≡ flag was a h
  flag_kept a e =
      ap (λ (o : Option Bool). unwrap_or o false)
      (latest_none (sets_flag was a) now_fell (moments h)
      (passed_over (status_sent now_fell) (Some (matched_since_copy was a h)) None e))

  -- Everything but the phase, where the fall leaves supply, latches, cycle and clock as they are.
  pub fall_holds : (s : State) (m : Mem) (t : State) → Holds was h s m
      → t.supply ≡ s.supply → t.latches ≡ s.latches → t.cycle ≡ s.cycle → t.timer ≡ s.timer
      → pulls t.phase ≡ pull_at_fall was h
      → t.counter ≡ at_fall h (counter h)
      → t.flags.first ≡ flag was Alarm0 (fell was l h ∷ h)
      → t.flags.second ≡ flag was Alarm1 (fell was l h ∷ h)
      → Holds was (fell was l h ∷ h) (with_levels l t) m
  fall_holds s m t k es el ec et pull count f1 f2 =
      record {
        levels = refl;
        supply = es ∙ k.supply;
        pulled = pull;
        counted = count;
        wel_is = ap (λ (x : Latches). x.wel) el ∙ k.wel_is;
        rwel_is = ap (λ (x : Latches). x.rwel) el ∙ k.rwel_is;
        cycle = ec ∙ k.cycle;
        rtcf_is = ap (λ (x : Timer). x.rtcf) et ∙ k.rtcf_is;
        divided = ap (λ (x : Timer). x.divider) et ∙ k.divided;
        shown = ap (λ (x : Timer). x.clock) et ∙ k.shown;
        waits = ap (λ (x : Timer). x.waiting) et ∙ k.waits;
        first = f1;
        second = f2;
        fit = k.fit;
        sized = k.sized;
        bytes = k.bytes;
        life = k.life;
      }

  -- The moments of the frame before the fall.
  abbrev frame_before : List Moment
  frame_before = since (λ m. is_start m.entry.edge) (moments h)

  -- Where the fall does not follow nine rises, the copies stay; where it does not follow 27, the address taken stays.
  pub copied_stays : (length (sampled h) ≡ 9 → ⊥) → copied_at (fell was l h ∷ h) ≡ copied_at h
  copied_stays n =
      latest_none (λ m. elim (copies m) as (λ _. Option History) [ true ↦ Some m.before | false ↦ None ]) now_fell frame_before
      (passed_over (copies now_fell) (Some h) None (ne_eqb (length (sampled h)) 9 n))

  pub since_stays : (a : Section) → (length (sampled h) ≡ 9 → ⊥) → matched_since_copy was a (fell was l h ∷ h) ≡ matched_since_copy was a h
  since_stays a n = ap (any_of (matched was a)) (since_past copies now_fell (moments h) (ne_eqb (length (sampled h)) 9 n))

  pub addressed_stays : (length (sampled h) ≡ 27 → ⊥) → addressed_at (fell was l h ∷ h) ≡ addressed_at h
  addressed_stays n =
      latest_none (λ m. elim (addresses m) as (λ _. Option History) [ true ↦ Some m.before | false ↦ None ]) now_fell frame_before
      (passed_over (addresses now_fell) (Some h) None (ne_eqb (length (sampled h)) 27 n))

  pub copied_now : length (sampled h) ≡ 9 → copied_at (fell was l h ∷ h) ≡ Some h
  copied_now e =
      latest_some (λ m. elim (copies m) as (λ _. Option History) [ true ↦ Some m.before | false ↦ None ]) now_fell frame_before h
      (chosen (copies now_fell) (Some h) None (eq-eqb (length (sampled h)) 9 e))

  pub since_now : (a : Section) → length (sampled h) ≡ 9 → matched_since_copy was a (fell was l h ∷ h) ≡ false
  since_now a e = ap (any_of (matched was a)) (since_here copies now_fell (moments h) (eq-eqb (length (sampled h)) 9 e))

  pub addressed_now : length (sampled h) ≡ 27 → addressed_at (fell was l h ∷ h) ≡ Some h
  addressed_now e =
      latest_some (λ m. elim (addresses m) as (λ _. Option History) [ true ↦ Some m.before | false ↦ None ]) now_fell frame_before h
      (chosen (addresses now_fell) (Some h) None (eq-eqb (length (sampled h)) 27 e))

  pub opened_still : Open h → Open (fell was l h ∷ h)
  opened_still o = record { open_frame = o.open_frame; hearing = o.hearing }

  -- Outside a frame nothing is pulled or moved.
  pub closed_pull : in_frame h ≡ false → pull_at_fall was h ≡ false
  closed_pull e = rw (e, pull_at_fall)

  pub closed_count : in_frame h ≡ false → at_fall h (counter h) ≡ counter h
  closed_count e = rw (e, at_fall)

  pub closed_status : in_frame h ≡ false → status_sent now_fell ≡ false
  closed_status e = rw e

  module _ (open_frame : in_frame h ≡ true) where
    -- After the eighth bit the module pulls where it acknowledges.
    pub pull_eighth : (k : ℕ) → length (sampled h) ≡ 9 * k + 8 → pull_at_fall was h ≡ acknowledges (wel h) (sampled h) k
    pull_eighth k e =
        let r : length (sampled h) % 9 ≡ 8 = omega arith in
        let q : length (sampled h) / 9 ≡ k = omega arith in
        rw (open_frame, pull_at_fall, eq-eqb (length (sampled h) % 9) 8 r, pulls_from_fall) (ap (acknowledges (wel h) (sampled h)) q)

    -- After any other bit it pulls where it sends a 0.
    pub pull_other : (length (sampled h) % 9 ≡ 8 → ⊥) → pull_at_fall was h ≡ sends_zero was h (area_read (slave (sampled h))) (sampled h)
    pull_other n = rw (open_frame, pull_at_fall, ne_eqb (length (sampled h) % 9) 8 n, pulls_from_fall)

    pub count_open : (c : ℕ) → at_fall h c ≡ fall_by (area_written (slave (sampled h))) (area_read (slave (sampled h))) (sampled h) c
    count_open c = rw (open_frame, at_fall)

    -- A status byte is over only after seventeen rises.
    pub status_elsewhere : (length (sampled h) ≡ 17 → ⊥) → status_sent now_fell ≡ false
    status_elsewhere n = rw (open_frame, ne_eqb (length (sampled h)) 17 n)

    pub status_over : length (sampled h) ≡ 17
        → status_sent now_fell ≡ sends_status (area_read (slave (sampled h))) (sampled h) (counter h)
    status_over e = rw (open_frame, eq-eqb (length (sampled h)) 17 e)
