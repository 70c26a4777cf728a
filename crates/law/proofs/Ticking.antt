-- A tick: the module's step follows the rules.
use Rattle.std.proofs.Common.{◌≡◌, ℕ, ◌+◌, ◌-◌, ◌<◌, ◌≤◌, arith, Bool, true, false, not, ◌&&◌, ◌||◌, ◌∷◌, is_some, Option, unwrap_or, sym, refl, ap, ◌∙◌, subst, ap₂, inl, inr, lit<}
use Rattle.std.proofs.lemmas.Bool.{true≢false, cond-true, cond-false}
use Rattle.memory.specs.Model.{Mem}
use Rattle.calendar.specs.Alarm.{matches}
use Rattle.calendar.specs.Next.{next}
use Rattle.calendar.specs.declared.clock.Clock.{Clock}
use Rattle.chip.specs.Places.{place_of}
use Rattle.chip.specs.Registers.{first_of}
use Rattle.chip.specs.declared.slaves.Area.TheVariants.{Registers}
use Rattle.chip.specs.declared.calls.Event.TheVariants.{Ticked}
use Rattle.chip.specs.declared.calls.Supply.{Supply}
use Rattle.chip.specs.declared.calls.Supply.TheVariants.{Off, Main, Battery}
use Rattle.chip.specs.declared.registers.Section.{Section}
use Rattle.chip.specs.declared.registers.Section.TheVariants.{Alarm0, Alarm1}
use Rattle.rules.specs.Past.{History, is_main, is_off}
use Rattle.rules.specs.Wires as wires
use Rattle.rules.specs.Clock.{rtcf, divider, is_mark, waiting, clock}
use Rattle.rules.specs.Alarms.{flag, matched, matched_since_copy}
use Rattle.rules.specs.Alarms as alarms
use Rattle.rules.specs.History.{entry_of}
use Rattle.x1226.specs.declared.state.Alarms.{Alarms}
use Rattle.x1226.specs.declared.state.Phase.{Phase}
use Rattle.x1226.specs.declared.state.Phase.TheVariants.{Deaf, Receiving, Acknowledging, Sending, Listening}
use Rattle.x1226.specs.declared.state.State.{State}
use Rattle.x1226.specs.declared.state.Timer.{Timer}
use Rattle.x1226.specs.Timer.{divider_after, completes, marked, counted, matching, joined, noted, timed, is_supplied, ticked}
use Rattle.x1226.specs.Timer as timer
use Rattle.x1226.specs.State.{with_cycle, with_timer}
use Rattle.rules.proofs.Ticks.{tick_entry, tick_at, divider_counts, divider_stands, marks_where, marks_never, waiting_over, waiting_on, clock_stands, clock_moves, on_match, flag_by_match, since_copy_by_match, cycle_ticked, hears_on, matched_mark, matched_not}
use Rattle.law.proofs.Picks.{found_same, byte_same}
use Rattle.law.proofs.OffMain.{Quiet, cycle_none}
use Rattle.law.proofs.Tracks.{Tracks, Holds, Open, Copied, Follows, copied_at}

-- The state after a tick: with another write cycle, timer, flags and matches since the copy, and else as it was.
abbrev pub after_tick : State → ℕ → Timer → Alarms → Alarms → State
after_tick s c t f a =
    record {
      levels = s.levels;
      supply = s.supply;
      phase = s.phase;
      area = s.area;
      high = s.high;
      counter = s.counter;
      staging = s.staging;
      latches = s.latches;
      cycle = c;
      timer = t;
      flags = f;
      copies = record { clock = s.copies.clock; status = s.copies.status; matched = a };
    }

-- A frame that is open stays open.
open_ticked : (h : History) → Open h → Open (tick_entry h ∷ h)
open_ticked h o = record { open_frame = o.open_frame; hearing = hears_on h o.hearing }

module _ (was : Mem) (h : History) (s : State) (c : ℕ) (t : Timer) (f a : Alarms)
    (first-too : s.copies.matched.first ≡ matched_since_copy was Alarm0 h → a.first ≡ matched_since_copy was Alarm0 (tick_entry h ∷ h))
    (second-too : s.copies.matched.second ≡ matched_since_copy was Alarm1 h → a.second ≡ matched_since_copy was Alarm1 (tick_entry h ∷ h)) where
  -- A read's copies stay, and take the match.
  copied_ticked : Copied was h s → Copied was (tick_entry h ∷ h) (after_tick s c t f a)
  copied_ticked g =
      record {
        reads_area = g.reads_area;
        from = g.from;
        found = g.found;
        clock_is = g.clock_is;
        status_is = g.status_is;
        first_since = first-too g.first_since;
        second_since = second-too g.second_since;
      }

  -- The phase goes on as it was.
  follows_ticked : (p : Phase) → Follows was h s p → Follows was (tick_entry h ∷ h) (after_tick s c t f a) p
  follows_ticked Deaf (inl g) = inl g
  follows_ticked Deaf (inr g) = inr (open_ticked h g.0, g.1)
  follows_ticked (Receiving stage bits shift) g = (
    g.0,
    record {
      opened = open_ticked h g.1.opened;
      acked = g.1.acked;
      long = g.1.long;
      few = g.1.few;
      high_at_eight = g.1.high_at_eight;
      low_at_none = g.1.low_at_none;
      stage_is = g.1.stage_is;
      shift_is = g.1.shift_is;
      fresh = g.1.fresh;
      said = g.1.said;
    },
  )
  follows_ticked (Acknowledging stage byte) g = (
    g.0,
    record {
      opened = open_ticked h g.1.opened;
      acked = g.1.acked;
      long = g.1.long;
      taken = g.1.taken;
      ninth_pulled = g.1.ninth_pulled;
      stage_is = g.1.stage_is;
      byte_is = g.1.byte_is;
      fresh = g.1.fresh;
      said = g.1.said;
    },
  )
  follows_ticked (Sending sent byte) g = (
    g.0,
    record {
      opened = open_ticked h g.1.opened;
      copied = copied_ticked g.1.copied;
      long = g.1.long;
      few = g.1.few;
      sends = g.1.sends;
      byte_is =
          g.1.byte_is
          ∙ byte_same was h (tick_entry h ∷ h) s.area (λ p. refl) refl (found_same (copied_at h) h (tick_entry h ∷ h) (ap is_some g.1.copied.found));
    },
  )
  follows_ticked Listening g = (
    g.0,
    record {
      opened = open_ticked h g.1.opened;
      copied = copied_ticked g.1.copied;
      long = g.1.long;
      answered = g.1.answered;
      asked = g.1.asked;
      low = g.1.low;
      no_status = g.1.no_status;
    },
  )

-- What a tick makes of write cycle, timer and flags by the rules.
record Times (was : Mem) (h : History) (c : ℕ) (t : Timer) (f : Alarms) : Type 0 where
  cycle : c ≡ wires.cycle_left h
  rtcf_is : t.rtcf ≡ rtcf h
  divided : t.divider ≡ divider h
  shown : t.clock ≡ clock h
  waits : t.waiting ≡ waiting h
  first : f.first ≡ flag was Alarm0 h
  second : f.second ≡ flag was Alarm1 h

-- All else that holds, holds after the tick.
holds_ticked : (was : Mem) (h : History) (s : State) (m : Mem) (c : ℕ) (t : Timer) (f a : Alarms)
    → Times was (tick_entry h ∷ h) c t f → Holds was h s m → Holds was (tick_entry h ∷ h) (after_tick s c t f a) m
holds_ticked was h s m c t f a n k =
    record {
      levels = k.levels;
      supply = k.supply;
      pulled = k.pulled;
      counted = k.counted;
      wel_is = k.wel_is;
      rwel_is = k.rwel_is;
      cycle = n.cycle;
      rtcf_is = n.rtcf_is;
      divided = n.divided;
      shown = n.shown;
      waits = n.waits;
      first = n.first;
      second = n.second;
      fit = k.fit;
      sized = k.sized;
      bytes = k.bytes;
      life = k.life;
    }

-- An alarm as the module reads it.
alarm_read : (was : Mem) (h : History) (s : State) (m : Mem) (alarm : Section) → first_of alarm ≤ 8 → Holds was h s m
    → timer.alarm m alarm ≡ alarms.alarm was h alarm
alarm_read was h s m alarm low k =
    let at = λ (j : ℕ) (below : j < 8). k.bytes (place_of Registers (first_of alarm + j)) (omega arith) in
    λ i.
    record {
      bytes =
          record {
            seconds = at 0 (lit< tt) i;
            minutes = at 1 (lit< tt) i;
            hours = at 2 (lit< tt) i;
            date = at 3 (lit< tt) i;
            month = at 4 (lit< tt) i;
            year = at 5 (lit< tt) i;
            weekday = at 6 (lit< tt) i;
            century = at 7 (lit< tt) i;
          };
    }

-- What was on stays on, and a match puts it on.
or_on_match : (x b : Bool) → (x || b) ≡ on_match b x
or_on_match true true = refl
or_on_match true false = refl
or_on_match false true = refl
or_on_match false false = refl

-- A flag joined with what came.
flag_joined : (was : Mem) (h : History) (s : Section) (x b : Bool) → matched was s (tick_at h) ≡ b → x ≡ flag was s h
    → (x || b) ≡ flag was s (tick_entry h ∷ h)
flag_joined was h s x b e k = or_on_match x b ∙ (ap (on_match b) k ∙ sym (flag_by_match was h s b e))

-- The matches since the copy, joined with what came.
since_copy_joined : (was : Mem) (h : History) (s : Section) (x b : Bool) → matched was s (tick_at h) ≡ b → x ≡ matched_since_copy was s h
    → (x || b) ≡ matched_since_copy was s (tick_entry h ∷ h)
since_copy_joined was h s x b e k = or_on_match x b ∙ (ap (on_match b) k ∙ sym (since_copy_by_match was h s b e))

-- At a mark: the date moves on, and the alarms are looked at.
tick_mark : (was : Mem) (h : History) (s : State) (m : Mem) → wires.supplied h ≡ true → is_mark (tick_at h) ≡ true → Tracks was h s m
    → Tracks was (tick_entry h ∷ h)
    (after_tick s (s.cycle - 1) (marked s.timer) (joined s.flags (matching m (marked s.timer).clock))
    (joined s.copies.matched (matching m (marked s.timer).clock))) m
tick_mark was h s m u e k =
    let d : Clock = (marked s.timer).clock in
    let now : d ≡ clock (tick_entry h ∷ h) = ap₂ (λ (o : Option Clock) (x : Clock). unwrap_or o (next x)) k.holds.waits k.holds.shown ∙ sym (clock_moves h e) in
    let m0 : matched was Alarm0 (tick_at h) ≡ matches (timer.alarm m Alarm0) d =
    matched_mark was h Alarm0 (timer.alarm m Alarm0) d e (alarm_read was h s m Alarm0 (omega arith) k.holds) now in
    let m1 : matched was Alarm1 (tick_at h) ≡ matches (timer.alarm m Alarm1) d =
    matched_mark was h Alarm1 (timer.alarm m Alarm1) d e (alarm_read was h s m Alarm1 (omega arith) k.holds) now in
    record {
      holds =
          holds_ticked was h s m (s.cycle - 1) (marked s.timer) (joined s.flags (matching m d)) (joined s.copies.matched (matching m d))
          (record {
            cycle = ap (λ c. c - 1) k.holds.cycle ∙ sym (cycle_ticked h);
            rtcf_is = k.holds.rtcf_is;
            divided = ap divider_after k.holds.divided ∙ sym (divider_counts h u);
            shown = now;
            waits = sym (waiting_over h e);
            first = flag_joined was h Alarm0 s.flags.first (matches (timer.alarm m Alarm0) d) m0 k.holds.first;
            second = flag_joined was h Alarm1 s.flags.second (matches (timer.alarm m Alarm1) d) m1 k.holds.second;
          })
          k.holds;
      follows =
          follows_ticked was h s (s.cycle - 1) (marked s.timer) (joined s.flags (matching m d)) (joined s.copies.matched (matching m d))
          (since_copy_joined was h Alarm0 s.copies.matched.first (matches (timer.alarm m Alarm0) d) m0)
          (since_copy_joined was h Alarm1 s.copies.matched.second (matches (timer.alarm m Alarm1) d) m1)
          s.phase
          k.follows;
    }

-- At a tick that is no mark, whatever it makes of write cycle and divider.
tick_plain : (was : Mem) (h : History) (s : State) (m : Mem) (c : ℕ) (t : Timer) → is_mark (tick_at h) ≡ false
    → c ≡ wires.cycle_left (tick_entry h ∷ h) → t.divider ≡ divider (tick_entry h ∷ h)
    → t.rtcf ≡ s.timer.rtcf → t.clock ≡ s.timer.clock → t.waiting ≡ s.timer.waiting
    → Tracks was h s m → Tracks was (tick_entry h ∷ h) (after_tick s c t s.flags s.copies.matched) m
tick_plain was h s m c t e cs ds rs ts ws k =
    let m0 : matched was Alarm0 (tick_at h) ≡ false = matched_not was h Alarm0 e in
    let m1 : matched was Alarm1 (tick_at h) ≡ false = matched_not was h Alarm1 e in
    record {
      holds =
          holds_ticked was h s m c t s.flags s.copies.matched
          (record {
            cycle = cs;
            rtcf_is = rs ∙ k.holds.rtcf_is;
            divided = ds;
            shown = ts ∙ (k.holds.shown ∙ sym (clock_stands h e));
            waits = ws ∙ (k.holds.waits ∙ sym (waiting_on h e));
            first = k.holds.first ∙ sym (flag_by_match was h Alarm0 false m0);
            second = k.holds.second ∙ sym (flag_by_match was h Alarm1 false m1);
          })
          k.holds;
      follows =
          follows_ticked was h s c t s.flags s.copies.matched
          (λ x. x ∙ sym (since_copy_by_match was h Alarm0 false m0))
          (λ x. x ∙ sym (since_copy_by_match was h Alarm1 false m1))
          s.phase
          k.follows;
    }

-- Main supply is a supply.
no_supply_no_main : (p : Supply) → not (is_off p) ≡ false → is_main p ≡ false
no_supply_no_main Off e = refl
no_supply_no_main Main e = absurd (true≢false e)
no_supply_no_main Battery e = refl

-- Both sides mean the same by supply.
pub same_supplied : (p : Supply) → is_supplied p ≡ not (is_off p)
same_supplied Off = refl
same_supplied Main = refl
same_supplied Battery = refl

-- A tick without supply changes nothing.
tick_unsupplied : (was : Mem) (h : History) (s : State) (m : Mem) → Quiet h → wires.supplied h ≡ false → Tracks was h s m
    → Tracks was (tick_entry h ∷ h) s m
tick_unsupplied was h s m q u k =
    let z : wires.cycle_left h ≡ 0 = cycle_none h q (no_supply_no_main (wires.supply h) u) in
    tick_plain was h s m s.cycle s.timer (marks_never h u)
    (k.holds.cycle ∙ (z ∙ sym (cycle_ticked h ∙ ap (λ c. c - 1) z)))
    (k.holds.divided ∙ sym (divider_stands h u))
    refl refl refl k

-- A tick while supplied.
tick_supplied : (was : Mem) (h : History) (s : State) (m : Mem) → wires.supplied h ≡ true → Tracks was h s m
    → Tracks was (tick_entry h ∷ h) (timed (with_cycle (s.cycle - 1) s) m) m
tick_supplied was h s m u k = go (is_mark (tick_at h)) refl
  where
    same : (completes s.timer.divider && not s.timer.rtcf) ≡ is_mark (tick_at h)
    same = ap₂ (λ (d : ℕ) (r : Bool). completes d && not r) k.holds.divided k.holds.rtcf_is ∙ sym (marks_where h u)

    go : (b : Bool) → is_mark (tick_at h) ≡ b → Tracks was (tick_entry h ∷ h) (timed (with_cycle (s.cycle - 1) s) m) m
    go true e =
        subst (λ (x : State). Tracks was (tick_entry h ∷ h) x m)
        (sym
        (cond-true (completes s.timer.divider && not s.timer.rtcf) (noted (with_timer (marked s.timer) (with_cycle (s.cycle - 1) s)) m)
        (with_timer (counted s.timer) (with_cycle (s.cycle - 1) s)) (same ∙ e)))
        (tick_mark was h s m u e k)
    go false e =
        subst (λ (x : State). Tracks was (tick_entry h ∷ h) x m)
        (sym
        (cond-false (completes s.timer.divider && not s.timer.rtcf) (noted (with_timer (marked s.timer) (with_cycle (s.cycle - 1) s)) m)
        (with_timer (counted s.timer) (with_cycle (s.cycle - 1) s)) (same ∙ e)))
        (tick_plain was h s m (s.cycle - 1) (counted s.timer) e
        (ap (λ c. c - 1) k.holds.cycle ∙ sym (cycle_ticked h))
        (ap divider_after k.holds.divided ∙ sym (divider_counts h u))
        refl refl refl k)

-- The step of a tick keeps to the rules.
pub tick_tracks : (was : Mem) (h : History) (s : State) (m : Mem) → Quiet h → Tracks was h s m
    → Tracks was (entry_of was Ticked h ∷ h) (ticked s m) m
tick_tracks was h s m q k = go (wires.supplied h) refl
  where
    same : is_supplied s.supply ≡ wires.supplied h
    same = ap is_supplied k.holds.supply ∙ same_supplied (wires.supply h)

    go : (b : Bool) → wires.supplied h ≡ b → Tracks was (tick_entry h ∷ h) (ticked s m) m
    go true u =
        subst (λ (x : State). Tracks was (tick_entry h ∷ h) x m)
        (sym (cond-true (is_supplied s.supply) (timed (with_cycle (s.cycle - 1) s) m) s (same ∙ u)))
        (tick_supplied was h s m u k)
    go false u =
        subst (λ (x : State). Tracks was (tick_entry h ∷ h) x m)
        (sym (cond-false (is_supplied s.supply) (timed (with_cycle (s.cycle - 1) s) m) s (same ∙ u)))
        (tick_unsupplied was h s m q u k)
