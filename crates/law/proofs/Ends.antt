-- The ways out of a stop: what each outcome leaves, by the rules and in the module.
use Rattle.std.proofs.Common.{◌≡◌, ℕ, ◌+◌, ◌-◌, ◌<◌, Bool, true, false, cond, eqb, ◌∷◌, length, get_or, Some, None, Option, unwrap_or, sym, refl, ap, ◌∙◌, inl, ⊎_elim, arith}
use Rattle.std.proofs.lemmas.Bool.{both_ways, cases_Bool}
use Rattle.calendar.specs.declared.clock.Clock.{Clock}
use Rattle.memory.specs.Model.{Mem}
use Rattle.memory.specs.Sizes.{places}
use Rattle.chip.specs.Sizes.{write_cycle}
use Rattle.chip.specs.declared.calls.Event.TheVariants.{Given}
use Rattle.chip.specs.declared.refusals.Refusal.{Refusal}
use Rattle.chip.specs.declared.slaves.Area.{Area}
use Rattle.chip.specs.declared.slaves.Area.TheVariants.{Array, Registers}
use Rattle.chip.specs.declared.wires.Edge.TheVariants.{Stop}
use Rattle.chip.specs.declared.wires.Levels.{Levels}
use Rattle.rules.specs.Past.{History, Entry, Write, Outcome, Idle, Refused, Stored, Waits, Status, moments, latest, all_of, lawful_write, refusal_of}
use Rattle.rules.specs.Wires as wires
use Rattle.rules.specs.Stored.{stored, life_left, sent_raw, sends, sent_to, cost, cost_of, total}
use Rattle.rules.specs.Latches.{wel, rwel, sets_wel, sets_rwel, write_sets_rwel}
use Rattle.rules.specs.Clock.{rtcf, waiting}
use Rattle.x1226.specs.declared.state.Phase.TheVariants.{Deaf}
use Rattle.x1226.specs.declared.state.Alarms.{Alarms}
use Rattle.x1226.specs.declared.state.Timer.{Timer}
use Rattle.x1226.specs.declared.state.State.{State}
use Rattle.x1226.specs.State.{with_levels, with_phase, with_staging, with_latches, with_cycle, nothing_staged}
use Rattle.x1226.specs.Stop.{Left, passed, refused, ended, rwel_off, clock_waits, latches_after}
use Rattle.law.proofs.Back.{chosen, passed_over}
use Rattle.law.proofs.Tracks.{Holds, Tracks}
use Rattle.law.proofs.Storing.{HeldStored}

-- The entry of a level call that is a stop, with what came of it.
abbrev pub closing : Levels → Outcome → History → Entry
closing l o h = record { event = Given l; edge = Stop; pulls = wires.pulls h; outcome = o }

-- What the module leaves at a stop is what the rules say of an outcome.
abbrev pub Stops : Mem → History → Levels → Outcome → Left → Type 0
Stops was h l o left =
    Tracks was (closing l o h ∷ h) (with_levels l (ended left).state) (ended left).mem × ((ended left).refusal ≡ refusal_of o)

-- What an outcome may change of state and memory.
pub record Ends (was : Mem) (h : History) (l : Levels) (o : Outcome) (t : State) (n : Mem) : Type 0 where
  pub wel_is : t.latches.wel ≡ wel (closing l o h ∷ h)
  pub rwel_is : t.latches.rwel ≡ rwel (closing l o h ∷ h)
  pub cycle : t.cycle ≡ wires.cycle_left (closing l o h ∷ h)
  pub rtcf_is : t.timer.rtcf ≡ rtcf (closing l o h ∷ h)
  pub waits : t.timer.waiting ≡ waiting (closing l o h ∷ h)
  pub fit : n.fit ≡ true
  pub sized : length n.bytes ≡ places
  pub bytes : (p : ℕ) → p < places → get_or n.bytes p 0 ≡ stored was (closing l o h ∷ h) p
  pub life : n.life ≡ life_left was (closing l o h ∷ h)

-- A bus that hears is on main supply.
pub hears_main : (h : History) → wires.hears h ≡ true → wires.on_main h ≡ true
hears_main h hearing =
    ⊎_elim (λ e. e)
    (λ e. absurd (both_ways (wires.hears h) (passed_over (wires.on_main h) (eqb (wires.cycle_left h) 0) false e) hearing))
    (cases_Bool (wires.on_main h))

-- The latest of two answers.
latest_or : {A : Type 0} (o p : Option A) (d : A)
    → unwrap_or (elim o as (λ _. Option A) [ Some x ↦ Some x | None ↦ p ]) d ≡ unwrap_or o (unwrap_or p d)
latest_or (Some x) p d = refl
latest_or None p d = refl

-- A life that falls once more.
life_falls : (x c t : ℕ) → x - t - c ≡ x - (c + t)
life_falls x c t = omega arith

module _ (was : Mem) (h : History) (s : State) (m : Mem) (l : Levels)
    (hearing : wires.hears h ≡ true) (free : wires.pulls h ≡ false) (k : Holds was h s m) where
  -- Every outcome leaves the module deaf outside a frame.
  ends_tracks : (o : Outcome) (t : State) (n : Mem)
      → t.supply ≡ s.supply → t.counter ≡ s.counter → t.flags ≡ s.flags
      → t.timer.divider ≡ s.timer.divider → t.timer.clock ≡ s.timer.clock
      → Ends was h l o t n
      → Tracks was (closing l o h ∷ h) (with_levels l (with_phase Deaf (with_staging nothing_staged t))) n
  ends_tracks o t n es ec ef ed et e =
      record {
        holds =
            record {
              levels = refl;
              supply = es ∙ k.supply;
              pulled = sym free;
              counted = ec ∙ k.counted;
              wel_is = e.wel_is;
              rwel_is = e.rwel_is;
              cycle = e.cycle;
              rtcf_is = e.rtcf_is;
              divided = ed ∙ k.divided;
              shown = et ∙ k.shown;
              waits = e.waits;
              first = ap (λ (x : Alarms). x.first) ef ∙ k.first;
              second = ap (λ (x : Alarms). x.second) ef ∙ k.second;
              fit = e.fit;
              sized = e.sized;
              bytes = e.bytes;
              life = e.life;
            };
        follows = inl refl;
      }

  -- Nothing closed: all stays.
  pub idle_stops : Stops was h l Idle (passed s m)
  idle_stops = (
    ends_tracks Idle s m refl refl refl refl refl
        (record {
          wel_is = k.wel_is;
          rwel_is = k.rwel_is;
          cycle = k.cycle;
          rtcf_is = k.rtcf_is;
          waits = k.waits;
          fit = k.fit;
          sized = k.sized;
          bytes = k.bytes;
          life = k.life;
        }),
    refl,
  )

  -- Refused: all stays, and the refusal is told.
  pub refused_stops : (r : Refusal) → Stops was h l (Refused r) (refused r s m)
  refused_stops r = (
    ends_tracks (Refused r) s m refl refl refl refl refl
        (record {
          wel_is = k.wel_is;
          rwel_is = k.rwel_is;
          cycle = k.cycle;
          rtcf_is = k.rtcf_is;
          waits = k.waits;
          fit = k.fit;
          sized = k.sized;
          bytes = k.bytes;
          life = k.life;
        }),
    refl,
  )

  -- WEL by what the outcome makes of it.
  abbrev wel_by : Option Bool → Bool
  wel_by o =
      elim (wires.on_main h) as (λ _. Bool) [
        | true ↦
            unwrap_or
            (elim o as (λ _. Option Bool) [
              | Some x ↦ Some x
              | None ↦ latest (λ n. sets_wel n.entry.outcome) (wires.since_main h)
            ])
            false
        | false ↦ false
      ]

  -- RWEL by what the outcome makes of it.
  abbrev rwel_by : Option Bool → Bool
  rwel_by o =
      elim (wires.on_main h) as (λ _. Bool) [
        | true ↦
            unwrap_or
            (elim o as (λ _. Option Bool) [
              | Some x ↦ Some x
              | None ↦ latest (λ n. sets_rwel n.entry.outcome (wel n.before)) (wires.since_main h)
            ])
            false
        | false ↦ false
      ]

  -- On main supply WEL is what the outcome sets.
  set_wel : (v : Bool) → wel_by (Some v) ≡ v
  set_wel v = chosen (wires.on_main h) v false (hears_main h hearing)

  -- So is RWEL.
  set_rwel : (v : Bool) → rwel_by (Some v) ≡ v
  set_rwel v = chosen (wires.on_main h) v false (hears_main h hearing)

  -- A clock write that passed: its bytes wait, and RTCF and RWEL are off.
  pub waits_stops : (c : Clock) → Stops was h l (Waits c) (passed (clock_waits c s) m)
  waits_stops c = (
    ends_tracks (Waits c) (clock_waits c s) m refl refl refl refl refl
        (record {
          wel_is = k.wel_is;
          rwel_is = sym (set_rwel false);
          cycle = k.cycle;
          rtcf_is = refl;
          waits = refl;
          fit = k.fit;
          sized = k.sized;
          bytes = k.bytes;
          life = k.life;
        }),
    refl,
  )

  -- A status write moves WEL alike in the module and by the rules.
  latch_wel : (x y z : Bool)
      → (cond x (record { wel = true; rwel = false })
      (cond y (record { wel = false; rwel = false })
      (cond z (record { wel = s.latches.wel; rwel = cond s.latches.wel true s.latches.rwel }) s.latches))).wel
      ≡ wel_by (cond x (Some true) (cond y (Some false) None))
  latch_wel true y z = sym (set_wel true)
  latch_wel false true z = sym (set_wel false)
  latch_wel false false true = k.wel_is
  latch_wel false false false = k.wel_is

  -- It moves RWEL alike.
  latch_rwel : (x y z : Bool)
      → (cond x (record { wel = true; rwel = false })
      (cond y (record { wel = false; rwel = false })
      (cond z (record { wel = s.latches.wel; rwel = cond s.latches.wel true s.latches.rwel }) s.latches))).rwel
      ≡ rwel_by (cond y (Some false) (cond x (Some false) (cond z (cond (wel h) (Some true) None) None)))
  latch_rwel true true z = sym (set_rwel false)
  latch_rwel true false z = sym (set_rwel false)
  latch_rwel false true z = sym (set_rwel false)
  latch_rwel false false false = k.rwel_is
  latch_rwel false false true =
      ap (λ (w : Bool). cond w true s.latches.rwel) k.wel_is ∙ go (wel h)
    where
      go : (w : Bool) → cond w true s.latches.rwel ≡ rwel_by (cond w (Some true) None)
      go true = sym (set_rwel true)
      go false = k.rwel_is

  -- A status write moves the latches and nothing else.
  pub status_stops : (b : ℕ) → Stops was h l (Status b) (passed (with_latches (latches_after b s.latches) s) m)
  status_stops b = (
    ends_tracks (Status b) (with_latches (latches_after b s.latches) s) m refl refl refl refl refl
        (record {
          wel_is = latch_wel (eqb b 0x02) (eqb b 0x00) (eqb b 0x06);
          rwel_is = latch_rwel (eqb b 0x02) (eqb b 0x00) (eqb b 0x06);
          cycle = k.cycle;
          rtcf_is = k.rtcf_is;
          waits = k.waits;
          fit = k.fit;
          sized = k.sized;
          bytes = k.bytes;
          life = k.life;
        }),
    refl,
  )

  module _ (w : Write) (n : Mem) (kept : HeldStored w.area (sent_raw w) m n) where
    -- The bytes after a lawful write.
    written_bytes : (p : ℕ) → p < places → get_or n.bytes p 0 ≡ stored was (closing l (Stored w) h ∷ h) p
    written_bytes p small =
        kept.bytes p small
        ∙ ap (λ (b : ℕ). unwrap_or (sends w p) b) (k.bytes p small)
        ∙ sym (latest_or (sends w p) (latest (λ x. sent_to p (lawful_write x.entry.outcome)) (moments h)) (get_or was.bytes p 0))

    -- The life after it.
    written_life : n.life ≡ life_left was (closing l (Stored w) h ∷ h)
    written_life =
        kept.life
        ∙ ap (λ (x : ℕ). x - cost w) k.life
        ∙ life_falls was.life (cost w) (total (all_of (λ x. cost_of (lawful_write x.entry.outcome)) (moments h)))

    -- All that a lawful write changes: RWEL by its area, and a write cycle opens.
    stored_ends : (t : State) → t.latches.wel ≡ s.latches.wel → t.latches.rwel ≡ rwel_by (write_sets_rwel w.area)
        → t.cycle ≡ write_cycle → t.timer ≡ s.timer → Ends was h l (Stored w) t n
    stored_ends t ew er ec et =
        record {
          wel_is = ew ∙ k.wel_is;
          rwel_is = er;
          cycle = ec;
          rtcf_is = ap (λ (x : Timer). x.rtcf) et ∙ k.rtcf_is;
          waits = ap (λ (x : Timer). x.waiting) et ∙ k.waits;
          fit = kept.fit;
          sized = kept.sized;
          bytes = written_bytes;
          life = written_life;
        }

    -- A lawful array write leaves RWEL.
    pub array_stored : w.area ≡ Array → Stops was h l (Stored w) (passed (with_cycle write_cycle s) n)
    array_stored e = (
      ends_tracks (Stored w) (with_cycle write_cycle s) n refl refl refl refl refl
          (stored_ends (with_cycle write_cycle s) refl (k.rwel_is ∙ sym (ap (λ (a : Area). rwel_by (write_sets_rwel a)) e)) refl refl),
      refl,
    )

    -- A lawful register write puts RWEL off.
    pub registers_stored : w.area ≡ Registers → Stops was h l (Stored w) (passed (with_cycle write_cycle (rwel_off s)) n)
    registers_stored e = (
      ends_tracks (Stored w) (with_cycle write_cycle (rwel_off s)) n refl refl refl refl refl
          (stored_ends (with_cycle write_cycle (rwel_off s)) refl
          (sym (set_rwel false) ∙ sym (ap (λ (a : Area). rwel_by (write_sets_rwel a)) e)) refl refl),
      refl,
    )
