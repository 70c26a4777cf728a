-- A level call that moves nothing on the wires, and a start.
use Rattle.std.proofs.Common.{◌≡◌, suc, ◌+◌, ◌*◌, Bool, true, false, ◌∷◌, sym, refl, ap, ◌∙◌, subst, inl, inr, arith}
use Rattle.std.proofs.lemmas.Bool.{both_ways}
use Rattle.memory.specs.Model.{Mem}
use Rattle.chip.specs.declared.wires.Edge.TheVariants.{Start, Still}
use Rattle.chip.specs.declared.wires.Levels.{Levels}
use Rattle.rules.specs.Past.{History}
use Rattle.rules.specs.Wires as wires
use Rattle.rules.specs.Frames.{sampled}
use Rattle.rules.specs.Counter.{counter}
use Rattle.x1226.specs.declared.state.Phase.{Phase}
use Rattle.x1226.specs.declared.state.Phase.TheVariants.{Deaf, Receiving, Acknowledging, Sending, Listening}
use Rattle.x1226.specs.declared.state.State.{State}
use Rattle.x1226.specs.State.{with_levels, nothing_staged}
use Rattle.x1226.specs.Frame.{started}
use Rattle.law.proofs.Tracks.{scl, half, Open, Copied, DeafnessUnder, Follows, Tracks}
use Rattle.law.proofs.Calm.{calm, calm_holds, byte_sent_calm}

-- A frame is open only on a bus that hears.
unheard : (h : History) → wires.hears h ≡ false → Open h → ⊥
unheard h deaf o = both_ways (wires.hears h) deaf o.hearing

module _ (was : Mem) (h : History) (s : State) (m : Mem) (l : Levels) where
  -- Where the bus does not hear, no frame is open, and levels are only remembered.
  unheard_follows : (p : Phase) → wires.hears h ≡ false → Follows was h s p
      → Follows was (calm l Still h ∷ h) (with_levels l s) p
  unheard_follows Deaf deaf (inl e) = inl e
  unheard_follows Deaf deaf (inr d) = absurd (unheard h deaf d.0)
  unheard_follows (Receiving stage bits shift) deaf f = absurd (unheard h deaf f.1.opened)
  unheard_follows (Acknowledging stage byte) deaf f = absurd (unheard h deaf f.1.opened)
  unheard_follows (Sending sent byte) deaf f = absurd (unheard h deaf f.1.opened)
  unheard_follows Listening deaf f = absurd (unheard h deaf f.1.opened)

  pub unheard_tracks : wires.hears h ≡ false → Tracks was h s m → Tracks was (calm l Still h ∷ h) (with_levels l s) m
  unheard_tracks deaf t =
      record {
        holds = calm_holds was h l Still refl s m s.phase s.staging t.holds t.holds.pulled;
        follows = unheard_follows s.phase deaf t.follows;
      }

  still_open : Open h → Open (calm l Still h ∷ h)
  still_open o = record { open_frame = o.open_frame; hearing = o.hearing }

  still_copied : Copied was h s → Copied was (calm l Still h ∷ h) (with_levels l s)
  still_copied c =
      record {
        reads_area = c.reads_area;
        from = c.from;
        found = c.found;
        clock_is = c.clock_is;
        status_is = c.status_is;
        first_since = c.first_since;
        second_since = c.second_since;
      }

  -- What is heard stays as it is where SCL does.
  still_follows : (p : Phase) → scl h ≡ l.scl → Follows was h s p → Follows was (calm l Still h ∷ h) (with_levels l s) p
  still_follows Deaf e (inl d) = inl d
  still_follows Deaf e (inr d) =
      inr (still_open d.0, subst (λ (b : Bool). DeafnessUnder b (counter h) (sampled h)) e d.1)
  still_follows (Receiving stage bits shift) e (k, t) = (
    k,
    record {
      opened = still_open t.opened;
      acked = t.acked;
      long = t.long;
      few = t.few;
      high_at_eight = λ b. sym e ∙ t.high_at_eight b;
      low_at_none = λ b c. sym e ∙ t.low_at_none b c;
      stage_is = t.stage_is;
      shift_is = t.shift_is;
      fresh = t.fresh;
      said = t.said;
    },
  )
  still_follows (Acknowledging stage byte) e (k, t) = (
    k,
    record {
      opened = still_open t.opened;
      acked = t.acked;
      long = t.long ∙ ap (λ (b : Bool). 9 * k + 8 + half b) e;
      taken = t.taken;
      ninth_pulled = λ b. t.ninth_pulled (e ∙ b);
      stage_is = t.stage_is;
      byte_is = t.byte_is;
      fresh = t.fresh;
      said = t.said;
    },
  )
  still_follows (Sending sent byte) e (k, t) = (
    k,
    record {
      opened = still_open t.opened;
      copied = still_copied t.copied;
      long = t.long ∙ ap (λ (b : Bool). 9 * suc k + sent + half b) e;
      few = t.few;
      sends = t.sends;
      byte_is = t.byte_is ∙ sym (byte_sent_calm was h l Still refl refl s.area t.copied.from t.copied.found);
    },
  )
  still_follows Listening e (k, t) = (
    k,
    record {
      opened = still_open t.opened;
      copied = still_copied t.copied;
      long = t.long ∙ ap (λ (b : Bool). 9 * suc k + 8 + half b) e;
      answered = t.answered;
      asked = t.asked;
      low = λ b. t.low (e ∙ b);
      no_status = t.no_status;
    },
  )

  pub still_tracks : scl h ≡ l.scl → Tracks was h s m → Tracks was (calm l Still h ∷ h) (with_levels l s) m
  still_tracks e t =
      record {
        holds = calm_holds was h l Still refl s m s.phase s.staging t.holds t.holds.pulled;
        follows = still_follows s.phase e t.follows;
      }

  -- A start opens a frame with nothing heard yet.
  pub start_tracks : wires.hears h ≡ true → wires.pulls h ≡ false → Tracks was h s m
      → Tracks was (calm l Start h ∷ h) (with_levels l (started s)) m
  start_tracks hearing free t =
      record {
        holds = calm_holds was h l Start refl s m (Receiving 0 0 0) nothing_staged t.holds (sym free);
        follows = (
          0,
          record {
            opened = record { open_frame = refl; hearing = hearing };
            acked = refl;
            long = refl;
            few = omega arith;
            high_at_eight = λ b. absurd (omega arith);
            low_at_none = λ b c. absurd (omega arith);
            stage_is = refl;
            shift_is = refl;
            fresh = λ b. refl;
            said = tt;
          },
        );
      }
