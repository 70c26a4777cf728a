-- A fall while a byte is being received: after its eighth bit it is acknowledged or met with silence.
use Rattle.std.proofs.Common.{◌≡◌, ℕ, zero, suc, ◌+◌, ◌*◌, ◌/◌, ◌<◌, min, Bool, true, false, cond, ◌&&◌, eqb, ltb, List, ◌∷◌, ◌++◌, map, length, is_some, Some, None, Option, sym, refl, ap, ◌∙◌, subst, ⊎_elim, add-zero, arith}
use Rattle.std.proofs.lemmas.List.{get_or_at}
use Rattle.std.proofs.lemmas.Bool.{both_ways, eq-eqb, ne_eqb, le-ltb, cases_Bool, cases_eq}
use Rattle.memory.specs.Model.{Mem}
use Rattle.calendar.specs.declared.clock.Clock.{Clock}
use Rattle.chip.specs.Counter.{takes_data}
use Rattle.chip.specs.Slaves.{slave_named}
use Rattle.chip.specs.declared.registers.Section.TheVariants.{Alarm0, Alarm1}
use Rattle.chip.specs.declared.slaves.Area.{Area}
use Rattle.chip.specs.declared.wires.Levels.{Levels}
use Rattle.rules.specs.Past.{History}
use Rattle.rules.specs.Frames.{Sample, no_sample, in_frame, sampled, byte_at, slave, area_written, area_read, address, takes_after_slave}
use Rattle.rules.specs.Frames as frames
use Rattle.rules.specs.Counter.{counter, sends_byte, at_fall}
use Rattle.rules.specs.Latches.{wel}
use Rattle.rules.specs.Alarms.{status_sent, sends_status}
use Rattle.rules.specs.Reads.{pull_at_fall}
use Rattle.x1226.specs.declared.state.Phase.{Phase}
use Rattle.x1226.specs.declared.state.Phase.TheVariants.{Deaf, Receiving, Acknowledging}
use Rattle.x1226.specs.declared.state.Staging.{Staging}
use Rattle.x1226.specs.declared.state.State.{State}
use Rattle.x1226.specs.State.{with_levels, with_phase}
use Rattle.x1226.specs.Frame.{pulls, takes, fallen_in}
use Rattle.law.proofs.Tracks.{scl, half, Holds, Taking, Said, addressed_at, unpulled, Silent, Tracks}
use Rattle.law.proofs.Samples.{byte_whole, slave_more}
use Rattle.law.proofs.Rules.{writes_no_read, none_some, nothing_sent, count_stays}
use Rattle.law.proofs.Silence.{unanswered_silent, silent_from, silent_length, silence_on}
use Rattle.law.proofs.Falling.{fell, flag_kept, fall_holds, opened_still, copied_stays, addressed_stays, pull_eighth, pull_other, count_open, status_elsewhere, status_over}

-- After its first byte a frame that is being received is a write.
pub said_write : (k : ℕ) (xs : List Sample) (at : Option History) (area : Area) (high : ℕ) (staging : Staging) (c : ℕ) (copy : Clock)
    → 0 < k → Said xs at area high staging c copy k → area_written (slave xs) ≡ Some area
said_write zero xs at area high staging c copy l t = absurd (omega arith)
said_write (suc zero) xs at area high staging c copy l t = t
said_write (suc (suc zero)) xs at area high staging c copy l t = t.0
said_write (suc (suc (suc n))) xs at area high staging c copy l t = t.0

stage_cases : (n : ℕ) → eqb (min 4 (suc (suc (suc n)))) 3 ≡ eqb n 0
stage_cases n =
    ⊎_elim (λ e. eq-eqb (min 4 (suc (suc (suc n)))) 3 (omega arith) ∙ sym (eq-eqb n 0 e))
    (λ ne. ne_eqb (min 4 (suc (suc (suc n)))) 3 (λ q. ne (omega arith)) ∙ sym (ne_eqb n 0 ne)) (cases_eq n 0)

-- Module and rules take the same bytes.
pub takes_agrees : (was : Mem) (h : History) (s : State) (m : Mem) (stage byte k : ℕ) → Holds was h s m → stage ≡ min 4 k → byte ≡ byte_at k (sampled h)
    → Said (sampled h) (addressed_at h) s.area s.high s.staging s.counter s.copies.clock k
    → takes s stage byte ≡ frames.takes (wel h) (sampled h) k
takes_agrees was h s m stage byte zero t es eb said =
    ap (λ (n : ℕ). takes s n byte) es ∙ ap (λ (b : ℕ). is_some (slave_named b)) eb
takes_agrees was h s m stage byte (suc zero) t es eb said =
    ap (λ (n : ℕ). takes s n byte) es ∙ sym (ap (λ (o : Option Area). takes_after_slave (wel h) o (sampled h) 0) said)
takes_agrees was h s m stage byte (suc (suc zero)) t es eb said =
    ap (λ (n : ℕ). takes s n byte) es ∙ sym (ap (λ (o : Option Area). takes_after_slave (wel h) o (sampled h) 1) said.0)
takes_agrees was h s m stage byte (suc (suc (suc n))) t es eb said =
    ap (λ (b : Bool). cond b (is_some (slave_named byte)) (cond (ltb stage 3) true (takes_data s.latches.wel s.area s.staging.address (eqb stage 3))))
    (ne_eqb stage 0 (λ q. omega arith))
    ∙ ap (λ (b : Bool). cond b true (takes_data s.latches.wel s.area s.staging.address (eqb stage 3))) (le-ltb stage 3 (omega arith))
    ∙ ap (λ (b : Bool). takes_data s.latches.wel s.area s.staging.address b) (ap (λ (j : ℕ). eqb j 3) es ∙ stage_cases n)
    ∙ ap (λ (w : Bool). takes_data w s.area s.staging.address (eqb n 0)) t.wel_is
    ∙ ap (λ (a : ℕ). takes_data (wel h) s.area a (eqb n 0)) said.1.address_is
    ∙ sym (ap (λ (o : Option Area). takes_after_slave (wel h) o (sampled h) (suc (suc n))) said.0)

module _ (was : Mem) (h : History) (s : State) (m : Mem) (l : Levels) (was-high : scl h ≡ true) (is-low : l.scl ≡ false)
    (stage bits shift k : ℕ) (t : Taking h s stage bits shift k) (hold : Holds was h s m) where
  abbrev open_now : in_frame h ≡ true
  open_now = t.opened.open_frame

  written : 0 < k → area_written (slave (sampled h)) ≡ Some s.area
  written pos = said_write k (sampled h) (addressed_at h) s.area s.high s.staging s.counter s.copies.clock pos t.said

  unread : 0 < k → area_read (slave (sampled h)) ≡ None
  unread pos = writes_no_read (slave (sampled h)) s.area (written pos)

  -- Such a fall never ends an acknowledge or a byte sent.
  taking_count : at_fall h (counter h) ≡ counter h
  taking_count =
      count_open was h l open_now (counter h)
      ∙ count_stays (sampled h) (counter h)
      (λ area e r n. absurd (both_ways (scl h) (t.low_at_none (omega (arith, t.long, t.few)) (omega (arith, t.long, t.few))) was-high))
      (λ area e r. ⊎_elim (λ z. first_byte area (length (sampled h) / 9) (omega (arith, t.long, t.few)))
      (λ n. absurd (none_some area (area_read (slave (sampled h))) (unread (omega arith)) e)) (cases_eq k 0))
    where
      first_byte : (area : Area) (n : ℕ) → n ≡ 0 → sends_byte area (counter h) (sampled h) n ≡ false
      first_byte area n z = ap (sends_byte area (counter h) (sampled h)) z

  taking_status : status_sent (record { entry = fell was l h; before = h }) ≡ false
  taking_status =
      ⊎_elim
      (λ e. status_over was h l open_now e
      ∙ ap (λ (o : Option Area). sends_status o (sampled h) (counter h)) (unread (omega (arith, t.long, t.few))))
      (λ n. status_elsewhere was h l open_now n)
      (cases_eq (length (sampled h)) 17)

  taking_holds : (p : Phase) → pulls p ≡ pull_at_fall was h → Holds was (fell was l h ∷ h) (with_levels l (with_phase p s)) m
  taking_holds p e =
      fall_holds was h l s m (with_phase p s) hold refl refl refl refl e (hold.counted ∙ sym taking_count)
      (hold.first ∙ sym (flag_kept was h l Alarm0 taking_status)) (hold.second ∙ sym (flag_kept was h l Alarm1 taking_status))

  -- The byte is not full: nothing happens.
  taking_goes_on : (bits ≡ 8 → ⊥) → Tracks was (fell was l h ∷ h) (with_levels l (with_phase (Receiving stage bits shift) s)) m
  taking_goes_on ne =
      record {
        holds = taking_holds (Receiving stage bits shift)
            (sym (pull_other was h l open_now (λ r. ne (omega (arith, t.long, t.few)))
            ∙ nothing_sent was h (sampled h)
            (λ area e. ⊎_elim (λ z. ap (sends_byte area (counter h) (sampled h)) (none_yet (length (sampled h)) z t.long))
            (λ n. absurd (none_some area (area_read (slave (sampled h))) (unread (omega arith)) e)) (cases_eq k 0))));
        follows = (
          k,
          record {
            opened = opened_still was h l t.opened;
            acked = t.acked;
            long = t.long;
            few = t.few;
            high_at_eight = λ e. absurd (ne e);
            low_at_none = λ e pos. is-low;
            stage_is = t.stage_is;
            shift_is = t.shift_is;
            fresh = λ e. copied_stays was h l (λ n. omega (arith, t.long, t.few)) ∙ t.fresh e;
            said = subst (λ (o : Option History). Said (sampled h) o s.area s.high s.staging s.counter s.copies.clock k)
                (sym (addressed_stays was h l (λ n. not_27 n))) t.said;
          },
        );
      }
    where
      none_yet : (n : ℕ) → k ≡ 0 → n ≡ 9 * k + bits → n / 9 ≡ 0
      none_yet n z e = omega (arith, t.few)

      not_27 : length (sampled h) ≡ 27 → ⊥
      not_27 n = both_ways (scl h) (t.low_at_none (omega (arith, t.long, t.few)) (omega (arith, t.long, t.few))) was-high

  module _ (full : bits ≡ 8) where
    long : length (sampled h) ≡ 9 * k + 8
    long = t.long ∙ ap (λ (n : ℕ). 9 * k + n) full

    byte_is : shift ≡ byte_at k (sampled h)
    byte_is = t.shift_is ∙ byte_whole k (sampled h) long

    agrees : takes s stage shift ≡ frames.takes (wel h) (sampled h) k
    agrees = takes_agrees was h s m stage shift k hold t.stage_is byte_is t.said

    pulled_is : pull_at_fall was h ≡ takes s stage shift
    pulled_is =
        pull_eighth was h l open_now k long
        ∙ ap (λ (b : Bool). b && frames.takes (wel h) (sampled h) k) t.acked ∙ sym agrees

    -- The byte is taken, and acknowledged.
    taking_acknowledges : takes s stage shift ≡ true → Tracks was (fell was l h ∷ h) (with_levels l (with_phase (Acknowledging stage shift) s)) m
    taking_acknowledges yes' =
        record {
          holds = taking_holds (Acknowledging stage shift) (sym (pulled_is ∙ yes'));
          follows = (
            k,
            record {
              opened = opened_still was h l t.opened;
              acked = t.acked;
              long = long ∙ sym (add-zero (9 * k + 8)) ∙ ap (λ (b : Bool). 9 * k + 8 + half b) (sym is-low);
              taken = sym agrees ∙ yes';
              ninth_pulled = λ e. absurd (both_ways l.scl is-low e);
              stage_is = t.stage_is;
              byte_is = byte_is;
              fresh = λ e. copied_stays was h l (λ n. omega (arith, long)) ∙ t.fresh e;
              said = subst (λ (o : Option History). Said (sampled h) o s.area s.high s.staging s.counter s.copies.clock k)
                  (sym (addressed_stays was h l (λ n. omega (arith, long)))) t.said;
            },
          );
        }

    -- The byte is met with silence, and whatever comes after it too.
    taking_silent : takes s stage shift ≡ false → Tracks was (fell was l h ∷ h) (with_levels l (with_phase Deaf s)) m
    taking_silent no' =
        record {
          holds = taking_holds Deaf (sym (pulled_is ∙ no'));
          follows = silence_on was h s m l was-high is-low t.opened taking_count
              (silent_from (counter h) (sampled h) (λ ys v vs e. subst (Silent (counter h)) (sym e) (after v vs)));
        }
      where
        after : (v : Bool) (vs : List Bool) → Silent (counter h) (sampled h ++ (unpulled v ∷ map unpulled vs))
        after v vs =
            unanswered_silent (counter h) k (sampled h ++ (unpulled v ∷ map unpulled vs))
            (omega (arith, silent_length (sampled h) v vs, long))
            (ap (λ (y : Sample). y.pulled) (get_or_at (sampled h) (unpulled v) (map unpulled vs) no_sample (9 * k + 8) long))
            (λ pos. ap area_read (slave_more (sampled h) (unpulled v ∷ map unpulled vs) (omega (arith, long))) ∙ unread pos)

  pub taking_falls : Tracks was (fell was l h ∷ h) (with_levels l (fallen_in (Receiving stage bits shift) (with_phase (Receiving stage bits shift) s) m)) m
  taking_falls =
      ⊎_elim
      (λ e. subst (λ (b : Bool). Tracks was (fell was l h ∷ h)
      (with_levels l (cond b (with_phase (cond (takes s stage shift) (Acknowledging stage shift) Deaf) s) (with_phase (Receiving stage bits shift) s))) m)
      (sym (eq-eqb bits 8 e))
      (⊎_elim
      (λ y. subst (λ (b : Bool). Tracks was (fell was l h ∷ h) (with_levels l (with_phase (cond b (Acknowledging stage shift) Deaf) s)) m)
      (sym y) (taking_acknowledges e y))
      (λ n. subst (λ (b : Bool). Tracks was (fell was l h ∷ h) (with_levels l (with_phase (cond b (Acknowledging stage shift) Deaf) s)) m)
      (sym n) (taking_silent e n))
      (cases_Bool (takes s stage shift))))
      (λ ne. subst (λ (b : Bool). Tracks was (fell was l h ∷ h)
      (with_levels l (cond b (with_phase (cond (takes s stage shift) (Acknowledging stage shift) Deaf) s) (with_phase (Receiving stage bits shift) s))) m)
      (sym (ne_eqb bits 8 ne)) (taking_goes_on ne))
      (cases_eq bits 8)
