-- Silence: why nothing more is acknowledged, sent or closed, and a fall in it.
use Rattle.std.proofs.Common.{◌≡◌, ℕ, zero, suc, ◌+◌, ◌*◌, ◌/◌, ◌%◌, ◌<◌, ◌≤◌, Bool, true, false, cond, ◌&&◌, eqb, List, [], ◌∷◌, ◌++◌, map, length, Some, None, Option, sym, refl, ap, ◌∙◌, subst, inl, inr, ⊎_elim, append_assoc, append-nil, arith}
use Rattle.std.proofs.lemmas.List.{length-append}
use Rattle.std.proofs.lemmas.Bool.{and_left, and_right, ne_eqb, cases_eq}
use Rattle.memory.specs.Model.{Mem}
use Rattle.chip.specs.Counter.{at_status}
use Rattle.chip.specs.declared.registers.Section.TheVariants.{Alarm0, Alarm1}
use Rattle.chip.specs.declared.slaves.Area.{Area}
use Rattle.chip.specs.declared.wires.Levels.{Levels}
use Rattle.rules.specs.Past.{History}
use Rattle.rules.specs.Frames.{Sample, in_frame, sampled, ninth, acknowledged, takes, slave, area_written, area_read}
use Rattle.rules.specs.Counter.{counter, asked_on, sends_byte, at_fall}
use Rattle.rules.specs.Latches.{wel}
use Rattle.rules.specs.Alarms.{status_sent, sends_status}
use Rattle.rules.specs.Reads.{pull_at_fall}
use Rattle.x1226.specs.declared.state.Phase.TheVariants.{Deaf}
use Rattle.x1226.specs.declared.state.State.{State}
use Rattle.x1226.specs.State.{with_levels}
use Rattle.x1226.specs.Frame.{pulls}
use Rattle.law.proofs.Tracks.{scl, Holds, Open, unpulled, Silent, SilentOn, Deafness, DeafnessUnder, Follows, Tracks}
use Rattle.law.proofs.Samples.{acknowledged_stops}
use Rattle.law.proofs.Rising.{reads_no_write, read_takes_none}
use Rattle.law.proofs.Rules.{none_some, same_some, nothing_sent, count_stays}
use Rattle.law.proofs.Falling.{fell, flag_kept, fall_holds, opened_still, closed_pull, closed_count, closed_status, pull_eighth, pull_other, count_open, status_elsewhere, status_over}

-- The byte k was met with silence, and either it was the slave byte or the frame is no read.
pub unanswered_silent : (c k : ℕ) (xs : List Sample) → 9 * k + 9 ≤ length xs → (ninth k xs).pulled ≡ false
    → (0 < k → area_read (slave xs) ≡ None) → Silent c xs
unanswered_silent c k xs l quiet write =
    record {
      no_acknowledge = λ r w. and_left (acknowledged (length xs / 9) xs) (takes w xs (length xs / 9))
          (acknowledged_stops k (length xs / 9) xs (omega arith) quiet);
      no_send = λ area e. ⊎_elim (λ z. first_quiet area z (length xs / 9)) (λ n. absurd (none_some area (area_read (slave xs)) (write (omega arith)) e)) (cases_eq k 0);
      no_write = λ area e r m. acknowledged_stops k (length xs / 9) xs (omega arith) quiet;
    }
  where
    first_quiet : (area : Area) → k ≡ 0 → (n : ℕ) → sends_byte area c xs n ≡ false
    first_quiet area z zero = refl
    first_quiet area z (suc n) =
        and_left ((ninth 0 xs).pulled && asked_on n xs) (cond (at_status area c) (eqb n 0) true)
        (and_left (ninth 0 xs).pulled (asked_on n xs) (subst (λ (j : ℕ). (ninth j xs).pulled ≡ false) z quiet))

-- Status was sent: it is sent once.
pub status_silent : (c : ℕ) (xs : List Sample) (area : Area) → 18 ≤ length xs → area_read (slave xs) ≡ Some area → at_status area c ≡ true → Silent c xs
status_silent c xs area l reads at =
    record {
      no_acknowledge = λ r w. and_right (acknowledged (length xs / 9) xs) (takes w xs (length xs / 9))
          (read_takes_none w xs area (length xs / 9) reads (omega arith));
      no_send = λ a e. once a (same_some area a (area_read (slave xs)) reads e) (length xs / 9) (omega arith);
      no_write = λ a e r m. absurd (none_some a (area_written (slave xs)) (reads_no_write (slave xs) area reads) e);
    }
  where
    once : (a : Area) → area ≡ a → (n : ℕ) → 2 ≤ n → sends_byte a c xs n ≡ false
    once a same zero m = refl
    once a same (suc n) m =
        and_right ((ninth 0 xs).pulled && asked_on n xs) (cond (at_status a c) (eqb n 0) true)
        (ap (λ (b : Bool). cond b (eqb n 0) true) (subst (λ (b : Area). at_status b c ≡ true) same at) ∙ ne_eqb n 0 (λ z. omega arith))

-- A silent rise more, and whatever follows.
pub silent_from : (c : ℕ) (xs : List Sample) → ((ys : List Sample) → (v : Bool) → (vs : List Bool) → ys ≡ xs ++ (unpulled v ∷ map unpulled vs) → Silent c ys)
    → (v : Bool) → SilentOn c (xs ++ unpulled v ∷ [])
silent_from c xs f v vs = f ((xs ++ unpulled v ∷ []) ++ map unpulled vs) v vs (append_assoc xs (unpulled v ∷ []) (map unpulled vs))

-- The length of a frame with silent rises more.
pub silent_length : (xs : List Sample) (v : Bool) (vs : List Bool) → length xs < length (xs ++ (unpulled v ∷ map unpulled vs))
silent_length xs v vs = omega (arith, length-append xs (unpulled v ∷ map unpulled vs))

module _ (was : Mem) (h : History) (s : State) (m : Mem) (l : Levels) (was-high : scl h ≡ true) (is-low : l.scl ≡ false) where
  -- The counter after a fall that leaves it.
  counter_kept : at_fall h (counter h) ≡ counter h → counter (fell was l h ∷ h) ≡ counter h
  counter_kept e = e

  -- Silence goes on.
  pub silence_on : Open h → at_fall h (counter h) ≡ counter h → ((v : Bool) → SilentOn (counter h) (sampled h ++ unpulled v ∷ [])) → Deafness (fell was l h ∷ h)
  silence_on o e f =
      inr (
        opened_still was h l o,
        subst (λ (b : Bool). DeafnessUnder b (counter (fell was l h ∷ h)) (sampled h)) (sym is-low)
            (subst (λ (c : ℕ). (v : Bool) → SilentOn c (sampled h ++ unpulled v ∷ [])) (sym (counter_kept e)) f),
      )

  -- What the rules say of a fall at samples that are silent.
  silent_pull : in_frame h ≡ true → Silent (counter h) (sampled h) → pull_at_fall was h ≡ false
  silent_pull open_frame q =
      ⊎_elim
      (λ r. pull_eighth was h l open_frame (length (sampled h) / 9) (omega arith) ∙ q.no_acknowledge r (wel h))
      (λ n. pull_other was h l open_frame n ∙ nothing_sent was h (sampled h) q.no_send)
      (cases_eq (length (sampled h) % 9) 8)

  silent_count : in_frame h ≡ true → Silent (counter h) (sampled h) → at_fall h (counter h) ≡ counter h
  silent_count open_frame q =
      count_open was h l open_frame (counter h)
      ∙ count_stays (sampled h) (counter h) (λ area e r n. q.no_write area e (omega arith) n) (λ area e r. q.no_send area e)

  silent_status : in_frame h ≡ true → Silent (counter h) (sampled h) → status_sent (record { entry = fell was l h; before = h }) ≡ false
  silent_status open_frame q =
      ⊎_elim
      (λ e. status_over was h l open_frame e ∙ nothing (area_read (slave (sampled h))) refl e)
      (λ n. status_elsewhere was h l open_frame n)
      (cases_eq (length (sampled h)) 17)
    where
      one : (n : ℕ) → n ≡ 17 → n / 9 ≡ 1
      one n e = omega arith

      nothing : (o : Option Area) → area_read (slave (sampled h)) ≡ o → length (sampled h) ≡ 17 → sends_status o (sampled h) (counter h) ≡ false
      nothing None e n = refl
      nothing (Some area) e n =
          and_right (at_status area (counter h)) (sends_byte area (counter h) (sampled h) 1)
          (ap (sends_byte area (counter h) (sampled h)) (sym (one (length (sampled h)) n)) ∙ q.no_send area e)

  -- A fall in silence changes nothing.
  pub deaf_falls : s.phase ≡ Deaf → Holds was h s m → Deafness h → Tracks was (fell was l h ∷ h) (with_levels l s) m
  deaf_falls deaf k (inl closed) =
      record {
        holds = fall_holds was h l s m s k refl refl refl refl
            (ap pulls deaf ∙ sym (closed_pull was h l closed))
            (k.counted ∙ sym (closed_count was h l closed))
            (k.first ∙ sym (flag_kept was h l Alarm0 (closed_status was h l closed)))
            (k.second ∙ sym (flag_kept was h l Alarm1 (closed_status was h l closed)));
        follows = subst (Follows was (fell was l h ∷ h) (with_levels l s)) (sym deaf) (inl closed);
      }
  deaf_falls deaf k (inr d) =
      let o : in_frame h ≡ true = d.0.open_frame in
      let on : SilentOn (counter h) (sampled h) = subst (λ (b : Bool). DeafnessUnder b (counter h) (sampled h)) was-high d.1 in
      let q : Silent (counter h) (sampled h) = subst (Silent (counter h)) (append-nil (sampled h)) (on []) in
      let again : (v : Bool) → SilentOn (counter h) (sampled h ++ unpulled v ∷ []) =
      silent_from (counter h) (sampled h) (λ ys v vs e. subst (Silent (counter h)) (sym e) (on (v ∷ vs))) in
      record {
        holds = fall_holds was h l s m s k refl refl refl refl
            (ap pulls deaf ∙ sym (silent_pull o q))
            (k.counted ∙ sym (silent_count o q))
            (k.first ∙ sym (flag_kept was h l Alarm0 (silent_status o q)))
            (k.second ∙ sym (flag_kept was h l Alarm1 (silent_status o q)));
        follows = subst (Follows was (fell was l h ∷ h) (with_levels l s)) (sym deaf) (silence_on d.0 (silent_count o q) again);
      }
