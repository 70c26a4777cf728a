-- A rise of SCL: one sample more.
use Rattle.std.proofs.Common.{◌≡◌, ℕ, zero, suc, ◌+◌, ◌*◌, ◌/◌, ◌<◌, ◌≤◌, Bool, true, false, cond, ◌&&◌, ltb, List, [], ◌∷◌, ◌++◌, map, length, drop, Some, None, Option, sym, refl, ap, ◌∙◌, subst, inl, inr, ⊎_elim, add-zero, arith}
use mathlib.Core.List.{reverse-cons}
use Rattle.std.proofs.lemmas.List.{length_push, length-append, get_or_at}
use Rattle.std.proofs.lemmas.Bool.{and_left, and_right, both_ways, lt-ltb, cases_eq, cond_both}
use Rattle.memory.specs.Model.{Mem}
use Rattle.chip.specs.Bits.{shifted}
use Rattle.chip.specs.declared.slaves.Area.{Area}
use Rattle.chip.specs.declared.slaves.Slave.{Slave}
use Rattle.chip.specs.declared.slaves.Slave.TheVariants.{ArrayWrite, ArrayRead, RegisterWrite, RegisterRead}
use Rattle.chip.specs.declared.wires.Edge.TheVariants.{Rise}
use Rattle.chip.specs.declared.wires.Levels.{Levels}
use Rattle.rules.specs.Past.{History, moments, since, all_of, is_start}
use Rattle.rules.specs.Wires as wires
use Rattle.rules.specs.Frames.{Sample, no_sample, sample_at, sampled, number_from, byte_at, ninth, acknowledged, takes, slave, area_written, area_read}
use Rattle.rules.specs.Counter.{counter, asked_on, sends_byte}
use Rattle.rules.specs.Latches.{wel}
use Rattle.x1226.specs.declared.state.Phase.{Phase}
use Rattle.x1226.specs.declared.state.Phase.TheVariants.{Deaf, Receiving, Acknowledging, Sending, Listening}
use Rattle.x1226.specs.declared.state.State.{State}
use Rattle.x1226.specs.State.{with_levels, with_phase}
use Rattle.x1226.specs.Frame.{pulls, phase_risen, risen}
use Rattle.law.proofs.Tracks.{scl, half, Open, Taking, Acking, Copied, Sends, Listens, unpulled, Silent, SilentOn, Deafness, DeafnessUnder, Said, addressed_at, Follows, Tracks}
use Rattle.law.proofs.Samples.{ninth_more, acknowledged_more, byte_more, asked_more, sends_more, slave_more, takes_more, shift_push, said_more, asked_stops}
use Rattle.law.proofs.Calm.{calm, calm_holds, byte_sent_calm}

-- A frame that reads writes nothing.
pub reads_no_write : (o : Option Slave) (area : Area) → area_read o ≡ Some area → area_written o ≡ None
reads_no_write None area e = refl
reads_no_write (Some ArrayWrite) area e = let z : ◌≡◌ {A = ℕ} 0 1 = cc in absurd (omega arith)
reads_no_write (Some ArrayRead) area e = refl
reads_no_write (Some RegisterWrite) area e = let z : ◌≡◌ {A = ℕ} 0 1 = cc in absurd (omega arith)
reads_no_write (Some RegisterRead) area e = refl

-- After its slave byte a read acknowledges nothing.
pub read_takes_none : (w : Bool) (xs : List Sample) (area : Area) (k : ℕ) → area_read (slave xs) ≡ Some area → 0 < k → takes w xs k ≡ false
read_takes_none w xs area zero e l = absurd (omega arith)
read_takes_none w xs area (suc k) e l = rw (reads_no_write (slave xs) area e)

-- A high ninth level silences a read.
pub read_silent : (c k : ℕ) (xs : List Sample) (area : Area) → area_read (slave xs) ≡ Some area
    → 9 * suc k + 9 ≤ length xs → (ninth (suc k) xs).level ≡ true → Silent c xs
read_silent c k xs area e l high =
    record {
      no_acknowledge = λ r w. and_right (acknowledged (length xs / 9) xs) (takes w xs (length xs / 9))
          (read_takes_none w xs area (length xs / 9) e (omega arith));
      no_send = λ a ea. not_sent a (length xs / 9) (omega arith);
      no_write = λ a ea r s. let z : ◌≡◌ {A = Option Area} None (Some a) = sym (reads_no_write (slave xs) area e) ∙ ea in let y : ◌≡◌ {A = ℕ} 0 1 = cc in absurd (omega arith);
    }
  where
    not_sent : (a : Area) (n : ℕ) → suc k < n → sends_byte a c xs n ≡ false
    not_sent a zero n = absurd (omega arith)
    not_sent a (suc n) m =
        rw (asked_stops k n xs (omega arith) high)
        (and_left ((ninth 0 xs).pulled && false) _ (and_right (ninth 0 xs).pulled false refl))

module _ (was : Mem) (h : History) (s : State) (m : Mem) (l : Levels) (v : Bool)
    (was-low : scl h ≡ false) (is-high : l.scl ≡ true) where
  abbrev x : Sample
  x = record { level = v; pulled = wires.pulls h }

  abbrev h' : History
  h' = calm l (Rise v) h ∷ h

  sampled_push : sampled h' ≡ sampled h ++ x ∷ []
  sampled_push = reverse-cons x (all_of sample_at (since (λ m. is_start m.entry.edge) (moments h)))

  longer : length (sampled h') ≡ length (sampled h) + 1
  longer = ap length sampled_push ∙ length_push (sampled h) x

  rise_open : Open h → Open h'
  rise_open o = record { open_frame = o.open_frame; hearing = o.hearing }

  rise_copied : (p : Phase) → 8 ≤ length (sampled h) → Copied was h s → Copied was h' (with_levels l (with_phase p s))
  rise_copied p long c =
      record {
        reads_area = ap (λ (xs : List Sample). area_read (slave xs)) sampled_push
            ∙ ap area_read (slave_more (sampled h) (x ∷ []) long) ∙ c.reads_area;
        from = c.from;
        found = c.found;
        clock_is = c.clock_is;
        status_is = c.status_is;
        first_since = c.first_since;
        second_since = c.second_since;
      }

  -- At a value of the samples with one more.
  at_push : {A : Type 0} (f : List Sample → A) {a : A} → f (sampled h ++ x ∷ []) ≡ a → f (sampled h') ≡ a
  at_push f e = ap f sampled_push ∙ e

  bits_few : (bits : ℕ) → bits ≤ 8 → (bits ≡ 8 → scl h ≡ true) → bits < 8
  bits_few bits few high =
      ⊎_elim (λ e. absurd (both_ways (scl h) was-low (high e))) (λ ne. omega arith) (cases_eq bits 8)

  rise_taking : (stage bits shift k : ℕ) → bits < 8 → Taking h s stage bits shift k
      → Taking h' (with_levels l (with_phase (Receiving stage (bits + 1) (shifted shift v)) s)) stage (bits + 1) (shifted shift v) k
  rise_taking stage bits shift k few t =
      let xs : List Sample = sampled h in
      let fits : 9 * k ≤ length xs = omega (arith, t.long) in
      record {
        opened = rise_open t.opened;
        acked = at_push (acknowledged k) (acknowledged_more k xs (x ∷ []) fits ∙ t.acked);
        long = omega (arith, longer, t.long);
        few = omega arith;
        high_at_eight = λ b. is-high;
        low_at_none = λ b c. absurd (omega arith);
        stage_is = t.stage_is;
        shift_is = shift_push k bits shift xs x t.long few t.shift_is
            ∙ sym (at_push (λ ys. number_from 0 (map (λ (y : Sample). y.level) (drop (9 * k) ys))) refl);
        fresh = t.fresh;
        said = subst (λ (ys : List Sample). Said ys (addressed_at h) s.area s.high s.staging s.counter s.copies.clock k)
            (sym sampled_push)
            (said_more k xs (x ∷ []) (addressed_at h) s.area s.high s.staging s.counter s.copies.clock fits t.said);
      }

  rise_acking : (stage byte k : ℕ) → wires.pulls h ≡ true → Acking h s stage byte k
      → Acking h' (with_levels l (with_phase (Acknowledging stage byte) s)) stage byte k
  rise_acking stage byte k pulling t =
      let xs : List Sample = sampled h in
      let long : length xs ≡ 9 * k + 8 = t.long ∙ ap (λ (b : Bool). 9 * k + 8 + half b) was-low ∙ add-zero (9 * k + 8) in
      record {
        opened = rise_open t.opened;
        acked = at_push (acknowledged k) (acknowledged_more k xs (x ∷ []) (omega arith) ∙ t.acked);
        long = longer ∙ ap (λ (n : ℕ). n + 1) long ∙ ap (λ (b : Bool). 9 * k + 8 + half b) (sym is-high);
        taken = at_push (λ ys. takes (wel h) ys k) (takes_more (wel h) k xs (x ∷ []) (omega arith) ∙ t.taken);
        ninth_pulled = λ b. at_push (λ ys. (ninth k ys).pulled) (ap (λ (y : Sample). y.pulled) (get_or_at xs x [] no_sample (9 * k + 8) long) ∙ pulling);
        stage_is = t.stage_is;
        byte_is = t.byte_is ∙ sym (at_push (byte_at k) (byte_more k xs (x ∷ []) (omega arith)));
        fresh = t.fresh;
        said = subst (λ (ys : List Sample). Said ys (addressed_at h) s.area s.high s.staging s.counter s.copies.clock k)
            (sym sampled_push)
            (said_more k xs (x ∷ []) (addressed_at h) s.area s.high s.staging s.counter s.copies.clock (omega arith) t.said);
      }

  rise_sends : (sent byte k : ℕ) → Sends was h s sent byte k
      → Sends was h' (with_levels l (with_phase (Sending sent byte) s)) sent byte k
  rise_sends sent byte k t =
      let xs : List Sample = sampled h in
      let long : length xs ≡ 9 * suc k + sent = t.long ∙ ap (λ (b : Bool). 9 * suc k + sent + half b) was-low ∙ add-zero (9 * suc k + sent) in
      record {
        opened = rise_open t.opened;
        copied = rise_copied (Sending sent byte) (omega arith) t.copied;
        long = longer ∙ ap (λ (n : ℕ). n + 1) long ∙ ap (λ (b : Bool). 9 * suc k + sent + half b) (sym is-high);
        few = t.few;
        sends = at_push (λ ys. sends_byte s.area s.counter ys (suc k))
            (sends_more s.area s.counter k xs (x ∷ []) (omega arith) ∙ t.sends);
        byte_is = t.byte_is ∙ sym (byte_sent_calm was h l (Rise v) refl refl s.area t.copied.from t.copied.found);
      }

  rise_low : (k : ℕ) → v ≡ false → Listens was h s k → Listens was h' (with_levels l (with_phase Listening s)) k
  rise_low k low t =
      let xs : List Sample = sampled h in
      let long : length xs ≡ 9 * suc k + 8 = t.long ∙ ap (λ (b : Bool). 9 * suc k + 8 + half b) was-low ∙ add-zero (9 * suc k + 8) in
      record {
        opened = rise_open t.opened;
        copied = rise_copied Listening (omega arith) t.copied;
        long = longer ∙ ap (λ (n : ℕ). n + 1) long ∙ ap (λ (b : Bool). 9 * suc k + 8 + half b) (sym is-high);
        answered = at_push (λ ys. (ninth 0 ys).pulled) (ap (λ (y : Sample). y.pulled) (ninth_more 0 xs (x ∷ []) (omega arith)) ∙ t.answered);
        asked = at_push (asked_on k) (asked_more k xs (x ∷ []) (omega arith) ∙ t.asked);
        low = λ b. at_push (λ ys. (ninth (suc k) ys).level) (ap (λ (y : Sample). y.level) (get_or_at xs x [] no_sample (9 * suc k + 8) long) ∙ low);
        no_status = t.no_status;
      }

  -- A high ninth level: whatever comes, nothing more is sent.
  rise_high : (k : ℕ) → v ≡ true → Listens was h s k → Deafness h'
  rise_high k high t =
      let xs : List Sample = sampled h in
      let long : length xs ≡ 9 * suc k + 8 = t.long ∙ ap (λ (b : Bool). 9 * suc k + 8 + half b) was-low ∙ add-zero (9 * suc k + 8) in
      let silent : SilentOn (counter h) (xs ++ x ∷ []) = λ vs.
      let zs : List Sample = map unpulled vs in
      let len : length (xs ++ x ∷ []) ≡ 9 * suc k + 9 = omega (arith, length_push xs x) in
      let whole : length ((xs ++ x ∷ []) ++ zs) ≡ length (xs ++ x ∷ []) + length zs = length-append (xs ++ x ∷ []) zs in
      let reads : area_read (slave ((xs ++ x ∷ []) ++ zs)) ≡ Some s.area =
      ap area_read (slave_more (xs ++ x ∷ []) zs (omega arith) ∙ slave_more xs (x ∷ []) (omega arith)) ∙ t.copied.reads_area in
      let ninth-is : (ninth (suc k) ((xs ++ x ∷ []) ++ zs)).level ≡ true =
      ap (λ (y : Sample). y.level) (ninth_more (suc k) (xs ++ x ∷ []) zs (omega arith) ∙ get_or_at xs x [] no_sample (9 * suc k + 8) long) ∙ high in
      read_silent (counter h) k ((xs ++ x ∷ []) ++ zs) s.area reads (omega arith) ninth-is in
      inr (
        rise_open t.opened,
        subst (λ (b : Bool). DeafnessUnder b (counter h) (sampled h')) (sym is-high) (subst (SilentOn (counter h)) (sym sampled_push) silent),
      )

  rise_listens : (b : Bool) (k : ℕ) → v ≡ b → Listens was h s k
      → Follows was h' (with_levels l (with_phase (cond b Deaf Listening) s)) (cond b Deaf Listening)
  rise_listens true k e t = rise_high k e t
  rise_listens false k e t = (k, rise_low k e t)

  rise_deaf : wires.pulls h ≡ false → Deafness h → Deafness h'
  rise_deaf free (inl e) = inl e
  rise_deaf free (inr d) =
      let under : DeafnessUnder false (counter h) (sampled h) = subst (λ (b : Bool). DeafnessUnder b (counter h) (sampled h)) was-low d.1 in
      let same : unpulled v ≡ x = λ i. record { level = v; pulled = sym free i } in
      inr (
        rise_open d.0,
        subst (λ (b : Bool). DeafnessUnder b (counter h) (sampled h')) (sym is-high)
            (subst (SilentOn (counter h)) (ap (λ (y : Sample). sampled h ++ y ∷ []) same ∙ sym sampled_push) (under v)),
      )

  rise_follows : (p : Phase) → pulls p ≡ wires.pulls h → Follows was h s p
      → Follows was h' (with_levels l (with_phase (phase_risen v p) s)) (phase_risen v p)
  rise_follows Deaf e f = rise_deaf (sym e) f
  rise_follows (Receiving stage bits shift) e (k, t) =
      let few : bits < 8 = bits_few bits t.few t.high_at_eight in
      subst (λ (b : Bool). Follows was h'
      (with_levels l (with_phase (cond b (Receiving stage (bits + 1) (shifted shift v)) (Receiving stage bits shift)) s))
      (cond b (Receiving stage (bits + 1) (shifted shift v)) (Receiving stage bits shift)))
      (sym (lt-ltb bits 8 few)) (k, rise_taking stage bits shift k few t)
  rise_follows (Acknowledging stage byte) e (k, t) = (k, rise_acking stage byte k (sym e) t)
  rise_follows (Sending sent byte) e (k, t) = (k, rise_sends sent byte k t)
  rise_follows Listening e (k, t) = rise_listens v k refl t

  -- No rise touches the pull.
  rise_pulls : (p : Phase) → pulls (phase_risen v p) ≡ pulls p
  rise_pulls Deaf = refl
  rise_pulls (Receiving stage bits shift) =
      cond_both (ltb bits 8) (Receiving stage (bits + 1) (shifted shift v)) (Receiving stage bits shift) (λ q. pulls q ≡ false) (λ e. refl) (λ e. refl)
  rise_pulls (Acknowledging stage byte) = refl
  rise_pulls (Sending sent byte) = refl
  rise_pulls Listening = cond_both v Deaf Listening (λ q. pulls q ≡ false) (λ e. refl) (λ e. refl)

  pub rise_tracks : Tracks was h s m → Tracks was h' (with_levels l (risen v s)) m
  rise_tracks t =
      record {
        holds = calm_holds was h l (Rise v) refl s m (phase_risen v s.phase) s.staging t.holds (rise_pulls s.phase ∙ t.holds.pulled);
        follows = rise_follows s.phase t.holds.pulled t.follows;
      }
