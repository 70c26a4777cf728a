-- A fall while a byte is being sent, and after its ninth level.
use Rattle.std.proofs.Common.{◌≡◌, ℕ, suc, ◌+◌, ◌*◌, ◌/◌, ◌%◌, ◌<◌, Bool, true, false, cond, not, ◌&&◌, eqb, ◌∷◌, ◌++◌, map, length, Some, Option, unwrap_or, sym, refl, ap, ◌∙◌, subst, ⊎_elim, add-zero, arith}
use Rattle.std.proofs.lemmas.Bool.{and_left, and_right, and_from, and_parts, both_ways, lt-ltb, le-ltb, eqb-true, cases_Bool, cases_eq, cases_lt}
use Rattle.memory.specs.Model.{Mem}
use Rattle.chip.specs.Bits.{is_zero_bit}
use Rattle.chip.specs.Counter.{at_status, next_read}
use Rattle.chip.specs.declared.registers.Section.TheVariants.{Alarm0, Alarm1}
use Rattle.chip.specs.declared.slaves.Area.{Area}
use Rattle.chip.specs.declared.wires.Levels.{Levels}
use Rattle.rules.specs.Past.{History}
use Rattle.rules.specs.Frames.{in_frame, sampled, ninth, acknowledged, takes, slave, area_written, area_read}
use Rattle.rules.specs.Counter.{counter, asked_on, sends_byte, at_fall}
use Rattle.rules.specs.Latches.{wel}
use Rattle.rules.specs.Clock.{clock}
use Rattle.rules.specs.Alarms.{status_sent, sends_status}
use Rattle.rules.specs.Reads.{status, byte_sent, copied, pull_at_fall}
use Rattle.x1226.specs.declared.state.Phase.TheVariants.{Deaf, Sending, Listening}
use Rattle.x1226.specs.declared.state.Copies.{Copies}
use Rattle.x1226.specs.declared.state.State.{State}
use Rattle.x1226.specs.State.{with_levels, with_phase, with_counter, with_flags}
use Rattle.x1226.specs.Frame.{fallen_in, sent_whole, sending, to_send}
use Rattle.law.proofs.Tracks.{scl, half, Holds, Copied, Sends, Listens, copied_at, unpulled, Silent, Tracks}
use Rattle.law.proofs.Samples.{slave_more}
use Rattle.law.proofs.Moves.{status_stays, status_never}
use Rattle.law.proofs.Rising.{reads_no_write, read_takes_none}
use Rattle.law.proofs.Rules.{none_some, bit_sent, count_stays, count_read}
use Rattle.law.proofs.Silence.{status_silent, silent_from, silent_length, silence_on}
use Rattle.law.proofs.Calm.{byte_sent_same}
use Rattle.law.proofs.Sent.{sent_agrees}
use Rattle.law.proofs.Falling.{fell, flag_kept, flag_over, fall_holds, opened_still, copied_stays, since_stays, pull_eighth, pull_other, count_open, status_elsewhere, status_over}

module _ (was : Mem) (h : History) (s : State) (m : Mem) (l : Levels) (was-high : scl h ≡ true) (is-low : l.scl ≡ false)
    (hold : Holds was h s m) where
  -- What was copied stays copied.
  copied_on : (t : State) → t.area ≡ s.area → t.copies ≡ s.copies → (length (sampled h) ≡ 9 → ⊥) → Copied was h s
      → Copied was (fell was l h ∷ h) (with_levels l t)
  copied_on t ea ec n c =
      record {
        reads_area = c.reads_area ∙ ap Some (sym ea);
        from = c.from;
        found = copied_stays was h l n ∙ c.found;
        clock_is = ap (λ (x : Copies). x.clock) ec ∙ c.clock_is;
        status_is = ap (λ (x : Copies). x.status) ec ∙ c.status_is;
        first_since = ap (λ (x : Copies). x.matched.first) ec ∙ c.first_since ∙ sym (since_stays was h l Alarm0 n);
        second_since = ap (λ (x : Copies). x.matched.second) ec ∙ c.second_since ∙ sym (since_stays was h l Alarm1 n);
      }

  -- The byte sent after the fall, where the counter stays.
  byte_on : (area : Area) (g : History) → copied_at h ≡ Some g → (length (sampled h) ≡ 9 → ⊥) → at_fall h (counter h) ≡ counter h
      → byte_sent was (fell was l h ∷ h) area ≡ byte_sent was h area
  byte_on area g f n e = byte_sent_same was h (fell was l h) area g e (λ p. refl) f (copied_stays was h l n ∙ f)

  -- A fall inside or before a byte of a read.
  read_count : (area : Area) → in_frame h ≡ true → area_read (slave (sampled h)) ≡ Some area → (length (sampled h) % 9 ≡ 8 → ⊥) → at_fall h (counter h) ≡ counter h
  read_count area o r n =
      count_open was h l o (counter h)
      ∙ count_stays (sampled h) (counter h)
      (λ a e q t. absurd (none_some a (area_written (slave (sampled h))) (reads_no_write (slave (sampled h)) area r) e))
      (λ a e q. absurd (n q))

  module _ (sent byte k : ℕ) (t : Sends was h s sent byte k) where
    abbrev open_now : in_frame h ≡ true
    open_now = t.opened.open_frame

    long : length (sampled h) ≡ 9 * suc k + sent + 1
    long = t.long ∙ ap (λ (b : Bool). 9 * suc k + sent + half b) was-high

    reads_now : area_read (slave (sampled h)) ≡ Some s.area
    reads_now = t.copied.reads_area

    sends_now : sends_byte s.area (counter h) (sampled h) (suc k) ≡ true
    sends_now = ap (λ (c : ℕ). sends_byte s.area c (sampled h) (suc k)) (sym hold.counted) ∙ t.sends

    at_byte : (n : ℕ) → n ≡ 9 * suc k + sent + 1 → n / 9 ≡ suc k
    at_byte n e = omega (arith, t.few)

    sends_here : sends_byte s.area (counter h) (sampled h) (length (sampled h) / 9) ≡ true
    sends_here = ap (sends_byte s.area (counter h) (sampled h)) (at_byte (length (sampled h)) long) ∙ sends_now

    -- The next bit.
    sending_bit : sent < 7 → Tracks was (fell was l h ∷ h) (with_levels l (with_phase (Sending (sent + 1) byte) s)) m
    sending_bit few =
        let not_eighth : length (sampled h) % 9 ≡ 8 → ⊥ = λ e. omega (arith, long) in
        let bit : (n : ℕ) → n ≡ 9 * suc k + sent + 1 → n % 9 ≡ sent + 1 = λ n e. omega arith in
        let count : at_fall h (counter h) ≡ counter h = read_count s.area open_now reads_now not_eighth in
        let quiet : status_sent (record { entry = fell was l h; before = h }) ≡ false = status_elsewhere was h l open_now (λ e. omega (arith, long)) in
        record {
          holds = fall_holds was h l s m (with_phase (Sending (sent + 1) byte) s) hold refl refl refl refl
              (sym (pull_other was h l open_now not_eighth
              ∙ bit_sent was h (sampled h) s.area reads_now sends_here
              ∙ ap (is_zero_bit (byte_sent was h s.area)) (bit (length (sampled h)) long)
              ∙ ap (λ (b : ℕ). is_zero_bit b (sent + 1)) (sym t.byte_is)))
              (hold.counted ∙ sym count)
              (hold.first ∙ sym (flag_kept was h l Alarm0 quiet))
              (hold.second ∙ sym (flag_kept was h l Alarm1 quiet));
          follows = (
            k,
            record {
              opened = opened_still was h l t.opened;
              copied = copied_on (with_phase (Sending (sent + 1) byte) s) refl refl (λ e. omega (arith, long)) t.copied;
              long = regrouped ∙ ap (λ (b : Bool). 9 * suc k + (sent + 1) + half b) (sym is-low);
              few = omega arith;
              sends = t.sends;
              byte_is = t.byte_is ∙ sym (byte_on s.area t.copied.from t.copied.found (λ e. omega (arith, long)) count);
            },
          );
        }
      where
        regrouped : length (sampled h) ≡ 9 * suc k + (sent + 1) + 0
        regrouped = omega (arith, long)

    module _ (last : sent ≡ 7) where
      eighth : length (sampled h) ≡ 9 * suc k + 8
      eighth = omega (arith, long)

      over_pull : pull_at_fall was h ≡ false
      over_pull =
          pull_eighth was h l open_now (suc k) eighth
          ∙ and_right (acknowledged (suc k) (sampled h)) (takes (wel h) (sampled h) (suc k))
          (read_takes_none (wel h) (sampled h) s.area (suc k) reads_now (omega arith))

      over_count : at_fall h (counter h) ≡ next_read s.area (counter h)
      over_count =
          count_open was h l open_now (counter h)
          ∙ count_read (sampled h) (counter h) s.area (reads_no_write (slave (sampled h)) s.area reads_now) reads_now (omega (arith, eighth)) sends_here

      parts : ((ninth 0 (sampled h)).pulled && asked_on k (sampled h) ≡ true) × (cond (at_status s.area s.counter) (eqb k 0) true ≡ true)
      parts = and_parts ((ninth 0 (sampled h)).pulled && asked_on k (sampled h)) (cond (at_status s.area s.counter) (eqb k 0) true) t.sends

      heard : ((ninth 0 (sampled h)).pulled ≡ true) × (asked_on k (sampled h) ≡ true)
      heard = and_parts (ninth 0 (sampled h)).pulled (asked_on k (sampled h)) parts.0

      -- A status byte is over: its flags are cleared, and nothing more is sent.
      status_over_falls : at_status s.area s.counter ≡ true
          → Tracks was (fell was l h ∷ h) (with_levels l (with_phase Deaf (with_flags s.copies.matched s))) m
      status_over_falls at =
          let at-rule : at_status s.area (counter h) ≡ true = ap (at_status s.area) (sym hold.counted) ∙ at in
          let first_byte : k ≡ 0 = eqb-true k 0 (ap (λ (b : Bool). cond b (eqb k 0) true) (sym at) ∙ parts.1) in
          let count : at_fall h (counter h) ≡ counter h = over_count ∙ status_stays s.area (counter h) at-rule in
          let seventeen : length (sampled h) ≡ 17 = omega (arith, eighth) in
          let over : status_sent (record { entry = fell was l h; before = h }) ≡ true =
          status_over was h l open_now seventeen
          ∙ ap (λ (o : Option Area). sends_status o (sampled h) (counter h)) reads_now
          ∙ and_from (at_status s.area (counter h)) (sends_byte s.area (counter h) (sampled h) 1) at-rule
          (ap (sends_byte s.area (counter h) (sampled h)) (ap suc (sym first_byte)) ∙ sends_now) in
          record {
            holds = fall_holds was h l s m (with_phase Deaf (with_flags s.copies.matched s)) hold refl refl refl refl
                (sym over_pull) (hold.counted ∙ sym count)
                (t.copied.first_since ∙ sym (flag_over was h l Alarm0 over))
                (t.copied.second_since ∙ sym (flag_over was h l Alarm1 over));
            follows = silence_on was h s m l was-high is-low t.opened count
                (silent_from (counter h) (sampled h) (λ ys v vs e. subst (Silent (counter h)) (sym e)
                (status_silent (counter h) (sampled h ++ (unpulled v ∷ map unpulled vs)) s.area
                (omega (arith, silent_length (sampled h) v vs, seventeen))
                (ap area_read (slave_more (sampled h) (unpulled v ∷ map unpulled vs) (omega (arith, seventeen))) ∙ reads_now) at-rule)));
          }

      -- Any other byte is over: the counter moves on, and the ninth level is awaited.
      byte_over_falls : at_status s.area s.counter ≡ false
          → Tracks was (fell was l h ∷ h) (with_levels l (with_phase Listening (with_counter (next_read s.area s.counter) s))) m
      byte_over_falls at =
          let at-rule : at_status s.area (counter h) ≡ false = ap (at_status s.area) (sym hold.counted) ∙ at in
          let quiet : status_sent (record { entry = fell was l h; before = h }) ≡ false =
          ⊎_elim
          (λ e. status_over was h l open_now e ∙ ap (λ (o : Option Area). sends_status o (sampled h) (counter h)) reads_now
          ∙ and_left (at_status s.area (counter h)) (sends_byte s.area (counter h) (sampled h) 1) at-rule)
          (λ n. status_elsewhere was h l open_now n)
          (cases_eq (length (sampled h)) 17) in
          record {
            holds = fall_holds was h l s m (with_phase Listening (with_counter (next_read s.area s.counter) s)) hold refl refl refl refl
                (sym over_pull) (ap (next_read s.area) hold.counted ∙ sym over_count)
                (hold.first ∙ sym (flag_kept was h l Alarm0 quiet))
                (hold.second ∙ sym (flag_kept was h l Alarm1 quiet));
            follows = (
              k,
              record {
                opened = opened_still was h l t.opened;
                copied = copied_on (with_phase Listening (with_counter (next_read s.area s.counter) s)) refl refl (λ e. omega (arith, eighth)) t.copied;
                long = eighth ∙ sym (add-zero (9 * suc k + 8)) ∙ ap (λ (b : Bool). 9 * suc k + 8 + half b) (sym is-low);
                answered = heard.0;
                asked = heard.1;
                low = λ e. absurd (both_ways l.scl is-low e);
                no_status = status_never s.area s.counter at;
              },
            );
          }

      sending_over : Tracks was (fell was l h ∷ h) (with_levels l (sent_whole s)) m
      sending_over =
          ⊎_elim
          (λ y. subst (λ (b : Bool). Tracks was (fell was l h ∷ h)
          (with_levels l (cond b (with_phase Deaf (with_flags s.copies.matched s)) (with_phase Listening (with_counter (next_read s.area s.counter) s)))) m)
          (sym y) (status_over_falls y))
          (λ n. subst (λ (b : Bool). Tracks was (fell was l h ∷ h)
          (with_levels l (cond b (with_phase Deaf (with_flags s.copies.matched s)) (with_phase Listening (with_counter (next_read s.area s.counter) s)))) m)
          (sym n) (byte_over_falls n))
          (cases_Bool (at_status s.area s.counter))

    pub sending_falls : Tracks was (fell was l h ∷ h) (with_levels l (fallen_in (Sending sent byte) s m)) m
    sending_falls =
        ⊎_elim
        (λ few. subst (λ (b : Bool). Tracks was (fell was l h ∷ h) (with_levels l (cond b (with_phase (Sending (sent + 1) byte) s) (sent_whole s))) m)
        (sym (lt-ltb sent 7 few)) (sending_bit few))
        (λ all. subst (λ (b : Bool). Tracks was (fell was l h ∷ h) (with_levels l (cond b (with_phase (Sending (sent + 1) byte) s) (sent_whole s))) m)
        (sym (le-ltb sent 7 all)) (sending_over (omega (arith, t.few))))
        (cases_lt sent 7)

  -- A low ninth level: the next byte is sent.
  pub listening_falls : (k : ℕ) → Listens was h s k → Tracks was (fell was l h ∷ h) (with_levels l (fallen_in Listening s m)) m
  listening_falls k t =
      let open_now : in_frame h ≡ true = t.opened.open_frame in
      let reads_now : area_read (slave (sampled h)) ≡ Some s.area = t.copied.reads_area in
      let long : length (sampled h) ≡ 9 * suc (suc k) = ninth_in (length (sampled h)) (t.long ∙ ap (λ (b : Bool). 9 * suc k + 8 + half b) was-high) in
      let sends : sends_byte s.area s.counter (sampled h) (suc (suc k)) ≡ true =
      and_from ((ninth 0 (sampled h)).pulled && asked_on (suc k) (sampled h)) (cond (at_status s.area s.counter) (eqb (suc k) 0) true)
      (and_from (ninth 0 (sampled h)).pulled (asked_on (suc k) (sampled h)) t.answered
      (and_from (asked_on k (sampled h)) (not (ninth (suc k) (sampled h)).level) t.asked (ap not (t.low was-high))))
      (ap (λ (b : Bool). cond b (eqb (suc k) 0) true) t.no_status) in
      let here : sends_byte s.area (counter h) (sampled h) (length (sampled h) / 9) ≡ true =
      ap (sends_byte s.area (counter h) (sampled h)) (ninths (length (sampled h)) long)
      ∙ ap (λ (c : ℕ). sends_byte s.area c (sampled h) (suc (suc k))) (sym hold.counted) ∙ sends in
      let not_eighth : length (sampled h) % 9 ≡ 8 → ⊥ = λ e. omega (arith, long) in
      let count : at_fall h (counter h) ≡ counter h = read_count s.area open_now reads_now not_eighth in
      let quiet : status_sent (record { entry = fell was l h; before = h }) ≡ false = status_elsewhere was h l open_now (λ e. omega (arith, long)) in
      let from_is : copied h ≡ t.copied.from = ap (λ (o : Option History). unwrap_or o h) t.copied.found in
      let byte-now : to_send s m s.area ≡ byte_sent was h s.area =
      sent_agrees was h s m hold (t.copied.clock_is ∙ ap clock (sym from_is)) (t.copied.status_is ∙ ap (status was) (sym from_is)) s.area in
      record {
        holds = fall_holds was h l s m (sending s m) hold refl refl refl refl
            (sym (pull_other was h l open_now not_eighth ∙ bit_sent was h (sampled h) s.area reads_now here
            ∙ ap (is_zero_bit (byte_sent was h s.area)) (no_bits (length (sampled h)) long)
            ∙ ap (λ (b : ℕ). is_zero_bit b 0) (sym byte-now)))
            (hold.counted ∙ sym count)
            (hold.first ∙ sym (flag_kept was h l Alarm0 quiet))
            (hold.second ∙ sym (flag_kept was h l Alarm1 quiet));
        follows = (
          suc k,
          record {
            opened = opened_still was h l t.opened;
            copied = copied_on (sending s m) refl refl (λ e. omega (arith, long)) t.copied;
            long = long ∙ nothing_more (9 * suc (suc k)) ∙ ap (λ (b : Bool). 9 * suc (suc k) + 0 + half b) (sym is-low);
            few = omega arith;
            sends = sends;
            byte_is = byte-now ∙ sym (byte_on s.area t.copied.from t.copied.found (λ e. omega (arith, long)) count);
          },
        );
      }
    where
      ninth_in : (n : ℕ) → n ≡ 9 * suc k + 8 + 1 → n ≡ 9 * suc (suc k)
      ninth_in n e = omega arith

      ninths : (n : ℕ) → n ≡ 9 * suc (suc k) → n / 9 ≡ suc (suc k)
      ninths n e = omega arith

      no_bits : (n : ℕ) → n ≡ 9 * suc (suc k) → n % 9 ≡ 0
      no_bits n e = omega arith

      nothing_more : (n : ℕ) → n ≡ n + 0 + 0
      nothing_more n = omega arith
