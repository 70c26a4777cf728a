-- A fall that ends an acknowledge.
use Rattle.std.proofs.Common.{◌≡◌, ℕ, zero, suc, ◌+◌, ◌*◌, ◌/◌, ◌%◌, ◌<◌, ◌≤◌, min, Bool, true, false, cond, ◌&&◌, eqb, List, ◌∷◌, map, length, get_or, drop, set, is_some, Some, None, Option, unwrap_or, sym, refl, ap, ◌∙◌, subst, ⊎_elim, arith}
use Rattle.std.proofs.lemmas.List.{drop_all, get_or-replicate, get_or-set_same, get_or-set_other, length-set, length-replicate}
use Rattle.std.proofs.lemmas.Bool.{and_from, both_ways, eq-eqb, ne_eqb, cases_eq, cond-true, cond-false}
use Rattle.memory.specs.Model.{Mem}
use Rattle.chip.specs.Bits.{is_zero_bit}
use Rattle.chip.specs.Counter.{at_status, next_written, address_in}
use Rattle.chip.specs.Places.{place_of}
use Rattle.chip.specs.Slaves.{slave_named}
use Rattle.chip.specs.declared.registers.Section.TheVariants.{Alarm0, Alarm1}
use Rattle.chip.specs.declared.slaves.Area.{Area}
use Rattle.chip.specs.declared.slaves.Area.TheVariants.{Array, Registers}
use Rattle.chip.specs.declared.slaves.Slave.{Slave}
use Rattle.chip.specs.declared.slaves.Slave.TheVariants.{ArrayWrite, ArrayRead, RegisterWrite, RegisterRead}
use Rattle.chip.specs.declared.wires.Levels.{Levels}
use Rattle.rules.specs.Past.{History}
use Rattle.rules.specs.Frames.{Sample, in_frame, sampled, number_from, byte_at, ninth, acknowledged, slave, area_written, area_read, address, data_byte}
use Rattle.rules.specs.Counter.{counter, sends_byte, at_fall}
use Rattle.rules.specs.Stored.{last_sent, place_at}
use Rattle.rules.specs.Clock.{clock}
use Rattle.rules.specs.Alarms.{status_sent}
use Rattle.rules.specs.Reads.{status, byte_sent, copied, pull_at_fall}
use Rattle.x1226.specs.declared.state.Alarms.{Alarms}
use Rattle.x1226.specs.declared.state.Phase.TheVariants.{Receiving, Acknowledging}
use Rattle.x1226.specs.declared.state.Staging.{Staging}
use Rattle.x1226.specs.declared.state.State.{State}
use Rattle.x1226.specs.State.{with_levels, with_phase, with_area, with_high, empty_places}
use Rattle.x1226.specs.Frame.{pulls, fallen_in, sending, to_send, located, staged, addressed_as}
use Rattle.x1226.specs.Frame as frame
use Rattle.x1226.specs.Stop.{address_staged}
use Rattle.law.proofs.Tracks.{scl, half, Holds, Acking, Staged, Said, addressed_at, copied_at, Follows, Tracks}
use Rattle.law.proofs.Moves.{steps_zero, steps_suc, staged_place, address_small}
use Rattle.law.proofs.Picks.{byte_same}
use Rattle.law.proofs.Rules.{writes_no_read, none_some, nothing_sent, bit_sent, count_stays, count_addressed, count_moved}
use Rattle.law.proofs.Sent.{sent_agrees, status_agrees}
use Rattle.law.proofs.Falling.{fell, flag_kept, fall_holds, opened_still, addressed_stays, copied_now, since_now, addressed_now, pull_other, count_open, status_elsewhere}

-- No bit of the next byte is in.
no_bits : (k : ℕ) (xs : List Sample) → length xs ≡ 9 * k → 0 ≡ number_from 0 (map (λ x. x.level) (drop (9 * k) xs))
no_bits k xs e = ap (λ (ys : List Sample). number_from 0 (map (λ x. x.level) ys)) (sym (drop_all (9 * k) xs (omega arith)))

-- Nothing is staged in an empty place.
empty_none : (j : ℕ) → j < 64 → get_or empty_places j None ≡ None
unfolding empty_places
empty_none j l = get_or-replicate 64 j None None l

empty_wide : length empty_places ≡ 64
unfolding empty_places
empty_wide = length-replicate {A = Option ℕ} 64 None

module _ (was : Mem) (h : History) (s : State) (m : Mem) (l : Levels) (was-high : scl h ≡ true) (is-low : l.scl ≡ false)
    (hold : Holds was h s m) where
  module _ (stage byte k : ℕ) (t : Acking h s stage byte k) where
    abbrev xs : List Sample
    xs = sampled h

    abbrev open_now : in_frame h ≡ true
    open_now = t.opened.open_frame

    long : length xs ≡ 9 * suc k
    long = nine (length xs) (t.long ∙ ap (λ (b : Bool). 9 * k + 8 + half b) was-high)
      where
        nine : (n : ℕ) → n ≡ 9 * k + 8 + 1 → n ≡ 9 * suc k
        nine n e = omega arith

    acked_next : acknowledged (suc k) xs ≡ true
    acked_next = and_from (acknowledged k xs) (ninth k xs).pulled t.acked (t.ninth_pulled was-high)

    not_eighth : length xs % 9 ≡ 8 → ⊥
    not_eighth e = omega (arith, long)

    quiet : status_sent (record { entry = fell was l h; before = h }) ≡ false
    quiet = status_elsewhere was h l open_now (λ e. omega (arith, long))

    holds_next : (u : State) → u.supply ≡ s.supply → u.latches ≡ s.latches → u.cycle ≡ s.cycle → u.timer ≡ s.timer
        → u.flags ≡ s.flags → pulls u.phase ≡ pull_at_fall was h → u.counter ≡ at_fall h (counter h)
        → Holds was (fell was l h ∷ h) (with_levels l u) m
    holds_next u es el ec et ef ep en =
        fall_holds was h l s m u hold es el ec et ep en
        (ap (λ (a : Alarms). a.first) ef ∙ hold.first ∙ sym (flag_kept was h l Alarm0 quiet))
        (ap (λ (a : Alarms). a.second) ef ∙ hold.second ∙ sym (flag_kept was h l Alarm1 quiet))

    -- A write receives its next byte.
    receives : (area : Area) → area_written (slave xs) ≡ Some area → (u : State)
        → u.phase ≡ Receiving (min 4 (suc k)) 0 0
        → Holds was (fell was l h ∷ h) (with_levels l u) m
        → Said xs (addressed_at (fell was l h ∷ h)) u.area u.high u.staging u.counter u.copies.clock (suc k)
        → Tracks was (fell was l h ∷ h) (with_levels l u) m
    receives area w u ep hu said =
        record {
          holds = hu;
          follows = subst (Follows was (fell was l h ∷ h) (with_levels l u)) (sym ep) (
            suc k,
            record {
              opened = opened_still was h l t.opened;
              acked = acked_next;
              long = long ∙ nothing_more (9 * suc k);
              few = omega arith;
              high_at_eight = λ e. absurd (omega arith);
              low_at_none = λ e pos. is-low;
              stage_is = refl;
              shift_is = no_bits (suc k) xs long;
              fresh = λ e. absurd (omega arith);
              said = said;
            },
          );
        }
      where
        nothing_more : (n : ℕ) → n ≡ n + 0
        nothing_more n = omega arith

    write_pull : (area : Area) → area_written (slave xs) ≡ Some area → pull_at_fall was h ≡ false
    write_pull area w =
        pull_other was h l open_now not_eighth
        ∙ nothing_sent was h xs (λ a e. absurd (none_some a (area_read (slave xs)) (writes_no_read (slave xs) area w) e))

    -- Before the second address byte the counter stays.
    early_count : k < 2 → at_fall h (counter h) ≡ counter h
    early_count few =
        count_open was h l open_now (counter h)
        ∙ count_stays xs (counter h) (λ a e r n. absurd (omega (arith, long))) (λ a e r. absurd (not_eighth r))

    not_27 : (k ≡ 2 → ⊥) → length xs ≡ 27 → ⊥
    not_27 n e = n (omega (arith, long))

  -- The slave byte of a write.
  write_begins : (stage byte : ℕ) (area : Area) → Acking h s stage byte 0 → area_written (slave (sampled h)) ≡ Some area
      → Tracks was (fell was l h ∷ h) (with_levels l (with_phase (Receiving 1 0 0) (with_area area s))) m
  write_begins stage byte area t w =
      receives stage byte 0 t area w (with_phase (Receiving 1 0 0) (with_area area s)) refl
      (holds_next stage byte 0 t (with_phase (Receiving 1 0 0) (with_area area s)) refl refl refl refl refl
      (sym (write_pull stage byte 0 t area w)) (hold.counted ∙ sym (early_count stage byte 0 t (omega arith))))
      w

  -- The slave byte of a read: clock and status are copied, and the first byte is sent.
  read_begins : (stage byte : ℕ) (area : Area) → Acking h s stage byte 0 → area_read (slave (sampled h)) ≡ Some area
      → Tracks was (fell was l h ∷ h) (with_levels l (sending (frame.copied (with_area area s)) m)) m
  read_begins stage byte area t r =
      let xs : List Sample = sampled h in
      let u : State = frame.copied (with_area area s) in
      let nine : length xs ≡ 9 = long stage byte 0 t in
      let none : copied_at h ≡ None = t.fresh refl in
      let from_is : copied h ≡ h = ap (λ (o : Option History). unwrap_or o h) none in
      let hold-u : Holds was h u m = record { levels = hold.levels; supply = hold.supply; pulled = hold.pulled; counted = hold.counted; wel_is = hold.wel_is; rwel_is = hold.rwel_is; cycle = hold.cycle; rtcf_is = hold.rtcf_is; divided = hold.divided; shown = hold.shown; waits = hold.waits; first = hold.first; second = hold.second; fit = hold.fit; sized = hold.sized; bytes = hold.bytes; life = hold.life } in
      let status_is : frame.status_of (with_area area s) ≡ status was h = status_agrees was h s m hold in
      let byte-now : to_send u m area ≡ byte_sent was h area =
      sent_agrees was h u m hold-u (hold.shown ∙ ap clock (sym from_is)) (status_is ∙ ap (status was) (sym from_is)) area in
      let count : at_fall h (counter h) ≡ counter h = early_count stage byte 0 t (omega arith) in
      let sends : sends_byte area s.counter xs 1 ≡ true =
      and_from ((ninth 0 xs).pulled && true) (cond (at_status area s.counter) true true)
      (and_from (ninth 0 xs).pulled true (t.ninth_pulled was-high) refl) (both_true (at_status area s.counter)) in
      let here : sends_byte area (counter h) xs (length xs / 9) ≡ true =
      ap (sends_byte area (counter h) xs) (one (length xs) nine) ∙ ap (λ (c : ℕ). sends_byte area c xs 1) (sym hold.counted) ∙ sends in
      record {
        holds = holds_next stage byte 0 t (sending u m) refl refl refl refl refl
            (sym (pull_other was h l t.opened.open_frame (not_eighth stage byte 0 t)
            ∙ bit_sent was h xs area r here
            ∙ ap (is_zero_bit (byte_sent was h area)) (no_rest (length xs) nine)
            ∙ ap (λ (b : ℕ). is_zero_bit b 0) (sym byte-now)))
            (hold.counted ∙ sym count);
        follows = (
          0,
          record {
            opened = opened_still was h l t.opened;
            copied = record {
              reads_area = r;
              from = h;
              found = copied_now was h l nine;
              clock_is = hold.shown;
              status_is = status_is;
              first_since = sym (since_now was h l Alarm0 nine);
              second_since = sym (since_now was h l Alarm1 nine);
            };
            long = nine ∙ ap (λ (b : Bool). 9 * 1 + 0 + half b) (sym is-low);
            few = omega arith;
            sends = sends;
            byte_is = byte-now ∙ byte_after area count nine none;
          },
        );
      }
    where
      both_true : (b : Bool) → cond b true true ≡ true
      both_true true = refl
      both_true false = refl

      one : (n : ℕ) → n ≡ 9 → n / 9 ≡ 1
      one n e = omega arith

      no_rest : (n : ℕ) → n ≡ 9 → n % 9 ≡ 0
      no_rest n e = omega arith

      byte_after : (a : Area) → at_fall h (counter h) ≡ counter h → length (sampled h) ≡ 9 → copied_at h ≡ None
          → byte_sent was h a ≡ byte_sent was (fell was l h ∷ h) a
      byte_after a e n f =
          byte_same was h (fell was l h ∷ h) a (λ p. refl) (sym e)
          (ap (λ (o : Option History). unwrap_or o h) f ∙ sym (ap (λ (o : Option History). unwrap_or o (fell was l h ∷ h)) (copied_now was h l n)))

  -- The high address byte.
  high_taken : (stage byte : ℕ) → Acking h s stage byte 1
      → Tracks was (fell was l h ∷ h) (with_levels l (with_phase (Receiving 2 0 0) (with_high byte s))) m
  high_taken stage byte t =
      receives stage byte 1 t s.area t.said (with_phase (Receiving 2 0 0) (with_high byte s)) refl
      (holds_next stage byte 1 t (with_phase (Receiving 2 0 0) (with_high byte s)) refl refl refl refl refl
      (sym (write_pull stage byte 1 t s.area t.said)) (hold.counted ∙ sym (early_count stage byte 1 t (omega arith))))
      (t.said, t.byte_is)

  -- The low address byte: the counter takes the address, and the clock is copied.
  address_taken : (stage byte : ℕ) → Acking h s stage byte 2
      → Tracks was (fell was l h ∷ h) (with_levels l (located (address_in s.area s.high byte) s)) m
  address_taken stage byte t =
      let xs : List Sample = sampled h in
      let area : Area = s.area in
      let w : area_written (slave xs) ≡ Some area = t.said.0 in
      let u : State = located (address_in s.area s.high byte) s in
      let all : length xs ≡ 27 = long stage byte 2 t in
      let address_is : address_in s.area s.high byte ≡ address area xs =
      ap (λ (n : ℕ). address_in area n byte) t.said.1 ∙ ap (address_in area (byte_at 1 xs)) t.byte_is in
      receives stage byte 2 t area w u refl
      (holds_next stage byte 2 t u refl refl refl refl refl (sym (write_pull stage byte 2 t area w))
      (address_is ∙ sym (count_open was h l t.opened.open_frame (counter h) ∙ count_addressed xs (counter h) area w all (acked_next stage byte 2 t)))) (
        w,
        record {
          address_is = address_is;
          wide = empty_wide;
          held = λ j lj. empty_none j lj;
          next_is = address_is ∙ sym (steps_zero area (address area xs));
          from = h;
          found = addressed_now was h l all;
          clock_is = hold.shown;
        },
      )

  -- A data byte is staged, and the counter moves on.
  data_taken : (stage byte n : ℕ) → Acking h s stage byte (suc (suc (suc n)))
      → Tracks was (fell was l h ∷ h) (with_levels l (staged byte s)) m
  data_taken stage byte n t =
      let xs : List Sample = sampled h in
      let area : Area = s.area in
      let k : ℕ = suc (suc (suc n)) in
      let w : area_written (slave xs) ≡ Some area = t.said.0 in
      let g : Staged xs (addressed_at h) area s.staging s.counter s.copies.clock n = t.said.1 in
      let u : State = staged byte s in
      receives stage byte k t area w u (ap (λ (j : ℕ). Receiving j 0 0) (four n))
      (holds_next stage byte k t u refl refl refl refl refl (sym (write_pull stage byte k t area w))
      (ap (next_written area) hold.counted
      ∙ sym (count_open was h l t.opened.open_frame (counter h)
      ∙ count_moved xs (counter h) area (suc k) w (long stage byte k t) (omega arith) (acked_next stage byte k t)))) (
        w,
        record {
          address_is = g.address_is;
          wide = length-set s.staging.held (s.counter % 64) (Some byte) ∙ g.wide;
          held = held_on n byte xs area s.staging s.counter g (t.byte_is ∙ ap (λ (j : ℕ). byte_at j xs) (three n));
          next_is = ap (next_written area) g.next_is ∙ steps_suc area (address area xs) n;
          from = g.from;
          found = addressed_stays was h l (λ e. omega (arith, long stage byte k t)) ∙ g.found;
          clock_is = g.clock_is;
        },
      )
    where
      four : (n : ℕ) → 4 ≡ min 4 (suc (suc (suc (suc n))))
      four n = omega arith

      three : (n : ℕ) → suc (suc (suc n)) ≡ 3 + n
      three n = omega arith

      held_on : (n byte : ℕ) (ys : List Sample) (area : Area) (staging : Staging) (c : ℕ)
          → Staged ys (addressed_at h) area staging c s.copies.clock n → byte ≡ data_byte ys n
          → (j : ℕ) → j < 64
          → get_or (set staging.held (c % 64) (Some byte)) j None
          ≡ last_sent area (address area ys) (data_byte ys) (suc n) (place_of area (address_staged area (address area ys) j))
      held_on n byte ys area staging c g eb j lj =
          let a : ℕ = address area ys in
          let p : ℕ = place_of area (address_staged area a j) in
          let inside : c % 64 < length staging.held = omega (arith, g.wide) in
          let test : eqb (place_at area a n) p ≡ eqb (c % 64) j =
          staged_place area a n j (address_small area (byte_at 1 ys) (byte_at 2 ys)) lj
          ∙ ap (λ (x : ℕ). eqb (x % 64) j) (sym g.next_is) in
          ⊎_elim
          (λ e. ap (λ (i : ℕ). get_or (set staging.held (c % 64) (Some byte)) i None) (sym e)
          ∙ get_or-set_same staging.held (c % 64) (Some byte) None inside
          ∙ ap Some eb
          ∙ sym (cond-true (eqb (place_at area a n) p) (Some (data_byte ys n)) (last_sent area a (data_byte ys) n p) (test ∙ eq-eqb (c % 64) j e)))
          (λ ne. get_or-set_other staging.held (c % 64) j (Some byte) None (λ q. ne (sym q))
          ∙ g.held j lj
          ∙ sym (cond-false (eqb (place_at area a n) p) (Some (data_byte ys n)) (last_sent area a (data_byte ys) n p) (test ∙ ne_eqb (c % 64) j ne)))
          (cases_eq (c % 64) j)

  -- The slave byte, whichever of ours it is.
  slave_taken : (stage byte : ℕ) (o : Option Slave) → slave (sampled h) ≡ o → Acking h s stage byte 0
      → Tracks was (fell was l h ∷ h) (with_levels l (addressed_as o s m)) m
  slave_taken stage byte None e t = let z : false ≡ true = ap is_some (sym e) ∙ t.taken in absurd (both_ways false refl z)
  slave_taken stage byte (Some ArrayWrite) e t = write_begins stage byte Array t (ap area_written e)
  slave_taken stage byte (Some ArrayRead) e t = read_begins stage byte Array t (ap area_read e)
  slave_taken stage byte (Some RegisterWrite) e t = write_begins stage byte Registers t (ap area_written e)
  slave_taken stage byte (Some RegisterRead) e t = read_begins stage byte Registers t (ap area_read e)

  -- A fall that ends an acknowledge.
  pub acking_falls : (stage byte k : ℕ) → Acking h s stage byte k → Tracks was (fell was l h ∷ h) (with_levels l (fallen_in (Acknowledging stage byte) s m)) m
  acking_falls stage byte zero t =
      subst (λ (i : ℕ). Tracks was (fell was l h ∷ h) (with_levels l (frame.acknowledged i byte s m)) m) (sym t.stage_is)
      (subst (λ (o : Option Slave). Tracks was (fell was l h ∷ h) (with_levels l (addressed_as o s m)) m)
      (sym (ap slave_named t.byte_is)) (slave_taken stage byte (slave (sampled h)) refl t))
  acking_falls stage byte (suc zero) t =
      subst (λ (i : ℕ). Tracks was (fell was l h ∷ h) (with_levels l (frame.acknowledged i byte s m)) m) (sym t.stage_is) (high_taken stage byte t)
  acking_falls stage byte (suc (suc zero)) t =
      subst (λ (i : ℕ). Tracks was (fell was l h ∷ h) (with_levels l (frame.acknowledged i byte s m)) m) (sym t.stage_is) (address_taken stage byte t)
  acking_falls stage byte (suc (suc (suc n))) t =
      subst (λ (u : State). Tracks was (fell was l h ∷ h) (with_levels l u) m) (sym (late stage (omega (arith, t.stage_is)))) (data_taken stage byte n t)
    where
      late : (i : ℕ) → 3 ≤ i → frame.acknowledged i byte s m ≡ staged byte s
      late i few =
          cond-false (eqb i 0) (addressed_as (slave_named byte) s m) _ (ne_eqb i 0 (λ e. omega arith))
          ∙ cond-false (eqb i 1) (with_phase (Receiving 2 0 0) (with_high byte s)) _ (ne_eqb i 1 (λ e. omega arith))
          ∙ cond-false (eqb i 2) (located (address_in s.area s.high byte) s) (staged byte s) (ne_eqb i 2 (λ e. omega arith))
