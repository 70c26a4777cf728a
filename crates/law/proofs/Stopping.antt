-- A stop: where it closes a write, and that the module and the rules make the same of it.
use Rattle.std.proofs.Common.{◌≡◌, ℕ, zero, suc, ◌+◌, ◌-◌, ◌*◌, ◌/◌, ◌%◌, ◌<◌, ◌≤◌, min, Bool, true, false, cond, ◌&&◌, eqb, ltb, leb, List, [], ◌∷◌, length, get_or, Some, None, Option, unwrap_or, sym, refl, ap, ◌∙◌, subst, inl, inr, ⊎_elim, append-nil, arith}
use Rattle.std.proofs.lemmas.Bool.{and_left, and_right, and_from, and_parts, and_cases, true≢false, eq-eqb, eqb-true, eqb-false, leb-true, le-leb, ltb-false, cases_Bool, cond-true, cond-false}
use Rattle.calendar.specs.Dates.{first_bad}
use Rattle.calendar.specs.declared.clock.Clock.{Clock}
use Rattle.memory.specs.Model.{Mem}
use Rattle.chip.specs.Places.{place_of}
use Rattle.chip.specs.Locks.{is_locked}
use Rattle.chip.specs.Registers.{section_of, first_of, length_of, joined_with}
use Rattle.chip.specs.Sizes.{lock_register, status_register, write_cycle}
use Rattle.chip.specs.declared.calls.Event.TheVariants.{Given}
use Rattle.chip.specs.declared.refusals.Refusal.TheVariants.{Worn, RwelOff, NotADate, PageLocked}
use Rattle.chip.specs.declared.registers.Section.{Section}
use Rattle.chip.specs.declared.registers.Section.TheVariants.{Alarm0, Alarm1, Control, Clock as ClockSection, Status as StatusSection}
use Rattle.chip.specs.declared.slaves.Area.{Area}
use Rattle.chip.specs.declared.slaves.Area.TheVariants.{Array, Registers}
use Rattle.chip.specs.declared.wires.Edge.TheVariants.{Stop}
use Rattle.chip.specs.declared.wires.Levels.{Levels}
use Rattle.rules.specs.Past.{History, Write, Outcome, Refused, Stored, Status, refusal_of}
use Rattle.rules.specs.Wires as wires
use Rattle.rules.specs.Frames.{Sample, in_frame, sampled, acknowledged, slave, area_written, area_read, address, data_byte, byte_at}
use Rattle.rules.specs.Counter.{counter}
use Rattle.rules.specs.Stored.{stored, life_left, sent_raw, cost, last_sent}
use Rattle.rules.specs.Latches.{rwel}
use Rattle.rules.specs.Clock.{clock}
use Rattle.rules.specs.History.{entry_with, outcome_at}
use Rattle.rules.specs.Stop.{complete, write_in, closes_in, closes, clock_addressed, clock_asked, stored_or_worn, array_outcome, register_outcome, clock_outcome, waits_or_bad, section_outcome, area_outcome, outcome_of}
use Rattle.x1226.specs.declared.state.Phase.{Phase}
use Rattle.x1226.specs.declared.state.Phase.TheVariants.{Deaf, Receiving, Acknowledging, Sending, Listening}
use Rattle.x1226.specs.declared.state.State.{State}
use Rattle.x1226.specs.State.{with_levels, with_cycle}
use Rattle.x1226.specs.Frame.{pulls}
use Rattle.x1226.specs.Stop as module-stop
use Rattle.x1226.specs.Stop.{Left, passed, refused, stopped, count_held, stored_held, storing, rwel_off, array_stop, register_stop, clock_stop, clock_tested, status_stop, section_stop, area_stop, lock_byte}
use Rattle.law.proofs.Back.{chosen, passed_over}
use Rattle.law.proofs.Moves.{address_small}
use Rattle.law.proofs.Tracks.{scl, Holds, Staged, Said, addressed_at, Taking, Silent, SilentOn, Deafness, DeafnessUnder, Follows, Tracks}
use Rattle.law.proofs.Rising.{reads_no_write}
use Rattle.law.proofs.Storing.{base_of, place_staged, Sent, count_sent, HeldStored, held_stored}
use Rattle.law.proofs.Asked.{sent_array, sent_registers, sent_same, raw_sent}
use Rattle.law.proofs.Ends.{Stops, idle_stops, refused_stops, waits_stops, status_stops, array_stored, registers_stored}

-- An incomplete frame closes nothing, whatever it writes.
pub incomplete_none : (o : Option Area) (xs : List Sample) → ((area : Area) → o ≡ Some area → complete xs ≡ false) → closes_in o xs ≡ None
incomplete_none None xs f = refl
incomplete_none (Some area) xs f = passed_over (complete xs) (Some (write_in area xs)) None (f area refl)

-- A frame with bits of a further byte is complete where there is one and at least four bytes were acknowledged.
pub complete_at : (xs : List Sample) (k bits : ℕ) → length xs ≡ 9 * k + bits → bits ≤ 8 → acknowledged k xs ≡ true
    → complete xs ≡ (eqb bits 1 && leb 4 k)
complete_at xs k bits long few acked =
    ⊎_elim
    (λ t. chosen (eqb (length xs % 9) 1 && leb 4 (length xs / 9)) (acknowledged (length xs / 9) xs) false (same ∙ t)
    ∙ ap (λ (j : ℕ). acknowledged j xs) (bytes (length xs) long) ∙ acked ∙ sym t)
    (λ f. passed_over (eqb (length xs % 9) 1 && leb 4 (length xs / 9)) (acknowledged (length xs / 9) xs) false (same ∙ f) ∙ sym f)
    (cases_Bool (eqb bits 1 && leb 4 k))
  where
    rest : (n : ℕ) → n ≡ 9 * k + bits → n % 9 ≡ bits
    rest n e = omega arith

    bytes : (n : ℕ) → n ≡ 9 * k + bits → n / 9 ≡ k
    bytes n e = omega arith

    same : (eqb (length xs % 9) 1 && leb 4 (length xs / 9)) ≡ (eqb bits 1 && leb 4 k)
    same =
        ap (λ (n : ℕ). eqb n 1 && leb 4 (length xs / 9)) (rest (length xs) long)
        ∙ ap (λ (n : ℕ). eqb bits 1 && leb 4 n) (bytes (length xs) long)

-- Silent samples are not complete.
pub silent_incomplete : (c : ℕ) (xs : List Sample) → Silent c xs → (area : Area) → area_written (slave xs) ≡ Some area → complete xs ≡ false
silent_incomplete c xs q area e =
    ⊎_elim
    (λ t.
    let one : length xs % 9 ≡ 1 = eqb-true (length xs % 9) 1 (and_parts (eqb (length xs % 9) 1) (leb 4 (length xs / 9)) t).0 in
    let four : 4 ≤ length xs / 9 = leb-true 4 (length xs / 9) (and_parts (eqb (length xs % 9) 1) (leb 4 (length xs / 9)) t).1 in
    chosen (eqb (length xs % 9) 1 && leb 4 (length xs / 9)) (acknowledged (length xs / 9) xs) false t
    ∙ q.no_write area e (omega arith) (omega arith))
    (λ f. passed_over (eqb (length xs % 9) 1 && leb 4 (length xs / 9)) (acknowledged (length xs / 9) xs) false f)
    (cases_Bool (eqb (length xs % 9) 1 && leb 4 (length xs / 9)))

-- What is staged for an array write is what the write sends.
array_sent : (area : Area) (xs : List Sample) (n : ℕ) (held : List (Option ℕ)) → area ≡ Array → length xs / 9 - 3 ≡ n
    → ((j : ℕ) → j < 64 → get_or held j None ≡ last_sent area (address area xs) (data_byte xs) n (base_of area (address area xs) + j))
    → Sent held (base_of area (address area xs)) 64 (sent_raw (write_in area xs))
array_sent Array xs n held e count same =
    sent_same held (base_of Array (address Array xs)) 64 (last_sent Array (address Array xs) (data_byte xs) n) (sent_raw (write_in Array xs))
    (λ p. raw_sent Array xs n p count)
    (sent_array (address Array xs) n (data_byte xs) held (address_small Array (byte_at 1 xs) (byte_at 2 xs)) same)
array_sent Registers xs n held e count same = let z : ◌≡◌ {A = ℕ} 0 1 = cc in absurd (omega arith)

-- So it is for a write to a section that the memory stores.
registers_sent : (area : Area) (xs : List Sample) (n : ℕ) (held : List (Option ℕ)) (s : Section) → area ≡ Registers → length xs / 9 - 3 ≡ n
    → section_of (address area xs) ≡ Some s → first_of s + length_of s ≤ 20
    → ((j : ℕ) → j < 64 → get_or held j None ≡ last_sent area (address area xs) (data_byte xs) n (base_of area (address area xs) + j))
    → Sent held (base_of area (address area xs)) 20 (sent_raw (write_in area xs))
registers_sent Array xs n held s e count es short same = let z : ◌≡◌ {A = ℕ} 0 1 = cc in absurd (omega arith)
registers_sent Registers xs n held s e count es short same =
    sent_same held (base_of Registers (address Registers xs)) 20 (last_sent Registers (address Registers xs) (data_byte xs) n)
    (sent_raw (write_in Registers xs))
    (λ p. raw_sent Registers xs n p count)
    (sent_registers (address Registers xs) n (data_byte xs) held s es short same)

-- Two clocks joined with the same bytes.
joined_same : (c d : Clock) (f g : ℕ → Option ℕ) → c ≡ d → ((r : ℕ) → r < 64 → f r ≡ g r) → joined_with c f ≡ joined_with d g
joined_same c d f g e same =
    ap (λ (x : Clock). joined_with x f) e
    ∙ (λ i. record {
      seconds = unwrap_or (same 0x30 (omega arith) i) d.seconds;
      minutes = unwrap_or (same 0x31 (omega arith) i) d.minutes;
      hours = unwrap_or (same 0x32 (omega arith) i) d.hours;
      date = unwrap_or (same 0x33 (omega arith) i) d.date;
      month = unwrap_or (same 0x34 (omega arith) i) d.month;
      year = unwrap_or (same 0x35 (omega arith) i) d.year;
      weekday = unwrap_or (same 0x36 (omega arith) i) d.weekday;
      century = unwrap_or (same 0x37 (omega arith) i) d.century;
    })

module _ (was : Mem) (h : History) (s : State) (m : Mem) (l : Levels)
    (hearing : wires.hears h ≡ true) (free : wires.pulls h ≡ false) (k : Holds was h s m) where
  -- The same outcome and the same that is left, by other names.
  stops_as : (o o' : Outcome) (x x' : Left) → o ≡ o' → x ≡ x' → Stops was h l o' x' → Stops was h l o x
  stops_as o o' x x' eo ex t =
      subst (λ (y : Outcome). Stops was h l y x) (sym eo) (subst (λ (y : Left). Stops was h l o' y) (sym ex) t)

  -- Where the rules close nothing, nothing happens.
  nothing_closed : closes h ≡ None → Stops was h l (outcome_of was h (closes h)) (passed s m)
  nothing_closed e =
      subst (λ (o : Option Write). Stops was h l (outcome_of was h o) (passed s m)) (sym e) (idle_stops was h s m l hearing free k)

  module _ (n : ℕ) (count : length (sampled h) / 9 - 3 ≡ n)
      (t : Staged (sampled h) (addressed_at h) s.area s.staging s.counter s.copies.clock n) where
    -- The write that the frame asks for.
    abbrev w : Write
    w = write_in s.area (sampled h)

    -- What is staged.
    abbrev held : List (Option ℕ)
    held = s.staging.held

    -- Staged place j holds what the write's data bytes sent to its place.
    held_is : (j : ℕ) → j < 64
        → get_or held j None
        ≡ last_sent s.area (address s.area (sampled h)) (data_byte (sampled h)) n (base_of s.area (address s.area (sampled h)) + j)
    held_is j lj =
        t.held j lj
        ∙ ap (last_sent s.area (address s.area (sampled h)) (data_byte (sampled h)) n)
        (place_staged s.area (address s.area (sampled h)) j)

    -- A register's byte is held as the write sends it.
    register_held : s.area ≡ Registers → (r : ℕ) → r < 64 → get_or held r None ≡ sent_raw w (place_of Registers r)
    register_held e r lr =
        held_is r lr
        ∙ ap (λ (a : Area). last_sent s.area (address s.area (sampled h)) (data_byte (sampled h)) n (base_of a (address s.area (sampled h)) + r)) e
        ∙ sym (raw_sent s.area (sampled h) n (512 + r) count)

    -- The life decides alike, and the staged bytes become those of the write.
    storing_stops : (used : ℕ) (then : State) → Sent held (base_of s.area (address s.area (sampled h))) used (sent_raw w)
        → ((x : Mem) → HeldStored s.area (sent_raw w) m x → Stops was h l (Stored w) (passed (with_cycle write_cycle then) x))
        → Stops was h l (stored_or_worn was h w) (storing s then m)
    storing_stops used then sent lawful = go (ltb m.life (count_held held 64)) refl
      where
        there : Sent held (base_of s.area s.staging.address) used (sent_raw w)
        there = subst (λ (a : ℕ). Sent held (base_of s.area a) used (sent_raw w)) (sym t.address_is) sent

        tests : ltb (life_left was h) (cost w) ≡ ltb m.life (count_held held 64)
        tests =
            ap (λ (x : ℕ). ltb x (cost w)) (sym k.life)
            ∙ ap (λ (x : ℕ). ltb m.life x) (sym (count_sent held (base_of s.area s.staging.address) used (sent_raw w) there))

        go : (b : Bool) → ltb m.life (count_held held 64) ≡ b → Stops was h l (stored_or_worn was h w) (storing s then m)
        go true e =
            stops_as (stored_or_worn was h w) (Refused (Worn s.area s.staging.address m.life))
            (storing s then m) (refused (Worn s.area s.staging.address m.life) s m)
            (chosen (ltb (life_left was h) (cost w)) (Refused (Worn s.area (address s.area (sampled h)) (life_left was h))) (Stored w) (tests ∙ e)
            ∙ ap (λ (a : ℕ). Refused (Worn s.area a (life_left was h))) (sym t.address_is)
            ∙ ap (λ (x : ℕ). Refused (Worn s.area s.staging.address x)) (sym k.life))
            (cond-true (ltb m.life (count_held held 64)) (refused (Worn s.area s.staging.address m.life) s m)
            (passed (with_cycle write_cycle then) (stored_held s.area s.staging.address held 64 m)) e)
            (refused_stops was h s m l hearing free k (Worn s.area s.staging.address m.life))
        go false e =
            stops_as (stored_or_worn was h w) (Stored w)
            (storing s then m) (passed (with_cycle write_cycle then) (stored_held s.area s.staging.address held 64 m))
            (passed_over (ltb (life_left was h) (cost w)) (Refused (Worn s.area (address s.area (sampled h)) (life_left was h))) (Stored w) (tests ∙ e))
            (cond-false (ltb m.life (count_held held 64)) (refused (Worn s.area s.staging.address m.life) s m)
            (passed (with_cycle write_cycle then) (stored_held s.area s.staging.address held 64 m)) e)
            (lawful (stored_held s.area s.staging.address held 64 m)
            (held_stored s.area s.staging.address used held (sent_raw w) m there k.fit k.sized
            (ltb-false m.life (count_held held 64) e)))

    -- An array write: a locked page, a short life, or stored.
    array_stops : s.area ≡ Array → Stops was h l (array_outcome was h w) (array_stop s m)
    array_stops ea = go (is_locked (lock_byte m) s.staging.address) refl
      where
        locks : is_locked (stored was h (place_of Registers lock_register)) (address s.area (sampled h)) ≡ is_locked (lock_byte m) s.staging.address
        locks =
            ap (λ (b : ℕ). is_locked b (address s.area (sampled h))) (sym (k.bytes (place_of Registers lock_register) (omega arith)))
            ∙ ap (λ (a : ℕ). is_locked (lock_byte m) a) (sym t.address_is)

        go : (b : Bool) → is_locked (lock_byte m) s.staging.address ≡ b → Stops was h l (array_outcome was h w) (array_stop s m)
        go true e =
            stops_as (array_outcome was h w) (Refused (PageLocked s.staging.address))
            (array_stop s m) (refused (PageLocked s.staging.address) s m)
            (chosen (is_locked (stored was h (place_of Registers lock_register)) (address s.area (sampled h)))
            (Refused (PageLocked (address s.area (sampled h)))) (stored_or_worn was h w) (locks ∙ e)
            ∙ ap (λ (a : ℕ). Refused (PageLocked a)) (sym t.address_is))
            (cond-true (is_locked (lock_byte m) s.staging.address) (refused (PageLocked s.staging.address) s m) (storing s s m) e)
            (refused_stops was h s m l hearing free k (PageLocked s.staging.address))
        go false e =
            stops_as (array_outcome was h w) (stored_or_worn was h w) (array_stop s m) (storing s s m)
            (passed_over (is_locked (stored was h (place_of Registers lock_register)) (address s.area (sampled h)))
            (Refused (PageLocked (address s.area (sampled h)))) (stored_or_worn was h w) (locks ∙ e))
            (cond-false (is_locked (lock_byte m) s.staging.address) (refused (PageLocked s.staging.address) s m) (storing s s m) e)
            (storing_stops 64 s (array_sent s.area (sampled h) n held ea count held_is)
            (λ x kept. array_stored was h s m l hearing free k w x kept ea))

    -- RWEL off refuses a register write or a clock write.
    rwel_stops : (o : Outcome) (x : Left) → (s.latches.rwel ≡ true → Stops was h l o x)
        → Stops was h l (elim (rwel h) as (λ _. Outcome) [ true ↦ o | false ↦ Refused (RwelOff (address s.area (sampled h))) ])
        (cond s.latches.rwel x (refused (RwelOff s.staging.address) s m))
    rwel_stops o x on = go s.latches.rwel refl
      where
        go : (b : Bool) → s.latches.rwel ≡ b
            → Stops was h l (elim (rwel h) as (λ _. Outcome) [ true ↦ o | false ↦ Refused (RwelOff (address s.area (sampled h))) ])
            (cond s.latches.rwel x (refused (RwelOff s.staging.address) s m))
        go true e =
            stops_as _ o _ x
            (chosen (rwel h) o (Refused (RwelOff (address s.area (sampled h)))) (sym k.rwel_is ∙ e))
            (cond-true s.latches.rwel x (refused (RwelOff s.staging.address) s m) e)
            (on e)
        go false e =
            stops_as _ (Refused (RwelOff s.staging.address)) _ (refused (RwelOff s.staging.address) s m)
            (passed_over (rwel h) o (Refused (RwelOff (address s.area (sampled h)))) (sym k.rwel_is ∙ e)
            ∙ ap (λ (a : ℕ). Refused (RwelOff a)) (sym t.address_is))
            (cond-false s.latches.rwel x (refused (RwelOff s.staging.address) s m) e)
            (refused_stops was h s m l hearing free k (RwelOff s.staging.address))

    -- A register write: RWEL off, a short life, or stored.
    register_stops : s.area ≡ Registers → (c : Section) → section_of (address s.area (sampled h)) ≡ Some c → first_of c + length_of c ≤ 20
        → Stops was h l (register_outcome was h w) (register_stop s m)
    register_stops ea c ec short =
        rwel_stops (stored_or_worn was h w) (storing s (rwel_off s) m)
        (λ on. storing_stops 20 (rwel_off s) (registers_sent s.area (sampled h) n held c ea count ec short held_is)
        (λ x kept. registers_stored was h s m l hearing free k w x kept ea))

    -- A clock write asks for the same eight bytes.
    asked_same : s.area ≡ Registers → module-stop.clock_asked s ≡ clock_asked h w
    asked_same ea =
        joined_same s.copies.clock (clock_addressed h) (λ r. get_or held r None) (λ r. sent_raw w (place_of Registers r))
        (t.clock_is ∙ sym (ap (λ (o : Option History). clock (unwrap_or o h)) t.found))
        (register_held ea)

    -- A clock write: RWEL off, not a date, or its bytes wait.
    clock_stops : s.area ≡ Registers → Stops was h l (clock_outcome h w) (clock_stop s m)
    clock_stops ea =
        rwel_stops (waits_or_bad (clock_asked h w) (first_bad (clock_asked h w)))
        (clock_tested (first_bad (module-stop.clock_asked s)) (module-stop.clock_asked s) s m)
        (λ on. subst (λ (c : Clock). Stops was h l (waits_or_bad c (first_bad c)) (clock_tested (first_bad (module-stop.clock_asked s)) (module-stop.clock_asked s) s m))
        (asked_same ea) (tested (module-stop.clock_asked s) (first_bad (module-stop.clock_asked s))))
      where
        tested : (c : Clock) (o : Option ℕ) → Stops was h l (waits_or_bad c o) (clock_tested o c s m)
        tested c None = waits_stops was h s m l hearing free k c
        tested c (Some r) = refused_stops was h s m l hearing free k (NotADate r)

    -- A write to the registers, by its section.
    section_stops : s.area ≡ Registers → (o : Option Section) → section_of (address s.area (sampled h)) ≡ o
        → Stops was h l (section_outcome was h w o) (section_stop o s m)
    section_stops ea None e = idle_stops was h s m l hearing free k
    section_stops ea (Some Alarm0) e = register_stops ea Alarm0 e (omega arith)
    section_stops ea (Some Alarm1) e = register_stops ea Alarm1 e (omega arith)
    section_stops ea (Some Control) e = register_stops ea Control e (omega arith)
    section_stops ea (Some ClockSection) e = clock_stops ea
    section_stops ea (Some StatusSection) e =
        subst (λ (o : Option ℕ). Stops was h l (Status (unwrap_or o 0)) (status_stop s m))
        (register_held ea status_register (omega arith))
        (status_stops was h s m l hearing free k (unwrap_or (get_or held status_register None) 0))

    -- The write that a stop closes, by its area.
    area_stops : (a : Area) → s.area ≡ a → Stops was h l (area_outcome was h w a) (area_stop a s m)
    area_stops Array ea = array_stops ea
    area_stops Registers ea =
        subst (λ (a : ℕ). Stops was h l (area_outcome was h w Registers) (section_stop (section_of a) s m)) (sym t.address_is)
        (section_stops ea (section_of (address s.area (sampled h))) refl)

    -- Where the rules close that write, the module does the same with it.
    write_stops : closes h ≡ Some w → Stops was h l (outcome_of was h (closes h)) (area_stop s.area s m)
    write_stops e =
        subst (λ (o : Option Write). Stops was h l (outcome_of was h o) (area_stop s.area s m)) (sym e) (area_stops s.area refl)

  -- In an open frame the rules look at its samples.
  closes_open : in_frame h ≡ true → closes h ≡ closes_in (area_written (slave (sampled h))) (sampled h)
  closes_open e = chosen (in_frame h) (closes_in (area_written (slave (sampled h))) (sampled h)) None e

  -- A frame that reads closes nothing.
  read_closes : in_frame h ≡ true → (area : Area) → area_read (slave (sampled h)) ≡ Some area → closes h ≡ None
  read_closes o area e =
      closes_open o ∙ ap (λ (p : Option Area). closes_in p (sampled h)) (reads_no_write (slave (sampled h)) area e)

  -- While bytes are taken, a stop closes a write where one bit of a further byte has come after a data byte.
  taking_stops : (stage bits shift j : ℕ) → Taking h s stage bits shift j
      → Stops was h l (outcome_of was h (closes h)) (cond (eqb stage 4 && eqb bits 1) (area_stop s.area s m) (passed s m))
  taking_stops stage bits shift j t = go (eqb stage 4 && eqb bits 1) refl
    where
      whole : complete (sampled h) ≡ (eqb bits 1 && leb 4 j)
      whole = complete_at (sampled h) j bits t.long t.few t.acked

      full : (j : ℕ) → 4 ≤ min 4 j → 4 ≤ j
      full j e = omega arith

      partly : (j : ℕ) → 4 ≤ j → min 4 j ≡ 4
      partly j e = omega arith

      closed : (j : ℕ) → 4 ≤ j → bits ≡ 1 → length (sampled h) ≡ 9 * j + bits → complete (sampled h) ≡ true
          → Said (sampled h) (addressed_at h) s.area s.high s.staging s.counter s.copies.clock j
          → Stops was h l (outcome_of was h (closes h)) (area_stop s.area s m)
      closed zero four one long all said = absurd (omega arith)
      closed (suc zero) four one long all said = absurd (omega arith)
      closed (suc (suc zero)) four one long all said = absurd (omega arith)
      closed (suc (suc (suc n))) four one long all said =
          write_stops n (omega arith) said.1
          (closes_open t.opened.open_frame
          ∙ ap (λ (p : Option Area). closes_in p (sampled h)) said.0
          ∙ chosen (complete (sampled h)) (Some (write_in s.area (sampled h))) None all)

      go : (b : Bool) → (eqb stage 4 && eqb bits 1) ≡ b
          → Stops was h l (outcome_of was h (closes h)) (cond (eqb stage 4 && eqb bits 1) (area_stop s.area s m) (passed s m))
      go true e =
          let four : stage ≡ 4 = eqb-true stage 4 (and_parts (eqb stage 4) (eqb bits 1) e).0 in
          let one : bits ≡ 1 = eqb-true bits 1 (and_parts (eqb stage 4) (eqb bits 1) e).1 in
          let enough : 4 ≤ j = full j (omega (arith, t.stage_is)) in
          subst (λ (x : Left). Stops was h l (outcome_of was h (closes h)) x)
          (sym (cond-true (eqb stage 4 && eqb bits 1) (area_stop s.area s m) (passed s m) e))
          (closed j enough one t.long (whole ∙ and_from (eqb bits 1) (leb 4 j) (eq-eqb bits 1 one) (le-leb 4 j enough)) t.said)
      go false e =
          subst (λ (x : Left). Stops was h l (outcome_of was h (closes h)) x)
          (sym (cond-false (eqb stage 4 && eqb bits 1) (area_stop s.area s m) (passed s m) e))
          (nothing_closed
          (closes_open t.opened.open_frame
          ∙ incomplete_none (area_written (slave (sampled h))) (sampled h) (λ area q. whole ∙ short)))
        where
          short : (eqb bits 1 && leb 4 j) ≡ false
          short =
              ⊎_elim
              (λ ns. and_right (eqb bits 1) (leb 4 j)
              (⊎_elim (λ y. absurd (eqb-false stage 4 ns (t.stage_is ∙ partly j (leb-true 4 j y)))) (λ y. y) (cases_Bool (leb 4 j))))
              (λ nb. and_left (eqb bits 1) (leb 4 j) nb)
              (and_cases (eqb stage 4) (eqb bits 1) e)

  -- In silence a stop closes nothing.
  deaf_stops : scl h ≡ true → Deafness h → closes h ≡ None
  deaf_stops high (inl e) = passed_over (in_frame h) (closes_in (area_written (slave (sampled h))) (sampled h)) None e
  deaf_stops high (inr d) =
      let on : SilentOn (counter h) (sampled h) = subst (λ (b : Bool). DeafnessUnder b (counter h) (sampled h)) high d.1 in
      let q : Silent (counter h) (sampled h) = subst (Silent (counter h)) (append-nil (sampled h)) (on []) in
      closes_open d.0.open_frame
      ∙ incomplete_none (area_written (slave (sampled h))) (sampled h) (silent_incomplete (counter h) (sampled h) q)

  -- By the phase.
  phase_stops : scl h ≡ true → (p : Phase) → pulls p ≡ wires.pulls h → Follows was h s p
      → Stops was h l (outcome_of was h (closes h)) (cond (module-stop.closes p) (area_stop s.area s m) (passed s m))
  phase_stops high Deaf e f = nothing_closed (deaf_stops high f)
  phase_stops high (Receiving stage bits shift) e (j, t) = taking_stops stage bits shift j t
  phase_stops high (Acknowledging stage byte) e f = absurd (true≢false (e ∙ free))
  phase_stops high (Sending sent byte) e (j, t) = nothing_closed (read_closes t.opened.open_frame s.area t.copied.reads_area)
  phase_stops high Listening e (j, t) = nothing_closed (read_closes t.opened.open_frame s.area t.copied.reads_area)

-- A stop: the module leaves and refuses what the rules say.
pub stop_tracks : (was : Mem) (h : History) (s : State) (m : Mem) (l : Levels) → scl h ≡ true → l.scl ≡ true
    → wires.hears h ≡ true → wires.pulls h ≡ false → Tracks was h s m
    → Tracks was (entry_with was (Given l) Stop h ∷ h) (with_levels l (stopped s m).state) (stopped s m).mem
    × ((stopped s m).refusal ≡ refusal_of (outcome_at was Stop h))
stop_tracks was h s m l high is-high hearing free t =
    phase_stops was h s m l hearing free t.holds high s.phase t.holds.pulled t.follows
