-- Runs of ticks: what stays, what is counted, and the second mark at the end of one.
use Rattle.std.proofs.Common.{◌≡◌, ℕ, zero, suc, ◌+◌, ◌%◌, ◌<◌, ◌≤◌, Bool, true, false, not, ◌&&◌, eqb, ltb, List, [], ◌∷◌, ◌++◌, reverse, length, replicate, Some, None, Option, unwrap_or, sym, refl, ap, ◌∙◌, ap₂, add-zero, arith}
use mathlib.Core.List.{reverse_aux}
use Rattle.calendar.specs.Dates.{first_bad}
use Rattle.std.proofs.lemmas.List.{reverse-append}
use Rattle.std.proofs.lemmas.Bool.{eq-eqb, lt-ltb, le-ltb}
use Rattle.memory.specs.Model.{Mem}
use Rattle.calendar.specs.Alarm.{matches}
use Rattle.calendar.specs.Clock.{start_date}
use Rattle.calendar.specs.Next.{next, after}
use Rattle.calendar.specs.declared.clock.Clock.{Clock}
use Rattle.chip.specs.Calls.{accepted}
use Rattle.chip.specs.Sizes.{second}
use Rattle.chip.specs.Wires.{wire, edge_by, edge_between}
use Rattle.chip.specs.declared.calls.Call.{Call}
use Rattle.chip.specs.declared.calls.Call.TheVariants.{Level, Tick}
use Rattle.chip.specs.declared.calls.Event.{Event}
use Rattle.chip.specs.declared.calls.Event.TheVariants.{Given}
use Rattle.chip.specs.declared.registers.Section.{Section}
use Rattle.chip.specs.declared.registers.Section.TheVariants.{Alarm0}
use Rattle.chip.specs.declared.wires.Edge.{Edge}
use Rattle.chip.specs.declared.wires.Edge.TheVariants.{Fall, Still}
use Rattle.chip.specs.declared.wires.Levels.{Levels}
use Rattle.rules.specs.Past.{History, Moment, moments, latest, is_fall, is_off}
use Rattle.rules.specs.Wires as wires
use Rattle.rules.specs.Frames.{Sample, in_frame, sampled, slave, area_read}
use Rattle.rules.specs.Stored.{stored}
use Rattle.rules.specs.Counter.{counter}
use Rattle.rules.specs.Clock.{ticks, rtcf, divider, is_mark, waiting, clock}
use Rattle.rules.specs.Alarms.{alarm, matched, matched_since_copy, sends_status, status_sent, sets_flag, flag}
use Rattle.rules.specs.History.{entry_of, extended, history}
use Rattle.rules.specs.Script.{tick_run, past}
use Rattle.rules.specs.Cases.{january, status_nearly_read, status_read}
use Rattle.rules.proofs.Ticks.{chosen, tick_entry, tick_at, marks_where, waiting_on, clock_moves, hears_on, matched_mark, since_copy_by_match}

-- The history after n ticks more.
run : ℕ → History → History
run zero h = h
run (suc n) h = tick_entry (run n h) ∷ run n h

-- One tick more.
run_more : (n : ℕ) (h : History) → run (suc n) h ≡ tick_entry (run n h) ∷ run n h
unfolding run
run_more n h = refl

-- The history of calls that end in n ticks.
history_run : (was : Mem) (n : ℕ) (cs : List Call) → history was (tick_run n ++ cs) ≡ run n (history was cs)
unfolding run tick_run
history_run was zero cs = refl
history_run was (suc n) cs = ap (λ (g : History). tick_entry g ∷ g) (history_run was n cs)

-- Ticks turned round before ticks.
turned : (n m : ℕ) → reverse_aux (replicate n Tick) (replicate m Tick) ≡ replicate (n + m) Tick
turned zero m = ap (λ (k : ℕ). replicate k Tick) (zero_is m)
  where
    zero_is : (m : ℕ) → m ≡ 0 + m
    zero_is m = omega arith
turned (suc n) m = turned n (suc m) ∙ ap (λ (k : ℕ). replicate k Tick) (moved n m)
  where
    moved : (n m : ℕ) → n + suc m ≡ suc n + m
    moved n m = omega arith

-- A run of ticks turned round is itself.
turned_run : (n : ℕ) → reverse (tick_run n) ≡ tick_run n
unfolding tick_run
turned_run n = turned n 0 ∙ ap (λ (k : ℕ). replicate k Tick) (add-zero n)

-- The history of a script that ends in n ticks and a call.
past_run : (was : Mem) (xs : List Call) (n : ℕ) (c : Call)
    → past was (xs ++ (tick_run n ++ (c ∷ []))) ≡ extended was (accepted c) (run n (past was xs))
past_run was xs n c =
    let a : reverse (xs ++ (tick_run n ++ (c ∷ []))) ≡ reverse (tick_run n ++ (c ∷ [])) ++ reverse xs =
    reverse-append xs (tick_run n ++ (c ∷ [])) in
    let b : reverse (tick_run n ++ (c ∷ [])) ≡ c ∷ tick_run n =
    reverse-append (tick_run n) (c ∷ []) ∙ ap (λ (l : List Call). c ∷ l) (turned_run n) in
    ap (history was) (a ∙ ap (λ (l : List Call). l ++ reverse xs) b)
    ∙ ap (λ (g : History). extended was (accepted c) g) (history_run was n (reverse xs))

-- The levels stay.
levels_run : (n : ℕ) (h : History) → wires.levels (run n h) ≡ wires.levels h
unfolding run
levels_run zero h = refl
levels_run (suc n) h = levels_run n h

-- The supply stays.
supply_run : (n : ℕ) (h : History) → wires.supply (run n h) ≡ wires.supply h
unfolding run
supply_run zero h = refl
supply_run (suc n) h = supply_run n h

-- A bus that hears goes on hearing.
hears_run : (n : ℕ) (h : History) → wires.hears h ≡ true → wires.hears (run n h) ≡ true
unfolding run
hears_run zero h e = e
hears_run (suc n) h e = hears_on (run n h) (hears_run n h e)

-- The frame stays.
in_frame_run : (n : ℕ) (h : History) → in_frame (run n h) ≡ in_frame h
unfolding run
in_frame_run zero h = refl
in_frame_run (suc n) h = in_frame_run n h

-- The samples stay.
sampled_run : (n : ℕ) (h : History) → sampled (run n h) ≡ sampled h
unfolding run
sampled_run zero h = refl
sampled_run (suc n) h = sampled_run n h

-- The counter stays.
counter_run : (n : ℕ) (h : History) → counter (run n h) ≡ counter h
unfolding run
counter_run zero h = refl
counter_run (suc n) h = counter_run n h

-- RTCF stays.
rtcf_run : (n : ℕ) (h : History) → rtcf (run n h) ≡ rtcf h
unfolding run
rtcf_run zero h = refl
rtcf_run (suc n) h = rtcf_run n h

-- The bytes stored stay.
stored_run : (was : Mem) (n : ℕ) (h : History) (p : ℕ) → stored was (run n h) p ≡ stored was h p
unfolding run
stored_run was zero h p = refl
stored_run was (suc n) h p = stored_run was n h p

-- So do the alarms.
alarm_run : (was : Mem) (n : ℕ) (h : History) (s : Section) → alarm was (run n h) s ≡ alarm was h s
unfolding run
alarm_run was zero h s = refl
alarm_run was (suc n) h s = alarm_run was n h s

-- While supplied each tick counts.
ticks_run : (n : ℕ) (h : History) → wires.supplied h ≡ true → ticks (run n h) ≡ n + ticks h
unfolding run
ticks_run zero h e = sums (ticks h)
  where
    sums : (t : ℕ) → t ≡ 0 + t
    sums t = omega arith
ticks_run (suc n) h e =
    chosen (wires.supplied (run n h)) (suc (ticks (run n h))) (ticks (run n h)) (ap (λ p. not (is_off p)) (supply_run n h) ∙ e)
    ∙ (ap suc (ticks_run n h e) ∙ sums n (ticks h))
  where
    sums : (n t : ℕ) → suc (n + t) ≡ suc n + t
    sums n t = omega arith

-- From a whole second on the divider counts up.
divider_run : (n : ℕ) (h : History) → wires.supplied h ≡ true → ticks h ≡ 0 → n < 32768 → divider (run n h) ≡ n
divider_run n h e z l = ap (λ t. t % 32768) (ticks_run n h e ∙ ap (λ t. n + t) z) ∙ below n l
  where
    below : (n : ℕ) → n < 32768 → (n + 0) % 32768 ≡ n
    below n l = omega arith

-- A tick before the second is full is no mark.
unmarked : (n : ℕ) (h : History) → wires.supplied h ≡ true → ticks h ≡ 0 → suc n < 32768 → is_mark (tick_at (run n h)) ≡ false
unmarked n h e z l =
    let k : n < 32768 = omega arith in
    let a : n + 1 < 32768 = omega arith in
    marks_where (run n h) (ap (λ p. not (is_off p)) (supply_run n h) ∙ e)
    ∙ (ap (λ d. not (ltb (d + 1) second) && not (rtcf (run n h))) (divider_run n h e z k)
    ∙ ap (λ b. not b && not (rtcf (run n h))) (lt-ltb (n + 1) second a))

-- The tick that makes it full is one, with RTCF off.
full_mark : (n : ℕ) (h : History) → wires.supplied h ≡ true → ticks h ≡ 0 → rtcf h ≡ false → suc n ≡ 32768 → is_mark (tick_at (run n h)) ≡ true
full_mark n h e z r l =
    let k : n < 32768 = omega arith in
    let a : 32768 ≤ n + 1 = omega arith in
    marks_where (run n h) (ap (λ p. not (is_off p)) (supply_run n h) ∙ e)
    ∙ (ap₂ (λ d r. not (ltb (d + 1) second) && not r) (divider_run n h e z k) (rtcf_run n h ∙ r)
    ∙ ap (λ b. not b && true) (le-ltb (n + 1) second a))

-- Until then what waits goes on waiting.
waiting_run : (n : ℕ) (h : History) → wires.supplied h ≡ true → ticks h ≡ 0 → n < 32768 → waiting (run n h) ≡ waiting h
unfolding run
waiting_run zero h e z l = refl
waiting_run (suc n) h e z l =
    let k : n < 32768 = omega arith in
    waiting_on (run n h) (unmarked n h e z l) ∙ waiting_run n h e z k

-- SCL falls under a released SDA.
abbrev falls : Event
falls = Given (record { scl = false; sda = true })

-- A history at whose next fall a status byte has been sent, a whole number of seconds after supply came, with a date that waits.
record Nearly (was : Mem) (h : History) (c : Clock) : Type 0 where
  on : wires.supplied h ≡ true
  hearing : wires.hears h ≡ true
  high : (wires.levels h).scl ≡ true
  open_frame : in_frame h ≡ true
  long : length (sampled h) ≡ 17
  sends : sends_status (area_read (slave (sampled h))) (sampled h) (counter h) ≡ true
  none_counted : ticks h ≡ 0
  runs : rtcf h ≡ false
  waits : waiting h ≡ Some c
  meets : matches (alarm was h Alarm0) c ≡ true

-- The fall after SCL stood high on a bus that hears.
fall_heard : (g : History) → wires.hears g ≡ true → (wires.levels g).scl ≡ true → wires.edge_heard falls g ≡ Fall
fall_heard g e f =
    chosen (wires.hears g) (edge_between (wires.levels g) (wires.pulls g) (record { scl = false; sda = true })) Still e
    ∙ ap (λ (b : Bool). edge_by b false (wire (wires.levels g).sda (wires.pulls g)) (wire true (wires.pulls g))) f

-- After the fall that ends a status byte, a flag is on exactly where its alarm matched since the copy.
flag_at_fall : (was : Mem) (g : History) (s : Section) → wires.hears g ≡ true → (wires.levels g).scl ≡ true → in_frame g ≡ true
    → length (sampled g) ≡ 17 → sends_status (area_read (slave (sampled g))) (sampled g) (counter g) ≡ true
    → flag was s (entry_of was falls g ∷ g) ≡ matched_since_copy was s g
flag_at_fall was g s e f i l t =
    let m : Moment = record { entry = entry_of was falls g; before = g } in
    let inner : Bool =
    elim (eqb (length (sampled g)) 17)
    [ true ↦ sends_status (area_read (slave (sampled g))) (sampled g) (counter g) | false ↦ false ] in
    let a : status_sent m ≡ true =
    chosen (is_fall (wires.edge_heard falls g) && in_frame g) inner false
    (ap₂ (λ (x : Edge) (b : Bool). is_fall x && b) (fall_heard g e f) i)
    ∙ (chosen (eqb (length (sampled g)) 17) (sends_status (area_read (slave (sampled g))) (sampled g) (counter g)) false
    (eq-eqb (length (sampled g)) 17 l)
    ∙ t) in
    ap (λ (o : Option Bool). unwrap_or (elim o [ Some x ↦ Some x | None ↦ latest (sets_flag was s) (moments g) ]) false)
    (chosen (status_sent m) (Some (matched_since_copy was s g)) (elim (matched was s m) [ true ↦ Some true | false ↦ None ]) a)

-- The alarm matches at the tick that completes the second.
matched_last : (was : Mem) (h : History) (c : Clock) (n : ℕ) → Nearly was h c → suc n ≡ 32768 → matched was Alarm0 (tick_at (run n h)) ≡ true
matched_last was h c n k l =
    let low : n < 32768 = omega arith in
    let e : is_mark (tick_at (run n h)) ≡ true = full_mark n h k.on k.none_counted k.runs l in
    let d : clock (tick_entry (run n h) ∷ run n h) ≡ c =
    clock_moves (run n h) e
    ∙ ap (λ (o : Option Clock). unwrap_or o (next (clock (run n h)))) (waiting_run n h k.on k.none_counted low ∙ k.waits) in
    matched_mark was (run n h) Alarm0 (alarm was h Alarm0) c e (sym (alarm_run was n h Alarm0)) (sym d) ∙ k.meets

-- So it has matched since the copy.
matched_then : (was : Mem) (h : History) (c : Clock) (n : ℕ) → Nearly was h c → suc n ≡ 32768
    → matched_since_copy was Alarm0 (run (suc n) h) ≡ true
matched_then was h c n k l =
    ap (matched_since_copy was Alarm0) (run_more n h) ∙ since_copy_by_match was (run n h) Alarm0 true (matched_last was h c n k l)

-- And its flag stays on past the fall that ends the status byte.
stays_on : (was : Mem) (h : History) (c : Clock) (n : ℕ) → Nearly was h c → suc n ≡ 32768
    → flag was Alarm0 (entry_of was falls (run (suc n) h) ∷ run (suc n) h) ≡ true
stays_on was h c n k l =
    flag_at_fall was (run (suc n) h) Alarm0
    (hears_run (suc n) h k.hearing)
    (ap (λ (x : Levels). x.scl) (levels_run (suc n) h) ∙ k.high)
    (in_frame_run (suc n) h ∙ k.open_frame)
    (ap length (sampled_run (suc n) h) ∙ k.long)
    (ap₂ (λ (xs : List Sample) (a : ℕ). sends_status (area_read (slave xs)) xs a) (sampled_run (suc n) h) (counter_run (suc n) h) ∙ k.sends)
    ∙ matched_then was h c n k l

-- The script's status read has come so far.
nearly : Nearly january (past january status_nearly_read) start_date
unfolding after first_bad matches
nearly =
    record {
      on = refl;
      hearing = refl;
      high = refl;
      open_frame = refl;
      long = refl;
      sends = refl;
      none_counted = refl;
      runs = refl;
      waits = refl;
      meets = refl;
    }

-- A flag matched during the status read stays.
pub flag_stays : flag january Alarm0 (past january (status_nearly_read ++ (tick_run 32768 ++ status_read))) ≡ true
flag_stays =
    ap (flag january Alarm0) (past_run january status_nearly_read 32768 (Level 0 1))
    ∙ stays_on january (past january status_nearly_read) start_date 32767 nearly refl
