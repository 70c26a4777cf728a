-- A tick: what it makes of each notion of the rules.
use Rattle.std.proofs.Common.{◌≡◌, ℕ, suc, ◌+◌, ◌-◌, ◌%◌, ◌<◌, ◌≤◌, Bool, true, false, cond, not, ◌&&◌, eqb, ltb, List, [], ◌∷◌, is_some, Some, None, Option, unwrap_or, sym, refl, ap, ◌∙◌, ap₂, arith}
use Rattle.std.proofs.lemmas.Bool.{true≢false, eqb-true, eq-eqb, ne_eqb, ltb-true, ltb-false}
use Rattle.memory.specs.Model.{Mem}
use Rattle.calendar.specs.Alarm.{matches}
use Rattle.calendar.specs.Clock.{start_date}
use Rattle.calendar.specs.Next.{next, after}
use Rattle.calendar.specs.declared.alarm.Alarm.{Alarm}
use Rattle.calendar.specs.declared.clock.Clock.{Clock}
use Rattle.chip.specs.Sizes.{second}
use Rattle.chip.specs.declared.calls.Event.TheVariants.{Ticked}
use Rattle.chip.specs.declared.registers.Section.{Section}
use Rattle.chip.specs.declared.wires.Edge.TheVariants.{Still}
use Rattle.rules.specs.Past.{History, Entry, Moment, Idle, moments, latest, since, any_of, count_of, is_tick, clock_write}
use Rattle.rules.specs.Wires as wires
use Rattle.rules.specs.Clock.{since_supply, ticks, rtcf, divider, is_mark, waiting, taken_over, taken_at, marks_since, clock}
use Rattle.rules.specs.Alarms.{flag, matched, matched_since_copy, alarm, sets_flag}

-- A choice by a test that holds.
pub chosen : {A : Type 0} (b : Bool) (x y : A) → b ≡ true → elim b [ true ↦ x | false ↦ y ] ≡ x
chosen true x y e = refl
chosen false x y e = absurd (true≢false (sym e))

-- A choice by a test that fails.
pub passed_over : {A : Type 0} (b : Bool) (x y : A) → b ≡ false → elim b [ true ↦ x | false ↦ y ] ≡ y
passed_over true x y e = absurd (true≢false e)
passed_over false x y e = refl

-- The entry of a tick.
abbrev pub tick_entry : History → Entry
tick_entry h = record { event = Ticked; edge = Still; pulls = wires.pulls h; outcome = Idle }

-- Its moment.
abbrev pub tick_at : History → Moment
tick_at h = record { entry = tick_entry h; before = h }

-- One tick more of a divider.
divider_number : (t : ℕ) → suc t % 32768 ≡ cond (ltb (t % 32768 + 1) 32768) (t % 32768 + 1) 0
divider_number t = go (ltb (t % 32768 + 1) 32768) refl
  where
    go : (b : Bool) → ltb (t % 32768 + 1) 32768 ≡ b → suc t % 32768 ≡ cond b (t % 32768 + 1) 0
    go true e = let l : t % 32768 + 1 < 32768 = ltb-true (t % 32768 + 1) 32768 e in omega arith
    go false e = let l : 32768 ≤ t % 32768 + 1 = ltb-false (t % 32768 + 1) 32768 e in omega arith

-- Below a second, the next tick completes it exactly where the count comes to a whole number of them.
completes_number : (d : ℕ) → d < 32768 → eqb ((d + 1) % 32768) 0 ≡ not (ltb (d + 1) 32768)
completes_number d l = go (ltb (d + 1) 32768) refl
  where
    go : (b : Bool) → ltb (d + 1) 32768 ≡ b → eqb ((d + 1) % 32768) 0 ≡ not b
    go true e = let k : d + 1 < 32768 = ltb-true (d + 1) 32768 e in ne_eqb ((d + 1) % 32768) 0 (omega arith)
    go false e = let k : 32768 ≤ d + 1 = ltb-false (d + 1) 32768 e in eq-eqb ((d + 1) % 32768) 0 (omega arith)

-- The divider is below a second.
divider_low : (h : History) → divider h < 32768
divider_low h = omega arith

-- A tick while supplied counts.
pub divider_counts : (h : History) → wires.supplied h ≡ true → divider (tick_entry h ∷ h) ≡ cond (ltb (divider h + 1) second) (divider h + 1) 0
divider_counts h e = ap (λ n. n % 32768) (chosen (wires.supplied h) (suc (ticks h)) (ticks h) e) ∙ divider_number (ticks h)

-- A tick without supply does not.
pub divider_stands : (h : History) → wires.supplied h ≡ false → divider (tick_entry h ∷ h) ≡ divider h
divider_stands h e = ap (λ n. n % 32768) (passed_over (wires.supplied h) (suc (ticks h)) (ticks h) e)

-- A tick while supplied is a mark where it completes a second with RTCF off.
pub marks_where : (h : History) → wires.supplied h ≡ true → is_mark (tick_at h) ≡ (not (ltb (divider h + 1) second) && not (rtcf h))
marks_where h e =
    chosen (wires.supplied h) (eqb ((divider h + 1) % 32768) 0 && not (rtcf h)) false e
    ∙ ap (λ b. b && not (rtcf h)) (completes_number (divider h) (divider_low h))

-- A tick without supply is no mark.
pub marks_never : (h : History) → wires.supplied h ≡ false → is_mark (tick_at h) ≡ false
marks_never h e = passed_over (wires.supplied h) (eqb ((divider h + 1) % 32768) 0 && not (rtcf h)) false e

-- RTCF stays.
rtcf_stays : (h : History) → rtcf (tick_entry h ∷ h) ≡ rtcf h
rtcf_stays h = refl

-- The clock bytes that a list of moments leaves waiting.
abbrev left_waiting : List Moment → Option Clock
left_waiting ms = latest (λ (m : Moment). clock_write m.entry.outcome) ms

-- At a mark nothing waits any more.
pub waiting_over : (h : History) → is_mark (tick_at h) ≡ true → waiting (tick_entry h ∷ h) ≡ None
waiting_over h e = ap left_waiting (chosen (is_mark (tick_at h)) [] (tick_at h ∷ since is_mark (since_supply h)) e)

-- At any other tick what waits goes on waiting.
pub waiting_on : (h : History) → is_mark (tick_at h) ≡ false → waiting (tick_entry h ∷ h) ≡ waiting h
waiting_on h e = ap left_waiting (passed_over (is_mark (tick_at h)) [] (tick_at h ∷ since is_mark (since_supply h)) e)

-- What a tick takes over: at a mark what waits.
taken_now : (h : History) → is_mark (tick_at h) ≡ true → taken_at (tick_at h) ≡ waiting h
taken_now h e = chosen (is_mark (tick_at h)) (waiting h) None e

-- At any other tick nothing is taken over.
taken_not : (h : History) → is_mark (tick_at h) ≡ false → taken_at (tick_at h) ≡ None
taken_not h e = passed_over (is_mark (tick_at h)) (waiting h) None e

-- The date shown where the newest moment takes over o and is a mark or not, after date d and n marks.
abbrev shown_with : Option Clock → Bool → Clock → ℕ → Clock
shown_with (Some c) b d n = c
shown_with None b d n = after d (elim b [ true ↦ suc n | false ↦ n ])

-- The date shown after a tick, by what it takes over and whether it is a mark.
clock_ticked : (h : History) (o : Option Clock) → taken_at (tick_at h) ≡ o
    → clock (tick_entry h ∷ h) ≡ shown_with o (is_mark (tick_at h)) (taken_over h) (marks_since h)
unfolding after
clock_ticked h None e =
    let a : taken_over (tick_entry h ∷ h) ≡ taken_over h =
    ap (λ (o : Option Clock). unwrap_or (elim o [ Some x ↦ Some x | None ↦ latest taken_at (moments h) ]) start_date) e in
    let b : marks_since (tick_entry h ∷ h) ≡ elim (is_mark (tick_at h)) [ true ↦ suc (marks_since h) | false ↦ marks_since h ] =
    ap (λ (o : Option Clock). count_of is_mark (elim (is_some o) [ true ↦ [] | false ↦ tick_at h ∷ since (λ (m : Moment). is_some (taken_at m)) (moments h) ])) e in
    ap₂ after a b
clock_ticked h (Some c) e =
    let a : taken_over (tick_entry h ∷ h) ≡ c =
    ap (λ (o : Option Clock). unwrap_or (elim o [ Some x ↦ Some x | None ↦ latest taken_at (moments h) ]) start_date) e in
    let b : marks_since (tick_entry h ∷ h) ≡ 0 =
    ap (λ (o : Option Clock). count_of is_mark (elim (is_some o) [ true ↦ [] | false ↦ tick_at h ∷ since (λ (m : Moment). is_some (taken_at m)) (moments h) ])) e in
    ap₂ after a b

-- At a tick that is no mark the date shown stays.
pub clock_stands : (h : History) → is_mark (tick_at h) ≡ false → clock (tick_entry h ∷ h) ≡ clock h
clock_stands h e =
    clock_ticked h None (taken_not h e) ∙ ap (after (taken_over h)) (passed_over (is_mark (tick_at h)) (suc (marks_since h)) (marks_since h) e)

-- At a mark what waits is shown, else one second more.
pub clock_moves : (h : History) → is_mark (tick_at h) ≡ true → clock (tick_entry h ∷ h) ≡ unwrap_or (waiting h) (next (clock h))
unfolding after
clock_moves h e = go (waiting h) refl
  where
    go : (o : Option Clock) → waiting h ≡ o → clock (tick_entry h ∷ h) ≡ unwrap_or o (next (clock h))
    go None w =
        clock_ticked h None (taken_now h e ∙ w) ∙ ap (after (taken_over h)) (chosen (is_mark (tick_at h)) (suc (marks_since h)) (marks_since h) e)
    go (Some c) w = clock_ticked h (Some c) (taken_now h e ∙ w)

-- What a match or none makes of a test that was b.
abbrev pub on_match : Bool → Bool → Bool
on_match true b = true
on_match false b = b

-- The flag after a tick, by whether the alarm matched.
pub flag_by_match : (was : Mem) (h : History) (s : Section) (b : Bool) → matched was s (tick_at h) ≡ b
    → flag was s (tick_entry h ∷ h) ≡ on_match b (flag was s h)
flag_by_match was h s true e =
    ap (λ (o : Option Bool). unwrap_or (elim o [ Some x ↦ Some x | None ↦ latest (sets_flag was s) (moments h) ]) false)
    (chosen (matched was s (tick_at h)) (Some true) None e)
flag_by_match was h s false e =
    ap (λ (o : Option Bool). unwrap_or (elim o [ Some x ↦ Some x | None ↦ latest (sets_flag was s) (moments h) ]) false)
    (passed_over (matched was s (tick_at h)) (Some true) None e)

-- That an alarm matched since the copy, by whether it matched at the tick.
pub since_copy_by_match : (was : Mem) (h : History) (s : Section) (b : Bool) → matched was s (tick_at h) ≡ b
    → matched_since_copy was s (tick_entry h ∷ h) ≡ on_match b (matched_since_copy was s h)
since_copy_by_match was h s true e = chosen (matched was s (tick_at h)) true (matched_since_copy was s h) e
since_copy_by_match was h s false e = passed_over (matched was s (tick_at h)) true (matched_since_copy was s h) e

-- One less.
less_one : (n : ℕ) → 164 - suc n ≡ 164 - n - 1
less_one n = omega arith

-- One tick less of a write cycle.
pub cycle_ticked : (h : History) → wires.cycle_left (tick_entry h ∷ h) ≡ wires.cycle_left h - 1
cycle_ticked h = go (any_of wires.is_lawful (wires.since_main h)) refl
  where
    n : ℕ
    n = count_of (λ m. is_tick m.entry.event) (since wires.is_lawful (wires.since_main h))

    go : (b : Bool) → any_of wires.is_lawful (wires.since_main h) ≡ b → wires.cycle_left (tick_entry h ∷ h) ≡ wires.cycle_left h - 1
    go true e =
        chosen (any_of wires.is_lawful (wires.since_main h)) (164 - suc n) 0 e
        ∙ (less_one n ∙ sym (ap (λ c. c - 1) (chosen (any_of wires.is_lawful (wires.since_main h)) (164 - n) 0 e)))
    go false e =
        passed_over (any_of wires.is_lawful (wires.since_main h)) (164 - suc n) 0 e
        ∙ sym (ap (λ c. c - 1) (passed_over (any_of wires.is_lawful (wires.since_main h)) (164 - n) 0 e))

-- A bus that hears, goes on hearing.
pub hears_on : (h : History) → wires.hears h ≡ true → wires.hears (tick_entry h ∷ h) ≡ true
hears_on h e = go (wires.on_main h) refl
  where
    go : (b : Bool) → wires.on_main h ≡ b → wires.hears (tick_entry h ∷ h) ≡ true
    go true f =
        let z : wires.cycle_left h ≡ 0 = eqb-true (wires.cycle_left h) 0 (sym (chosen (wires.on_main h) (eqb (wires.cycle_left h) 0) false f) ∙ e) in
        chosen (wires.on_main h) (eqb (wires.cycle_left (tick_entry h ∷ h)) 0) false f
        ∙ eq-eqb (wires.cycle_left (tick_entry h ∷ h)) 0 (cycle_ticked h ∙ ap (λ c. c - 1) z)
    go false f = absurd (true≢false (sym e ∙ passed_over (wires.on_main h) (eqb (wires.cycle_left h) 0) false f))

-- At a mark an alarm matches where its bytes match the date shown then.
pub matched_mark : (was : Mem) (h : History) (s : Section) (x : Alarm) (d : Clock) → is_mark (tick_at h) ≡ true
    → x ≡ alarm was h s → d ≡ clock (tick_entry h ∷ h) → matched was s (tick_at h) ≡ matches x d
matched_mark was h s x d e p q =
    chosen (is_mark (tick_at h)) (matches (alarm was h s) (clock (tick_entry h ∷ h))) false e ∙ sym (ap₂ matches p q)

-- At any other tick none matches.
pub matched_not : (was : Mem) (h : History) (s : Section) → is_mark (tick_at h) ≡ false → matched was s (tick_at h) ≡ false
matched_not was h s e = passed_over (is_mark (tick_at h)) (matches (alarm was h s) (clock (tick_entry h ∷ h))) false e
