-- A stop by what it stores or asks for.
use Rattle.std.proofs.Common.{◌≡◌, ℕ, Bool, true, false, cond, ltb, Some, None, Ok, Err, Option, Result, sym, refl, ap, ◌∙◌}
use Rattle.std.proofs.lemmas.Bool.{cond-true, cond-false}
use Rattle.memory.specs.Model.{Mem}
use Rattle.calendar.specs.Dates.{first_bad}
use Rattle.calendar.specs.declared.clock.Clock.{Clock}
use Rattle.chip.specs.Locks.{is_locked}
use Rattle.chip.specs.Registers.{section_of}
use Rattle.chip.specs.Sizes.{write_cycle}
use Rattle.chip.specs.declared.refusals.Refusal.{Refusal}
use Rattle.chip.specs.declared.refusals.Refusal.TheVariants.{RwelOff, PageLocked}
use Rattle.chip.specs.declared.registers.Section.{Section}
use Rattle.chip.specs.declared.registers.Section.TheVariants.{Clock as ClockSection}
use Rattle.chip.specs.declared.slaves.Area.TheVariants.{Array, Registers}
use Rattle.x1226.specs.declared.state.Phase.TheVariants.{Deaf}
use Rattle.x1226.specs.declared.state.Latches.{Latches}
use Rattle.x1226.specs.declared.state.Staging.{Staging}
use Rattle.x1226.specs.declared.state.State.{State}
use Rattle.x1226.specs.declared.state.Timer.{Timer}
use Rattle.x1226.specs.State.{with_phase, with_staging, with_latches, with_cycle, with_timer}
use Rattle.x1226.specs.Stop.{Left, passed, refused, count_held, lock_byte, rwel_off, clock_asked, clock_waits, storing, clock_tested, array_stop, register_stop, clock_stop, area_stop, section_stop, closes, ended, stopped}
use Rattle.x1226.specs.Store.{Stored, refused_by, store, store_page, store_registers, date_checked, date_asked}

-- A page that is not locked is stored by its life.
pub page_open : (g : Staging) (m : Mem) → is_locked (lock_byte m) g.address ≡ false → store_page g m ≡ store Array g m
page_open g m unlocked = cond-false _ _ _ unlocked

-- What a store leaves: its refusal, or the state that comes after it.
abbrev pub left_by : State → State → Result Unit Refusal → Mem → Left
left_by s then (Ok x) m = passed then m
left_by s then (Err r) m = refused r s m

abbrev pub as_left : State → State → Stored → Left
as_left s then k = left_by s then k.answer k.mem

cond_left : (s then : State) (b : Bool) (x y : Stored) → cond b (as_left s then x) (as_left s then y) ≡ as_left s then (cond b x y)
cond_left s then true x y = refl
cond_left s then false x y = refl

module _ (s : State) (m : Mem) where
  stored_as : (then : State) → storing s then m ≡ as_left s (with_cycle write_cycle then) (store s.area s.staging m)
  stored_as then = cond_left s (with_cycle write_cycle then) (ltb m.life (count_held s.staging.held 64)) _ _

  array_as : s.area ≡ Array → array_stop s m ≡ as_left s (with_cycle write_cycle s) (store_page s.staging m)
  array_as is =
      let locked = is_locked (lock_byte m) s.staging.address in
      let turned = refused (PageLocked s.staging.address) s m in
      ap (cond locked turned) (stored_as s ∙ (λ i. as_left s (with_cycle write_cycle s) (store (is i) s.staging m)))
      ∙ cond_left s (with_cycle write_cycle s) locked (refused_by (PageLocked s.staging.address) m) (store Array s.staging m)

  registers_as : s.area ≡ Registers
      → register_stop s m ≡ as_left s (with_cycle write_cycle (rwel_off s)) (store_registers s.latches s.staging m)
  registers_as is =
      let then = rwel_off s in
      let turned = refused (RwelOff s.staging.address) s m in
      ap (λ l. cond s.latches.rwel l turned)
      (stored_as then ∙ (λ i. as_left s (with_cycle write_cycle then) (store (is i) s.staging m)))
      ∙ cond_left s (with_cycle write_cycle then) s.latches.rwel (store Registers s.staging m) (refused_by (RwelOff s.staging.address) m)

  -- What is left where a clock is asked for.
  abbrev pub date_left : Result Clock Refusal → Left
  date_left (Ok c) = passed (clock_waits c s) m
  date_left (Err r) = refused r s m

  tested_as : (bad : Option ℕ) (c : Clock) → clock_tested bad c s m ≡ date_left (date_checked bad c)
  tested_as None c = refl
  tested_as (Some r) c = refl

  cond_date : (b : Bool) (x y : Result Clock Refusal) → cond b (date_left x) (date_left y) ≡ date_left (cond b x y)
  cond_date true x y = refl
  cond_date false x y = refl

  clock_as : clock_stop s m ≡ date_left (date_asked s.latches s.staging s.copies.clock)
  clock_as =
      let bad = first_bad (clock_asked s) in
      ap (λ l. cond s.latches.rwel l (refused (RwelOff s.staging.address) s m)) (tested_as bad (clock_asked s))
      ∙ cond_date s.latches.rwel (date_checked bad (clock_asked s)) (Err (RwelOff s.staging.address))

  -- A stop that closes a write, by the area and the section of its first byte.
  module _ (closing : closes s.phase ≡ true) where
    pub stop_array : s.area ≡ Array → stopped s m ≡ ended (as_left s (with_cycle write_cycle s) (store_page s.staging m))
    stop_array is = ap ended (cond-true _ _ _ closing ∙ ap (λ a. area_stop a s m) is ∙ array_as is)

    pub stop_section : (section : Option Section) → s.area ≡ Registers → section_of s.staging.address ≡ section
        → stopped s m ≡ ended (section_stop section s m)
    stop_section section is lies =
        ap ended (cond-true _ _ _ closing ∙ ap (λ a. area_stop a s m) is ∙ ap (λ x. section_stop x s m) lies)

    -- A page that is stored, or refused.
    pub page_ended : (r : Result Unit Refusal) → s.area ≡ Array → r ≡ (store_page s.staging m).answer
        → stopped s m ≡ ended (left_by s (with_cycle write_cycle s) r (store_page s.staging m).mem)
    page_ended r is answer =
        stop_array is ∙ ap (λ x. ended (left_by s (with_cycle write_cycle s) x (store_page s.staging m).mem)) (sym answer)

    -- Registers that are stored, or refused.
    pub registers_ended : (r : Result Unit Refusal) (section : Option Section) → s.area ≡ Registers
        → section_of s.staging.address ≡ section → section_stop section s m ≡ register_stop s m
        → r ≡ (store_registers s.latches s.staging m).answer
        → stopped s m
        ≡ ended (left_by s (with_cycle write_cycle (rwel_off s)) r (store_registers s.latches s.staging m).mem)
    registers_ended r section is lies there answer =
        stop_section section is lies ∙ ap ended (there ∙ registers_as is)
        ∙ ap (λ x. ended (left_by s (with_cycle write_cycle (rwel_off s)) x (store_registers s.latches s.staging m).mem)) (sym answer)

    -- A clock that is asked for, refused or taken.
    pub clock_ended : (r : Result Clock Refusal) → s.area ≡ Registers → section_of s.staging.address ≡ Some ClockSection
        → r ≡ date_asked s.latches s.staging s.copies.clock → stopped s m ≡ ended (date_left r)
    clock_ended r is lies asked = stop_section (Some ClockSection) is lies ∙ ap ended (clock_as ∙ ap date_left (sym asked))

-- A state that a stop leaves: deaf, and with these parts.
abbrev pub left_with : State → Staging → Latches → ℕ → Timer → State
left_with s g l c t = with_phase Deaf (with_staging g (with_latches l (with_cycle c (with_timer t s))))
