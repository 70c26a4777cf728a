-- What a board is told without the bus: the module answers what the rules say.
use Rattle.std.proofs.Common.{◌≡◌, ℕ, ◌-◌, ◌/◌, ◌%◌, Bool, true, false, cond, ◌&&◌, ◌||◌, eqb, ltb, Ok, Err, refl, ap, ◌∙◌, ap₂, lit<}
use Rattle.std.proofs.lemmas.Bool.{cond-true, cond-false, ltb-true}
use Rattle.memory.specs.Model.{Mem}
use Rattle.memory.specs.Sizes.{places}
use Rattle.calendar.specs.Clock.{byte_of}
use Rattle.calendar.specs.declared.clock.Clock.{Clock}
use Rattle.chip.specs.Places.{place_of}
use Rattle.chip.specs.Sizes.{interrupt_register, second}
use Rattle.chip.specs.declared.pins.Pin.TheVariants.{Released}
use Rattle.chip.specs.declared.refusals.Refusal.TheVariants.{Unfit}
use Rattle.chip.specs.declared.registers.Section.TheVariants.{Alarm0, Alarm1}
use Rattle.chip.specs.declared.slaves.Area.TheVariants.{Registers}
use Rattle.rules.specs.Past.{History}
use Rattle.rules.specs.Wires as wires
use Rattle.rules.specs.Stored.{stored}
use Rattle.rules.specs.Alarms.{flag}
use Rattle.rules.specs.Show as rules
use Rattle.x1226.specs.declared.state.State.{State}
use Rattle.x1226.specs.Service.{status_place, byte_shown, shown, show, interrupt_byte, alarm_interrupts, low_while, pin_by, pin_shown, pin}
use Rattle.x1226.specs.Timer.{is_supplied}
use Rattle.law.proofs.Tracks.{Holds}
use Rattle.law.proofs.Sent.{status_agrees}
use Rattle.law.proofs.Ticking.{same_supplied}

-- Two choices by one test agree where the test holds and where it fails.
chosen : {A : Type 0} (b : Bool) (x y v w : A) → (b ≡ true → x ≡ v) → (b ≡ false → y ≡ w) → cond b x y ≡ elim b as (λ _. A) [ true ↦ v | false ↦ w ]
chosen true x y v w p q = p refl
chosen false x y v w p q = q refl

-- One or the other, as both sides write it.
one_or_other : (a b : Bool) → (a || b) ≡ rules.either a b
one_or_other true b = refl
one_or_other false b = refl

module _ (was : Mem) (h : History) (s : State) (m : Mem) (k : Holds was h s m) where
  -- The byte at a place.
  byte_agrees : (p : ℕ) → byte_shown s m p ≡ rules.shown was h p
  byte_agrees p =
      chosen (ltb p places) _ _ _ _ (λ e. k.bytes p (ltb-true p places e))
      (λ _. chosen (ltb p status_place) _ _ _ _ (λ _. ap (λ (c : Clock). byte_of c (p - places)) k.shown) (λ _. status_agrees was h s m k))

  -- What `show` answers.
  pub show_agrees : (p : ℕ) → show s m p ≡ rules.show_answer was h p
  show_agrees p =
      cond-true m.fit (shown s m p) (Err Unfit) k.fit
      ∙ chosen (ltb status_place p) _ _ _ _ (λ _. refl) (λ _. ap Ok (byte_agrees p))

  -- The byte stored for INT.
  interrupt_agrees : interrupt_byte m ≡ stored was h (place_of Registers interrupt_register)
  interrupt_agrees = k.bytes (place_of Registers interrupt_register) (lit< tt)

  -- The flags that INT lets through.
  alarms_agree : (int : ℕ) → alarm_interrupts s int ≡ rules.either (flag was Alarm1 h && rules.bit_on int 64) (flag was Alarm0 h && rules.bit_on int 32)
  alarms_agree int =
      ap₂ (λ (a b : Bool). (a && rules.bit_on int 64) || (b && rules.bit_on int 32)) k.second k.first
      ∙ one_or_other (flag was Alarm1 h && rules.bit_on int 64) (flag was Alarm0 h && rules.bit_on int 32)

  -- The pin by INT.
  by_agrees : (int : ℕ) → pin_by s int ≡ rules.pin_by was h int
  by_agrees int =
      chosen (eqb (int / 8 % 4) 0) _ _ _ _ (λ _. ap low_while (alarms_agree int))
      (λ _.
      chosen (eqb (int / 8 % 4) 1) _ _ _ _ (λ _. refl)
      (λ _.
      chosen (eqb (int / 8 % 4) 2) _ _ _ _ (λ _. ap (λ (d : ℕ). low_while (ltb (d % 8) 4)) k.divided)
      (λ _. ap (λ (d : ℕ). low_while (ltb d (second / 2))) k.divided)))

  -- The module is supplied where the rules say so.
  supplied_agrees : is_supplied s.supply ≡ wires.supplied h
  supplied_agrees = ap is_supplied k.supply ∙ same_supplied (wires.supply h)

  -- What `pin` answers.
  pub pin_agrees : pin s m ≡ Ok (rules.pin was h)
  pin_agrees =
      cond-true m.fit (Ok (pin_shown s m)) (Err Unfit) k.fit
      ∙ ap Ok
      (ap (λ (b : Bool). cond b (pin_by s (interrupt_byte m)) Released) supplied_agrees
      ∙ chosen (wires.supplied h) _ _ _ _ (λ _. by_agrees (interrupt_byte m) ∙ ap (rules.pin_by was h) interrupt_agrees) (λ _. refl))

-- An unfit memory is refused by both.
pub show_unfit : (s : State) (m : Mem) → m.fit ≡ false → (p : ℕ) → show s m p ≡ Err Unfit
show_unfit s m unfit p = cond-false m.fit (shown s m p) (Err Unfit) unfit

pub pin_unfit : (s : State) (m : Mem) → m.fit ≡ false → pin s m ≡ Err Unfit
pin_unfit s m unfit = cond-false m.fit (Ok (pin_shown s m)) (Err Unfit) unfit
