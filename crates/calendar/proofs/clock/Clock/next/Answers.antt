-- One step of a date that exists is the date plus one second, and exists; steps add up.
use Rattle.std.proofs.Common.{◌≡◌, true, Some, None, Option, Ok, Err, Result, refl, sym, ap, ◌∙◌, subst}
use Rattle.std.specs.Result.{IsOkAnd, MatchResult}
use Rattle.calendar.proofs.Existing.{exists_if, exists_unless}
use Rattle.calendar.proofs.Seconds.{next_exists, next_is, next_none, next_plus, next_rolls, steps_add}
use Rattle.calendar.specs.Dates.{Plus, bad_register, date_of, exists, number, unless_bad}
use Rattle.calendar.specs.Next.{clock_of, date_after, next}
use Rattle.calendar.specs.declared.clock.Clock.{Clock}
use Rattle.calendar.specs.declared.clock.Register.{Register}
use Rattle.calendar.specs.declared.date.Date.{Date}
use Rattle.calendar.proofs.clock.Clock.next.Goals as goal

abbrev Stepped : Result Date Register → Result Date Register → Type 0
Stepped read later = MatchResult read (λ d. IsOkAnd later (λ e. e ≡ date_after d)) (λ register. later ≡ Err register)

abbrev Shown : Clock → Clock → Result Date Register → Type 0
Shown c r later = MatchResult later (λ d. r ≡ clock_of d) (λ _. r ≡ c)

moved : (c r : Clock) (later : Result Date Register) (bad : Option Register) → bad_register c ≡ bad → Stepped (unless_bad bad (date_of c)) later → Shown c r later → r ≡ next c
moved c r (Ok d) None none stepped shown = shown ∙ ap clock_of stepped ∙ sym (next_is c (exists_if c none))
moved c r (Err register) None none stepped shown = absurd stepped
moved c r later (Some register) some stepped shown = subst (Shown c r) stepped shown ∙ sym (next_none c (exists_unless c register some))

pub returns : goal.returns
returns c =
    let self = c.args.self in
    let r = c.map_or.result in
    let same = moved self r c.map.result (bad_register self) refl (subst (λ (read : Result Date Register). Stepped read c.map.result) c.try_from.ensures c.map.ensures.cases) c.map_or.ensures in
    record {
      value = same;
      is_date = λ stands. subst (λ (x : Clock). exists x ≡ true) (sym same) (next_exists self stands);
      plus = λ stands. subst (Plus self 1) (sym same) (next_plus self stands);
      rolls = λ stands last. ap number same ∙ next_rolls self stands last;
      steps = steps_add self;
    }
