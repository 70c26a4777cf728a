-- The table holds every date that exists; the number, with form and weekday, fixes it.
use Rattle.std.proofs.Common.{◌≡◌, ℕ, cond, ◌&&◌, Some, None, Option, unwrap_or, refl, sym, ap, ◌∙◌, subst}
use Rattle.std.proofs.lemmas.Bool.{cond-true, cond-false}
use Rattle.std.specs.Option.{MatchOption}
use Rattle.std.specs.Result.{result_ok}
use Rattle.calendar.proofs.Existing.{exists_if, exists_unless, in_tables}
use Rattle.calendar.proofs.Fixed.{date_fixed}
use Rattle.calendar.specs.Dates.{bad_register, date_of, exists, number, seconds_of, unless_bad}
use Rattle.calendar.specs.Years.{in_table, in_year}
use Rattle.calendar.specs.declared.clock.Clock.{Clock}
use Rattle.calendar.specs.declared.clock.Register.{Register}
use Rattle.calendar.specs.declared.date.Date.{Date}
use Rattle.calendar.proofs.clock.Clock.number.Goals as goal

-- what `Date::number` answers of a date
abbrev told : Date → Option ℕ
told d = cond (in_table d.day.year && in_year d.day.month) (Some (seconds_of d)) None

abbrev Told : Option ℕ → Option Date → Type 0
Told o read = MatchOption read (o ≡ None) (λ d. o ≡ told d)

numbered : (c : Clock) (o : Option ℕ) (bad : Option Register) → bad_register c ≡ bad → Told o (result_ok (unless_bad bad (date_of c))) → unwrap_or o 0 ≡ cond (exists c) (number c) 0
unfolding number
numbered c o None none answer =
    let stands = exists_if c none in
    let there = answer ∙ cond-true _ (Some (number c)) None (in_tables c stands) in
    ap (λ (x : Option ℕ). unwrap_or x 0) there ∙ sym (cond-true (exists c) (number c) 0 stands)
numbered c o (Some register) some answer =
    ap (λ (x : Option ℕ). unwrap_or x 0) answer ∙ sym (cond-false (exists c) (number c) 0 (exists_unless c register some))

pub returns : goal.returns
returns c =
    let self = c.args.self in
    let o = c.and_then.result in
    let read = c.ok.ensures.value ∙ ap result_ok c.try_from.ensures in
    record {
      value = c.unwrap_or.ensures ∙ numbered self o (bad_register self) refl (subst (Told o) read c.and_then.ensures);
      fixes = date_fixed self;
    }
