-- What is written is the text of the date, or names the register to blame.
use Rattle.std.proofs.Common.{◌≡◌, ◌++◌, Some, None, Ok, Err, Option, Result, List, ℕ, codes, refl, sym, ap, ◌∙◌, subst, append_assoc}
use Rattle.std.specs.Fmt.{HasWritten}
use Rattle.std.specs.Option.{option_map}
use Rattle.calendar.specs.Clock.{register_number}
use Rattle.calendar.specs.Dates.{bad_register, date_of, first_bad, unless_bad}
use Rattle.calendar.specs.Text.{date_text, register_text, said, text_of}
use Rattle.calendar.specs.declared.clock.Clock.{Clock}
use Rattle.calendar.specs.declared.clock.Register.{Register}
use Rattle.calendar.specs.declared.date.Date.{Date}
use Rattle.calendar.proofs.clock.ClockDisplay.fmt.Goals as goal

-- the text of a date, or of a register to blame
abbrev told : Result Date Register → List ℕ
told (Ok d) = date_text d
told (Err register) = codes "no date (register " ++ (register_text register ++ codes ")")

told_is : (c : Clock) (bad : Option Register) → bad_register c ≡ bad → told (unless_bad bad (date_of c)) ≡ text_of c
unfolding first_bad
told_is c None none = sym (ap (λ (bad : Option Register). said (date_of c) (option_map register_number bad)) none)
told_is c (Some register) some =
    let joined : told (Err register) ≡ said (date_of c) (Some (register_number register)) = simp append_assoc in
    joined ∙ sym (ap (λ (bad : Option Register). said (date_of c) (option_map register_number bad)) some)

pub returns-in-Ok-clause-writes : goal.returns-in-Ok-clause-writes
returns-in-Ok-clause-writes g c plain ok =
    subst (λ (text : List ℕ). HasWritten g.W.Write.write_str_gives c.args.f.now text c.write.new.self)
    (ap told c.in-Ok.ensures ∙ told_is c.args.self.now _ refl)
    (c.write.ensures.writes plain ok)

pub returns-in-Err-clause-writes : goal.returns-in-Err-clause-writes
returns-in-Err-clause-writes g c plain ok =
    subst (λ (text : List ℕ). HasWritten g.W.Write.write_str_gives c.args.f.now text c.write-in-Err.new.self)
    (ap told c.in-Err.ensures ∙ told_is c.args.self.now _ refl)
    (c.write-in-Err.ensures.writes plain ok)
