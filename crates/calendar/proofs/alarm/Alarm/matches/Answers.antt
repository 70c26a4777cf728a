-- One pair of the six is enabled, and each agrees.
use Rattle.std.proofs.Common.{◌≡◌, Bool, true, false, ◌&&◌, refl, sym, ap, ◌∙◌, rules}
use borrow.Author.Tests.{tests}
use Rattle.std.proofs.Math.Bool.{and-true, or-false}
use Rattle.std.proofs.lemmas.Iterator.{YieldsList-from_slice}
use Rattle.std.proofs.lemmas.Iterator.Search.{all_from_yields_List, any_from_yields_List}
use Rattle.std.specs.List.{list_all, list_any}
use Rattle.calendar.specs.Alarm.{agrees, all_agree, compared, enabled, matches, some_enabled}
use Rattle.calendar.specs.declared.alarm.Alarm.{Alarm}
use Rattle.calendar.specs.declared.alarm.Compared.{Compared}
use Rattle.calendar.specs.declared.clock.Clock.{Clock}
use Rattle.calendar.proofs.alarm.Alarm.matches.Goals as goal

abbrev enabled_in : Compared → Bool
enabled_in p = enabled p.byte

abbrev agreeing : Compared → Bool
agreeing p = agrees p.mask p.byte p.shown

some_is : (a : Alarm) (c : Clock) → list_any enabled_in (compared a c) ≡ some_enabled a
some_is a c = rw (or-false (enabled a.bytes.weekday)) refl

all_are : (a : Alarm) (c : Clock) → list_all agreeing (compared a c) ≡ all_agree a c
all_are a c = rw (and-true (agrees 0x7f a.bytes.weekday c.weekday)) refl

pub returns-then-any : goal.returns-then-any
unfolding matches
returns-then-any c =
    let a = c.args.self in
    let clock = c.args.clock in
    let read = c.compared-compared.ensures in
    let any = any_from_yields_List enabled_in _ _ c.any.result c.any.ensures.ran (YieldsList-from_slice (compared a clock) (c.iter.ensures.rest ∙ read)) (λ x b q k. search (rules, tests)) in
    let all = all_from_yields_List agreeing _ _ c.all.result c.all.ensures.ran (YieldsList-from_slice (compared a clock) (c.iter-then-any.ensures.rest ∙ read)) (λ x b q k. search (rules, tests)) in
    let found : some_enabled a ≡ true = sym (some_is a clock) ∙ sym any ∙ c.if-any.true in
    all ∙ all_are a clock ∙ sym (ap (λ (b : Bool). b && all_agree a clock) found)

pub returns-else-any : goal.returns-else-any
unfolding matches
returns-else-any c =
    let a = c.args.self in
    let clock = c.args.clock in
    let any = any_from_yields_List enabled_in _ _ c.any.result c.any.ensures.ran (YieldsList-from_slice (compared a clock) (c.iter.ensures.rest ∙ c.compared-compared.ensures)) (λ x b q k. search (rules, tests)) in
    let none : some_enabled a ≡ false = sym (some_is a clock) ∙ sym any ∙ c.if-any.false in
    c.if-any.false ∙ sym (ap (λ (b : Bool). b && all_agree a clock) none)
