use Rattle.std.proofs.Common.{◌≡◌, Some, Ok, Err, sym, refl, ap, ◌∙◌, rules}
use Rattle.std.proofs.lemmas.Result.{err_from_is_err_and}
use Rattle.chip.specs.Registers.{section_of}
use Rattle.chip.specs.declared.registers.Section.TheVariants.{Clock}
use Rattle.chip.specs.Sizes.{write_cycle}
use Rattle.x1226.specs.Memories.{holding}
use Rattle.x1226.specs.Stop.{section_stop, register_stop}
use Rattle.x1226.specs.Store.{verdict}
use Rattle.x1226.proofs.Stopping.{page_ended, registers_ended, clock_ended, left_with}
use Rattle.x1226.proofs.state.State.stop.Goals as goal

pub returns-in_err-store_page-in-Array : goal.returns-in_err-store_page-in-Array
returns-in_err-store_page-in-Array g c =
    let s = c.args.self.now in
    let lent = c.args.fit.now in
    let m = lent.mem in
    let p = err_from_is_err_and c.from_residual.result c.from_residual.ensures.1 in
    let is = page_ended s m (sym c.if-not-closes.ensures) (Err c.in_err-store_page-in-Array.field-0.0) c.in-Array.is c.in_err-store_page-in-Array.ensures.answer in
    record {
      state = ap (λ x. left_with s x s.latches s.cycle s.timer) c.drop-staged-in_err-store_page-in-Array.ensures ∙ ap (λ l. l.state) (sym is);
      mem = c.store_page.ensures.after ∙ ap (λ l. holding l.mem lent) (sym is);
      answer = p.1 ∙ ap Err p.2 ∙ ap (λ l. verdict l.refusal) (sym is);
    }

pub returns-in-Array : goal.returns-in-Array
returns-in-Array g c =
    let s = c.args.self.now in
    let lent = c.args.fit.now in
    let m = lent.mem in
    let is = page_ended s m (sym c.if-not-closes.ensures) (Ok c.in_ok-store_page-in-Array.field-0) c.in-Array.is c.in_ok-store_page-in-Array.ensures.answer in
    record {
      state = ap (λ x. left_with s x s.latches write_cycle s.timer) c.drop-staged-in-Array.ensures ∙ ap (λ l. l.state) (sym is);
      mem = c.store_page.ensures.after ∙ ap (λ l. holding l.mem lent) (sym is);
      answer = ap (λ l. verdict l.refusal) (sym is);
    }

pub returns-in_err-asked-in-Some-Clock : goal.returns-in_err-asked-in-Some-Clock
returns-in_err-asked-in-Some-Clock g c =
    let s = c.args.self.now in
    let lent = c.args.fit.now in
    let m = lent.mem in
    let p = err_from_is_err_and c.from_residual-in_err-asked-in-Some-Clock.result c.from_residual-in_err-asked-in-Some-Clock.ensures.1 in
    let clocked = c.in-Some-Clock.ensures in
    let lies : section_of s.staging.address ≡ Some Clock = cc in
    let is = clock_ended s m (sym c.if-not-closes.ensures) (Err c.in_err-asked-in-Some-Clock.field-0.0) c.in-Registers.is lies c.in_err-asked-in-Some-Clock.ensures in
    record {
      state = ap (λ x. left_with s x s.latches s.cycle s.timer) c.drop-staged-in_err-asked-in-Some-Clock.ensures ∙ ap (λ l. l.state) (sym is);
      mem = ap (λ l. holding l.mem lent) (sym is);
      answer = p.1 ∙ ap Err p.2 ∙ ap (λ l. verdict l.refusal) (sym is);
    }

pub returns-in-Some-Clock : goal.returns-in-Some-Clock
returns-in-Some-Clock g c =
    let s = c.args.self.now in
    let lent = c.args.fit.now in
    let m = lent.mem in
    let clocked = c.in-Some-Clock.ensures in
    let lies : section_of s.staging.address ≡ Some Clock = cc in
    let is = clock_ended s m (sym c.if-not-closes.ensures) (Ok c.in_ok-asked-in-Some-Clock.asked) c.in-Registers.is lies c.in_ok-asked-in-Some-Clock.ensures in
    record {
      state =
          (λ i. left_with s (c.drop-staged-in-Some-Clock.ensures i) (c.wait.ensures.latches i) s.cycle (c.wait.ensures.timer i))
          ∙ ap (λ l. l.state) (sym is);
      mem = ap (λ l. holding l.mem lent) (sym is);
      answer = ap (λ l. verdict l.refusal) (sym is);
    }

pub returns-in_err-store_registers-in-Some-Alarm0 : goal.returns-in_err-store_registers-in-Some-Alarm0
returns-in_err-store_registers-in-Some-Alarm0 g c =
    let s = c.args.self.now in
    let lent = c.args.fit.now in
    let m = lent.mem in
    let p = err_from_is_err_and c.from_residual-in_err-store_registers-in-Some-Alarm0.result c.from_residual-in_err-store_registers-in-Some-Alarm0.ensures.1 in
    let there : section_stop (section_of s.staging.address) s m ≡ register_stop s m = search rules in
    let is = registers_ended s m (sym c.if-not-closes.ensures) (Err c.in_err-store_registers-in-Some-Alarm0.field-0.0) (section_of s.staging.address) c.in-Registers.is refl there c.in_err-store_registers-in-Some-Alarm0.ensures.answer in
    record {
      state = ap (λ x. left_with s x s.latches s.cycle s.timer) c.drop-staged-in_err-store_registers-in-Some-Alarm0.ensures ∙ ap (λ l. l.state) (sym is);
      mem = c.store_registers.ensures.after ∙ ap (λ l. holding l.mem lent) (sym is);
      answer = p.1 ∙ ap Err p.2 ∙ ap (λ l. verdict l.refusal) (sym is);
    }
