use Rattle.std.proofs.Common.{sym, ap, ◌∙◌}
use Rattle.chip.specs.Locks.{is_locked}
use Rattle.x1226.specs.Memories.{holding}
use Rattle.x1226.proofs.Stopping.{page_open}
use Rattle.x1226.proofs.state.Staging.store_page.Goals as goal

pub returns : goal.returns
returns g c =
    let staged = c.args.self.now in
    let lent = c.args.fit.now in
    let m = lent.mem in
    let same = page_open staged m (ap (λ bl. is_locked bl staged.address) (sym c.lock_byte.ensures) ∙ sym c.is_locked.ensures ∙ c.if-is_locked.false) in
    record {
      answer = c.store.ensures.answer ∙ ap (λ r. r.answer) (sym same);
      after = c.store.ensures.after ∙ ap (λ r. holding r.mem lent) (sym same);
    }
