use Rattle.std.proofs.Common.{◌≡◌, length, drop, sym, ap, ◌∙◌}
use Rattle.law.specs.Run.{Lawful}
use Rattle.terminal.proofs.Playing.{whole_script}
use Rattle.terminal.proofs.rows.Rows.of.Goals as goal

pub returns : goal.returns
returns g c =
    let was = g.M.Memory.holds c.args.memory.now in
    let calls = c.args.script.now in
    let long : length c.calls.result.now ≡ length c.as_mut_slice.result.now = ap length c.calls.ensures ∙ (sym c.mark.ensures.row ∙ (sym c.in_ok-answers.ensures.len ∙ sym c.as_mut_slice.ensures.len)) in
    record {
      lawful = λ fit.
          whole_script (Lawful was) calls c.calls.result.now c.as_mut_slice.result.now c.run.new.rows
          (drop (length c.run.new.rows) c.in_ok-answers.answers.items) c.in_ok-answers.answers.len
          c.calls.ensures long (c.run.auto.rows ∙ c.as_mut_slice.ensures.len) (c.run.ensures.lawful fit);
    }
