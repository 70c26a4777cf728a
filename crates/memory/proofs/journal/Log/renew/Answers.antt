use Rattle.std.proofs.Common.{◌-◌, ◌++◌, length, replicate, sym, ap, ◌∙◌, arith}
use Rattle.memory.specs.Sizes.{places}
use Rattle.memory.specs.Journal.{blank, records_of, used_words}
use Rattle.memory.proofs.JournalLaws.{down_used, down_long}
use Rattle.memory.proofs.journal.Log.renew.Goals as goal

pub invariant_of-self-2 : goal.invariant_of-self-2
invariant_of-self-2 c =
    let words = c.args.self.now.words.now in
    let laid = c.lay_down.ensures ∙ ap (λ bytes. records_of bytes ++ replicate (length words - places) blank) c.gather-bytes.ensures in
    record {
      counted = sym (ap used_words laid ∙ down_used words c.requires.long);
      within = omega (arith, ap length laid, down_long words c.requires.long, c.requires.long);
    }
