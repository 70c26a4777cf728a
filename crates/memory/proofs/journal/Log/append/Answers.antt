use Rattle.std.proofs.Common.{◌+◌, set, ap, sym, ◌∙◌, arith}
use Rattle.std.proofs.lemmas.List.{length-set}
use Rattle.memory.specs.Journal.{record_word, used_words}
use Rattle.memory.proofs.JournalLaws.{appended_used}
use Rattle.memory.proofs.journal.Log.append.Goals as goal

pub invariant_of-self : goal.invariant_of-self
invariant_of-self c =
    let log = c.args.self.now in
    let word = record_word c.args.next.place c.args.next.byte in
    let count = appended_used log.words.now c.args.next.place c.args.next.byte c.requires.tidy (omega (arith, log.counted)) c.args.next.low (omega arith) in
    record {
      counted =
          ap (λ n. n + 1) log.counted
          ∙ sym count
          ∙ ap used_words (λ i. set log.words.now (sym log.counted i) (sym c.from.ensures i));
      within = simp length-set (omega arith);
    }
