use Rattle.std.proofs.Common.{◌≡◌, ℕ, ◌<◌, List, take, get_or, sym, ap, ◌∙◌, arith}
use Rattle.std.proofs.lemmas.List.Sums.{prefix_len_passes}
use Rattle.memory.specs.Sizes.{places}
use Rattle.memory.specs.Journal.{is_record, byte_at, bytes_of, records, used_words, journal_fit}
use Rattle.memory.proofs.ByteLaws.{get_or_bytes_of}
use Rattle.memory.proofs.Rules.{place_passed}
use Rattle.memory.proofs.journal.LogKeeper.byte_at.Goals as goal

last : (words : List ℕ) (place byte used : ℕ) → byte ≡ byte_at (take used words) place → used ≡ used_words words → place < places
    → byte ≡ get_or (bytes_of (records words)) place 0
last words place byte used was counted low =
    was ∙ ap (λ n. byte_at (take n words) place) counted ∙ sym (get_or_bytes_of (records words) place low)

pub returns-after-loop-i : goal.returns-after-loop-i
returns-after-loop-i c =
    let log = c.args.self.now in
    let passed = place_passed (journal_fit log.words.now log.erasures) c.args.place c.requires in
    last log.words.now c.args.place c.loop-i.byte c.loop-i.i c.loop-i.invariant.1 (omega (arith, log.counted, log.within)) passed.1

pub returns-then-i-used : goal.returns-then-i-used
returns-then-i-used c =
    let log = c.args.self.now in
    let passed = place_passed (journal_fit log.words.now log.erasures) c.args.place c.requires in
    last log.words.now c.args.place c.loop-i.byte c.loop-i.i c.loop-i.invariant.1 (omega (arith, log.counted)) passed.1

pub of_word-record-requires : goal.of_word-record-requires
of_word-record-requires c =
    let log = c.args.self.now in
    prefix_len_passes is_record log.words.now c.loop-i.i 0 (omega (arith, log.counted, c.loop-i.invariant.0, c.if-i-used.false))
