use Rattle.std.proofs.Common.{length, set, ap, ◌∙◌, arith}
use Rattle.memory.specs.Journal.{record_word, journal, used_words, is_orderly, with_room, erasures_after}
use Rattle.memory.proofs.JournalLaws.{room_made, fit_parts, words_after_is}
use Rattle.memory.proofs.Rules.{write_passed}
use Rattle.memory.proofs.journal.LogKeeper.put.Goals as goal

pub append-requires : goal.append-requires
append-requires c =
    let log = c.args.self.now in
    let next = c.make_room.new.self in
    let passed = write_passed (journal log.words.now log.erasures) c.args.place c.requires in
    let room = room_made log.words.now log.erasures passed.0 passed.2 in
    let words = c.make_room.ensures.words in
    record {
      room = omega (arith, room.left, next.counted, ap used_words words, ap length words);
      tidy = ap is_orderly words ∙ (fit_parts (with_room log.words.now) (erasures_after log.words.now log.erasures) room.fit).tidy;
    }

pub returns-clause-after : goal.returns-clause-after
returns-clause-after c =
    let log = c.args.self.now in
    let passed = write_passed (journal log.words.now log.erasures) c.args.place c.requires in
    let roomy = c.make_room.ensures.words in
    let used = c.make_room.new.self.counted ∙ ap used_words roomy in
    let words = c.append.ensures.words ∙ (λ i. set (roomy i) (used i) (record_word c.args.place c.args.byte)) in
    let erasures = c.append.ensures.erasures ∙ c.make_room.ensures.erasures in
    (λ i. journal (words i) (erasures i))
    ∙ words_after_is log.words.now log.erasures passed.0 passed.2 c.args.place c.args.byte passed.1 (omega arith)
