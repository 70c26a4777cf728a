use Rattle.std.proofs.Common.{take}
use Rattle.memory.proofs.ByteLaws.{gathered_more}
use Rattle.memory.proofs.WordLaws.{used_is_record}
use Rattle.memory.proofs.journal.Log.gather.Goals as goal

pub of_word-record-requires : goal.of_word-record-requires
of_word-record-requires c =
    let log = c.args.self.now in
    used_is_record log.words.now log.used c.loop-word.word-index log.counted c.loop-word-test.true

pub loop-word-preserved : goal.loop-word-preserved
loop-word-preserved c =
    let log = c.args.self.now in
    let i = c.loop-word.word-index in
    let is = used_is_record log.words.now log.used i log.counted c.loop-word-test.true in
    let of = c.of_word-record.ensures in
    gathered_more (take log.used log.words.now) i c.loop-word.bytes c.of_word-record.result.place c.of_word-record.result.byte
    c.loop-word-test.true is c.loop-word.invariant of.place of.byte
