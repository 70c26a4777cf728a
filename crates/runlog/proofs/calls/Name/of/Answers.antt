use Rattle.std.proofs.Common.{◌≡◌, length, codes, ap, sym, rules, arith}
use Rattle.std.proofs.lemmas.Slice.Eq.{text_from_reads}
use Rattle.runlog.specs.Calls.{name_of}
use Rattle.runlog.proofs.calls.Name.of.Goals as goal

pub returns-in-level : goal.returns-in-level
returns-in-level c =
    let long : length c.args.word.now ≡ 5 = omega arith in
    let e : c.args.word.now ≡ codes "level" = text_from_reads _ _ long (search rules) in
    sym (ap name_of e)

pub returns-in-supply : goal.returns-in-supply
returns-in-supply c =
    let long : length c.args.word.now ≡ 6 = omega arith in
    let e : c.args.word.now ≡ codes "supply" = text_from_reads _ _ long (search rules) in
    sym (ap name_of e)
