use Rattle.std.proofs.Common.{◌≡◌, ◌++◌, drop}
use Rattle.terminal.specs.Calls.{all_sent}
use Rattle.terminal.proofs.script.Script.send_all.Given as goal

abbrev pub invariant-loop-byte : goal.invariant-loop-byte
invariant-loop-byte l = l.self ++ all_sent (drop l.byte-index l.bytes) ≡ l.initial.self ++ all_sent l.bytes
