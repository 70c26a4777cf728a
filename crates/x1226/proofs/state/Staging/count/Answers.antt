use Rattle.std.proofs.Common.{◌≡◌, length, rules}
use Rattle.x1226.proofs.Staged.{count_held_all}
use Rattle.x1226.proofs.state.Staging.count.Goals as goal

pub returns : goal.returns
returns c =
    let sized : length c.args.self.now.held ≡ 64 = search rules in
    let all = count_held_all c.args.self.now.held sized in
    search (rules, all)
