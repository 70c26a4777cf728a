use Rattle.std.proofs.Common.{refl}
use Rattle.x1226.specs.State.{empty_places}
use Rattle.x1226.proofs.state.Staging.from_address.Goals as goal

pub returns : goal.returns
unfolding empty_places
returns c = refl
