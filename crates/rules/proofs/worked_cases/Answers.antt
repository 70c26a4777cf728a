-- The list of cases, cited.
use Rattle.std.proofs.Common.{refl}
use Rattle.rules.proofs.Worked.{worked_cases}
use Rattle.rules.proofs.worked_cases.Goals as goal

pub returns : goal.returns
returns c = record { count = refl; hold = worked_cases }
