use Rattle.separation_laws.proofs.SamePairs.{pair_agrees}
use Rattle.separation_laws.proofs.laws.same_pair_law.Goals as goal

pub returns : goal.returns
returns c = pair_agrees
