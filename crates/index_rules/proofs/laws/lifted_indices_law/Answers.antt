use Rattle.index_rules.proofs.LiftsRead.{lifted_indices}
use Rattle.index_rules.proofs.laws.lifted_indices_law.Goals as goal

pub returns : goal.returns
returns c = lifted_indices
