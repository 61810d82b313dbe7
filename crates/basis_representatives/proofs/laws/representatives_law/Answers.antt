use Rattle.basis_representatives.proofs.AllRepresentatives.{all_have}
use Rattle.basis_representatives.proofs.laws.representatives_law.Goals as goal

pub returns : goal.returns
returns c = all_have
