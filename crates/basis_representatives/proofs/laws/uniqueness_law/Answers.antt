use Rattle.basis_representatives.proofs.Uniqueness.{unique}
use Rattle.basis_representatives.proofs.laws.uniqueness_law.Goals as goal

pub returns : goal.returns
returns c = unique
