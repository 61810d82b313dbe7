use Rattle.pairing_laws.proofs.AdjointCombinations.{adjoint_combinations}
use Rattle.pairing_laws.proofs.laws.combinations_law.Goals as goal

pub returns : goal.returns
returns c = adjoint_combinations
