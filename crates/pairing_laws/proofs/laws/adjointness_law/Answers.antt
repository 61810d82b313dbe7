use Rattle.pairing_laws.proofs.Adjointness.{adjoint}
use Rattle.pairing_laws.proofs.laws.adjointness_law.Goals as goal

pub returns : goal.returns
returns c = adjoint
