use Rattle.basis_representatives.proofs.AllRepresentatives.{class_laws}
use Rattle.basis_representatives.proofs.laws.class_laws.Goals as goal

pub returns : goal.returns
returns c = class_laws
