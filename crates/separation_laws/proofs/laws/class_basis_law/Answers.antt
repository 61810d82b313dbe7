use Rattle.separation_laws.proofs.ProvedLaws.{class_bases}
use Rattle.separation_laws.proofs.laws.class_basis_law.Goals as goal

pub returns : goal.returns
returns c = class_bases
