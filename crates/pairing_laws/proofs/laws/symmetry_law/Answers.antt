use Rattle.pairing_laws.proofs.Symmetry.{pairing_symmetric}
use Rattle.pairing_laws.proofs.laws.symmetry_law.Goals as goal

pub returns : goal.returns
returns c = pairing_symmetric
