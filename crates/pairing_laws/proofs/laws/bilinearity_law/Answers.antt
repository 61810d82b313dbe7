use Rattle.pairing_laws.proofs.Bilinearity.{pairing_bilinear}
use Rattle.pairing_laws.proofs.laws.bilinearity_law.Goals as goal

pub returns : goal.returns
returns c = pairing_bilinear
