use Rattle.pairing_laws.proofs.Dualities.{dualities}
use Rattle.pairing_laws.proofs.laws.duality_law.Goals as goal

pub returns : goal.returns
returns c = dualities
