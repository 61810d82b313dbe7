use Rattle.pairing_laws.proofs.PairingsAgree.{pairing_agrees}
use Rattle.pairing_laws.proofs.laws.agreement_law.Goals as goal

pub returns : goal.returns
returns c = pairing_agrees
