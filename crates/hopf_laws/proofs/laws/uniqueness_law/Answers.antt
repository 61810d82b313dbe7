use Rattle.hopf_laws.proofs.Uniqueness.{unique_value}
use Rattle.hopf_laws.proofs.laws.uniqueness_law.Goals as goal

pub returns : goal.returns
returns c = unique_value
