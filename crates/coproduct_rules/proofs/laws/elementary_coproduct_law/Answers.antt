use Rattle.coproduct_rules.proofs.PartPairs.{elementary_rule}
use Rattle.coproduct_rules.proofs.laws.elementary_coproduct_law.Goals as goal

pub returns : goal.returns
returns c = elementary_rule
