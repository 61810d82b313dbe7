use Rattle.coproduct_rules.proofs.PartPairs.{complete_rule}
use Rattle.coproduct_rules.proofs.laws.complete_coproduct_law.Goals as goal

pub returns : goal.returns
returns c = complete_rule
