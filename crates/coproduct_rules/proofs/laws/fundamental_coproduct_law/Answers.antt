use Rattle.coproduct_rules.proofs.DegreePairs.{fundamental_rule}
use Rattle.coproduct_rules.proofs.laws.fundamental_coproduct_law.Goals as goal

pub returns : goal.returns
returns c = fundamental_rule
