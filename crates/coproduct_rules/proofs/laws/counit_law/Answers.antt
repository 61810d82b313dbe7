use Rattle.coproduct_rules.proofs.Counits.{counit_rule}
use Rattle.coproduct_rules.proofs.laws.counit_law.Goals as goal

pub returns : goal.returns
returns c = counit_rule
