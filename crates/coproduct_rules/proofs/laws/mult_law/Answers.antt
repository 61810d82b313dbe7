use Rattle.coproduct_rules.proofs.Counits.{mult_is_product}
use Rattle.coproduct_rules.proofs.laws.mult_law.Goals as goal

pub returns : goal.returns
returns c = mult_is_product
