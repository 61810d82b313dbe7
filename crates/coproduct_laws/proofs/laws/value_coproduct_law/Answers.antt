use Rattle.coproduct_laws.proofs.ValueRules.{value_rule}
use Rattle.coproduct_laws.proofs.laws.value_coproduct_law.Goals as goal

pub returns : goal.returns
returns c = value_rule
