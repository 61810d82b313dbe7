use Rattle.coproduct_laws.proofs.ValueRules.{packed_rule}
use Rattle.coproduct_laws.proofs.laws.packed_coproduct_law.Goals as goal

pub returns : goal.returns
returns c = packed_rule
