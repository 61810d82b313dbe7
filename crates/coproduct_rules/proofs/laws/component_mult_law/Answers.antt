use Rattle.coproduct_rules.proofs.Components.{mult_at}
use Rattle.coproduct_rules.proofs.laws.component_mult_law.Goals as goal

pub returns : goal.returns
returns c = mult_at
