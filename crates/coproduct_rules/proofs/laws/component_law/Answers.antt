use Rattle.coproduct_rules.proofs.Components.{component_rule}
use Rattle.coproduct_rules.proofs.laws.component_law.Goals as goal

pub returns : goal.returns
returns c = component_rule
