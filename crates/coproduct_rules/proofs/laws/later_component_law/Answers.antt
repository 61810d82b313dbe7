use Rattle.coproduct_rules.proofs.Components.{operation_after}
use Rattle.coproduct_rules.proofs.laws.later_component_law.Goals as goal

pub returns : goal.returns
returns c = operation_after
