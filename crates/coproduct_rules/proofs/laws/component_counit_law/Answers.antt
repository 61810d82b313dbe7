use Rattle.coproduct_rules.proofs.Components.{counit_component}
use Rattle.coproduct_rules.proofs.laws.component_counit_law.Goals as goal

pub returns : goal.returns
returns c = counit_component
