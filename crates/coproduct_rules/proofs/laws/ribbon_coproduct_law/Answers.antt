use Rattle.coproduct_rules.proofs.RibbonPairs.{ribbon_rule}
use Rattle.coproduct_rules.proofs.laws.ribbon_coproduct_law.Goals as goal

pub returns : goal.returns
returns c = ribbon_rule
