use Rattle.product_laws.proofs.RibbonRule.{ribbon_rule}
use Rattle.product_laws.proofs.laws.ribbon_law.Goals as goal

pub returns : goal.returns
returns c = ribbon_rule
