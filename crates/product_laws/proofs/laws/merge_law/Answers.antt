use Rattle.product_laws.proofs.CutRules.{merge_rule}
use Rattle.product_laws.proofs.laws.merge_law.Goals as goal

pub returns : goal.returns
returns c = merge_rule
