use Rattle.product_laws.proofs.ConcatenationRules.{concatenation_rules}
use Rattle.product_laws.proofs.laws.concatenation_law.Goals as goal

pub returns : goal.returns
returns c = concatenation_rules
