use Rattle.coproduct_rules.proofs.FewPairs.{few_pairs}
use Rattle.coproduct_rules.proofs.laws.few_pairs_law.Goals as goal

pub returns : goal.returns
returns c = few_pairs
