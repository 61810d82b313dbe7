use Rattle.product_laws.proofs.ShuffleRule.{shuffle_rule}
use Rattle.product_laws.proofs.laws.shuffle_law.Goals as goal

pub returns : goal.returns
returns c = shuffle_rule
