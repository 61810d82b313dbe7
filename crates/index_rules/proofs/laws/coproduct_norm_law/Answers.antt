use Rattle.index_rules.proofs.PairAnswers.{answer_within}
use Rattle.index_rules.proofs.laws.coproduct_norm_law.Goals as goal

pub returns : goal.returns
returns c = λ basis code pairs growth d rule few small is. answer_within basis code pairs rule growth few d small is
