use Rattle.word_laws.proofs.Patterns.{spread_of_pack}
use Rattle.word_laws.proofs.laws.pattern_law.Goals as goal

pub returns : goal.returns
returns c = spread_of_pack
