use Rattle.index_spellings.proofs.ReadBack.{spellings}
use Rattle.index_spellings.proofs.laws.spelling_law.Goals as goal

pub returns : goal.returns
returns c = spellings
