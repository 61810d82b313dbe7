use Rattle.realisations.proofs.Pattern.{reads_pattern}
use Rattle.realisations.proofs.laws.pattern_law.Goals as goal

pub returns : goal.returns
returns c = reads_pattern
