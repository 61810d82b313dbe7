use Rattle.realisations.proofs.Linearity.{reads_gathered}
use Rattle.realisations.proofs.laws.gathering_law.Goals as goal

pub returns : goal.returns
returns c = reads_gathered
