use Rattle.realisations.proofs.Linearity.{reads_linearly}
use Rattle.realisations.proofs.laws.linearity_law.Goals as goal

pub returns : goal.returns
returns c = reads_linearly
