use Rattle.realisations.proofs.Linearity.{reads_bilinearly}
use Rattle.realisations.proofs.laws.bilinearity_law.Goals as goal

pub returns : goal.returns
returns c = reads_bilinearly
