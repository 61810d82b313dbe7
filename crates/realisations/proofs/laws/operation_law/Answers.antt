use Rattle.realisations.proofs.Linearity.{operates_linearly}
use Rattle.realisations.proofs.laws.operation_law.Goals as goal

pub returns : goal.returns
returns c = operates_linearly
