use Rattle.change_laws.proofs.LiftedKeys.{replaced_components}
use Rattle.change_laws.proofs.laws.replaced_law.Goals as goal

pub returns : goal.returns
returns c = replaced_components
