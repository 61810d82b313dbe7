use Rattle.antipodes.proofs.Antipodes.{antipodes_exist}
use Rattle.antipodes.proofs.laws.antipodes_exist_law.Goals as goal

pub returns : goal.returns
returns c = antipodes_exist
