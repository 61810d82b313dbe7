use Rattle.index_rules.proofs.LiftsExist.{lifts_exist}
use Rattle.index_rules.proofs.laws.lift_exists_law.Goals as goal

pub returns : goal.returns
returns c = lifts_exist
