use Rattle.ncsf.proofs.RulesExist.{changes_exist}
use Rattle.ncsf.proofs.laws.ncsf_changes_exist_law.Goals as goal

pub returns : goal.returns
returns c = changes_exist
