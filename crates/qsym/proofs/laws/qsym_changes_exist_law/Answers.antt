use Rattle.qsym.proofs.RulesExist.{changes_exist}
use Rattle.qsym.proofs.laws.qsym_changes_exist_law.Goals as goal

pub returns : goal.returns
returns c = changes_exist
