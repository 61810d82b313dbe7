use Rattle.fqsym.proofs.RulesExist.{changes_exist}
use Rattle.fqsym.proofs.laws.fqsym_changes_exist_law.Goals as goal

pub returns : goal.returns
returns c = changes_exist
