use Rattle.change_laws.proofs.QsymChanges.{qsym_changes_exist}
use Rattle.change_laws.proofs.laws.qsym_existence_law.Goals as goal

pub returns : goal.returns
returns c = qsym_changes_exist
