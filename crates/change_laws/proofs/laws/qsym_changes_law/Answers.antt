use Rattle.change_laws.proofs.QsymChanges.{qsym_changes}
use Rattle.change_laws.proofs.laws.qsym_changes_law.Goals as goal

pub returns : goal.returns
returns c = qsym_changes
