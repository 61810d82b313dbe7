use Rattle.basis_changes.proofs.ChangesExist.{all_changes_exist}
use Rattle.basis_changes.proofs.laws.changes_exist_law.Goals as goal

pub returns : goal.returns
returns c = all_changes_exist
