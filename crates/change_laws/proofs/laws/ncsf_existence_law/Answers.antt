use Rattle.change_laws.proofs.NcsfChanges.{ncsf_changes_exist}
use Rattle.change_laws.proofs.laws.ncsf_existence_law.Goals as goal

pub returns : goal.returns
returns c = ncsf_changes_exist
