use Rattle.change_laws.proofs.NcsfChanges.{ncsf_changes}
use Rattle.change_laws.proofs.laws.ncsf_changes_law.Goals as goal

pub returns : goal.returns
returns c = ncsf_changes
