use Rattle.index_rules.proofs.LiftsRead.{change_reads}
use Rattle.index_rules.proofs.laws.change_reads_law.Goals as goal

pub returns : goal.returns
returns c = change_reads
