use Rattle.index_rules.proofs.LiftsRead.{operation_reads}
use Rattle.index_rules.proofs.laws.operation_reads_law.Goals as goal

pub returns : goal.returns
returns c = operation_reads
