use Rattle.index_rules.proofs.MultipliedReads.{products_read_as}
use Rattle.index_rules.proofs.laws.product_reads_law.Goals as goal

pub returns : goal.returns
returns c = products_read_as
