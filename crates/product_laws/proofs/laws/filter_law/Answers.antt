use Rattle.product_laws.proofs.FilteredIndices.{filters}
use Rattle.product_laws.proofs.laws.filter_law.Goals as goal

pub returns : goal.returns
returns c = filters
