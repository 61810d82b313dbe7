use Rattle.basis_routes.proofs.ConversionRows.{conversions_decide}
use Rattle.basis_routes.proofs.laws.conversion_law.Goals as goal

pub returns : goal.returns
returns c = conversions_decide
