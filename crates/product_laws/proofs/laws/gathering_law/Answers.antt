use Rattle.product_laws.proofs.GatheredElements.{gathers}
use Rattle.product_laws.proofs.laws.gathering_law.Goals as goal

pub returns : goal.returns
returns c = gathers
