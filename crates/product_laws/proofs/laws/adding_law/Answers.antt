use Rattle.product_laws.proofs.AddingElements.{adding}
use Rattle.product_laws.proofs.laws.adding_law.Goals as goal

pub returns : goal.returns
returns c = adding
