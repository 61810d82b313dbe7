use Rattle.product_laws.proofs.FundamentalProducts.{fundamental_rule}
use Rattle.product_laws.proofs.laws.fundamental_law.Goals as goal

pub returns : goal.returns
returns c = fundamental_rule
