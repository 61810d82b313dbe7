use Rattle.change_laws.proofs.CoproductsExist.{coproducts_exist}
use Rattle.change_laws.proofs.laws.coproduct_existence_law.Goals as goal

pub returns : goal.returns
returns c = coproducts_exist
