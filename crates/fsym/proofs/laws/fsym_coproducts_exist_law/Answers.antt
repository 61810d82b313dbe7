use Rattle.fsym.proofs.Coproducts.{tableau_coproducts_exist}
use Rattle.fsym.proofs.laws.fsym_coproducts_exist_law.Goals as goal

pub returns : goal.returns
returns c = tableau_coproducts_exist
