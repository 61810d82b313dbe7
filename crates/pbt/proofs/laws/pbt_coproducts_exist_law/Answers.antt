use Rattle.pbt.proofs.Coproducts.{tree_coproducts_exist}
use Rattle.pbt.proofs.laws.pbt_coproducts_exist_law.Goals as goal

pub returns : goal.returns
returns c = tree_coproducts_exist
