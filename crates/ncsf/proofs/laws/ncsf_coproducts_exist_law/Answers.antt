use Rattle.ncsf.proofs.RulesExist.{all_coproducts_exist}
use Rattle.ncsf.proofs.laws.ncsf_coproducts_exist_law.Goals as goal

pub returns : goal.returns
returns c = all_coproducts_exist
