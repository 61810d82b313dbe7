use Rattle.qsym.proofs.RulesExist.{all_coproducts_exist}
use Rattle.qsym.proofs.laws.qsym_coproducts_exist_law.Goals as goal

pub returns : goal.returns
returns c = all_coproducts_exist
