use Rattle.fqsym.proofs.RulesExist.{all_coproducts_exist}
use Rattle.fqsym.proofs.laws.fqsym_coproducts_exist_law.Goals as goal

pub returns : goal.returns
returns c = all_coproducts_exist
