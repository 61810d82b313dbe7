use Rattle.qsym.proofs.RulesExist.{all_products_exist}
use Rattle.qsym.proofs.laws.qsym_products_exist_law.Goals as goal

pub returns : goal.returns
returns c = all_products_exist
