use Rattle.fqsym.proofs.RulesExist.{all_products_exist}
use Rattle.fqsym.proofs.laws.fqsym_products_exist_law.Goals as goal

pub returns : goal.returns
returns c = all_products_exist
