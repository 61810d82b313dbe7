use Rattle.ncsf.proofs.RulesExist.{all_products_exist}
use Rattle.ncsf.proofs.laws.ncsf_products_exist_law.Goals as goal

pub returns : goal.returns
returns c = all_products_exist
