use Rattle.product_laws.proofs.ClassProducts.{indices_read}
use Rattle.product_laws.proofs.laws.class_law.Goals as goal

pub returns : goal.returns
returns c = indices_read
