use Rattle.product_laws.proofs.AllClasses.{all_classes}
use Rattle.product_laws.proofs.laws.classes_law.Goals as goal

pub returns : goal.returns
returns c = all_classes
