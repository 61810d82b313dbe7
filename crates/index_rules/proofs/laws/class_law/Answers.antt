use Rattle.index_rules.proofs.Classes.{classes_of_representatives}
use Rattle.index_rules.proofs.laws.class_law.Goals as goal

pub returns : goal.returns
returns c = classes_of_representatives
