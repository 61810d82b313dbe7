use Rattle.ncsf.proofs.Indices.{class_of_word}
use Rattle.ncsf.proofs.ribbon.NcsfRClassSpace.class_of.Goals as goal

pub returns : goal.returns
returns c = class_of_word c.args.point.now c.descent_composition.result c.descent_composition.ensures
