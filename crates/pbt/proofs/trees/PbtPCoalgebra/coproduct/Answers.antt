use Rattle.binary_trees.specs.Shapes.{shape_of}
use Rattle.pbt.proofs.Coproducts.{coproducts_within}
use Rattle.pbt.proofs.trees.PbtPCoalgebra.coproduct.Goals as goal

pub returns : goal.returns
returns c =
    coproducts_within c.args.code.now (shape_of c.in_ok-shape.shape) c.in_ok-sum.sum c.in_ok-shape.ensures.same c.requires.degree c.rank-rank.ensures.canonical c.in_ok-sum.ensures
