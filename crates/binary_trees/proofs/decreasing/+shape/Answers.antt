use Rattle.std.proofs.Common.{◌∙◌, ap}
use Rattle.std.proofs.lemmas.Result.{IfOk-weaker}
use Rattle.realisations.specs.Trees.{decreasing_tree}
use Rattle.binary_trees.specs.Shapes.{shape_of}
use Rattle.binary_trees.proofs.GreatestPlaces.{tree_of_sides}
use Rattle.binary_trees.proofs.RootPlaces.{after_letter}
use Rattle.binary_trees.proofs.decreasing.+shape.Goals as goal

pub returns : goal.returns
returns t c =
    IfOk-weaker c.join.result _ _
    (λ tree h. tree_of_sides c.args.word.now c.last_greatest-at.result (shape_of tree) (shape_of c.in_ok-left.left) (shape_of c.in_ok-right.right) c.last_greatest-at.ensures
    (c.in_ok-left.ensures ∙ ap decreasing_tree c.prefix.ensures) (c.in_ok-right.ensures ∙ ap decreasing_tree (after_letter c.args.word.now c.suffix.result c.last_greatest-at.result c.suffix.ensures)) h)
    c.join.ensures
