use Rattle.std.proofs.Common.{◌∙◌, ap, sym}
use Rattle.basis_representatives.proofs.TreesOfCodes.{tree_of-code}
use Rattle.binary_trees.specs.Shapes.{shape_of}
use Rattle.realisations.specs.Trees.{subtree_sizes, tree_of}
use Rattle.pbt.proofs.trees.PbtPSpace.word_of.Goals as goal

pub returns : goal.returns
returns c = c.subtree_sizes.ensures ∙ ap subtree_sizes (sym (tree_of-code (shape_of c.in_ok-shape.shape)) ∙ ap tree_of c.in_ok-shape.ensures.same)
