use Rattle.std.proofs.Common.{◌≤◌, ap, arith, length}
use Rattle.realisations.specs.Trees.{tree_size}
use Rattle.basis_representatives.proofs.TreeCodes.{length-tree_code}
use Rattle.binary_trees.specs.Shapes.{shape_of}
use Rattle.binary_trees.proofs.tree.Tree.from_code.Goals as goal

pub returns : goal.returns
returns c =
    let small : tree_size (shape_of c.in_ok-tree.tree) ≤ 12 = omega (arith, length-tree_code (shape_of c.in_ok-tree.tree), ap length c.in_ok-tree.ensures, c.len.ensures.value, c.if-len-gt-MOST.false) in
    (c.in_ok-tree.ensures, small)
