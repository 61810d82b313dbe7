use Rattle.std.proofs.Common.{◌∙◌, ap, arith, subst, sym}
use Rattle.linear_combos.specs.Codes.{IsCode}
use Rattle.realisations.specs.Trees.{tree_size, tree_code}
use Rattle.binary_trees.specs.Shapes.{shape_of}
use Rattle.binary_trees.proofs.CodesOfTrees.{code_to_root, code_of_parts, code_of_tree}
use Rattle.binary_trees.proofs.tree.Tree.+code.Goals as goal

pub with-root-requires : goal.with-root-requires
with-root-requires t c =
    code_to_root (shape_of c.args.self.now) (shape_of c.in-Node.left.value) (shape_of c.in-Node.right.value) c.code-front.result c.size.result (ap shape_of c.in-Node.is) (omega (arith, c.requires))
    (c.code-front.ensures ∙ ap (λ t. tree_code (shape_of t)) c.deref.ensures)
    (c.size.ensures ∙ ap (λ t. tree_size (shape_of t)) c.deref-in-Node.ensures)

pub followed_by-requires : goal.followed_by-requires
followed_by-requires t c =
    subst IsCode (sym (code_of_parts (shape_of c.args.self.now) (shape_of c.in-Node.left.value) (shape_of c.in-Node.right.value) c.with-root.result c.code-front.result c.code-back.result c.size.result (ap shape_of c.in-Node.is)
    c.with-root.ensures
    (c.code-front.ensures ∙ ap (λ t. tree_code (shape_of t)) c.deref.ensures)
    (c.size.ensures ∙ ap (λ t. tree_size (shape_of t)) c.deref-in-Node.ensures)
    (c.code-back.ensures ∙ ap (λ t. tree_code (shape_of t)) c.deref-in-Node-2.ensures)))
    (code_of_tree (shape_of c.args.self.now) (omega (arith, c.requires)))
