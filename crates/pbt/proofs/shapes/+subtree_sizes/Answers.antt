use Rattle.std.proofs.Common.{◌∙◌, ap}
use Rattle.binary_trees.specs.Shapes.{shape_of}
use Rattle.realisations.specs.Trees.{subtree_sizes as sizes_of}
use Rattle.pbt.proofs.Classes.{sizes_code, sizes_to_root}
use Rattle.pbt.proofs.shapes.+subtree_sizes.Goals as goal

pub with-root-requires : goal.with-root-requires
with-root-requires t c =
    sizes_to_root (shape_of c.args.tree.now) (shape_of c.in-Node.left.value) (shape_of c.in-Node.right.value) c.subtree_sizes-front.result c.size.result (ap shape_of c.in-Node.is) c.requires
    (c.subtree_sizes-front.ensures ∙ ap (λ t. sizes_of (shape_of t)) c.deref.ensures)
    c.size.ensures

pub followed_by-requires : goal.followed_by-requires
followed_by-requires t c =
    sizes_code (shape_of c.args.tree.now) (shape_of c.in-Node.left.value) (shape_of c.in-Node.right.value) c.with-root.result c.subtree_sizes-front.result c.subtree_sizes-back.result c.size.result
    (ap shape_of c.in-Node.is) c.requires c.with-root.ensures
    (c.subtree_sizes-front.ensures ∙ ap (λ t. sizes_of (shape_of t)) c.deref.ensures)
    c.size.ensures
    (c.subtree_sizes-back.ensures ∙ ap (λ t. sizes_of (shape_of t)) c.deref-in-Node.ensures)
