use Rattle.std.proofs.Common.{◌∷◌, [], ◌++◌, ◌∙◌, ap}
use Rattle.tree_laws.specs.UpperParts.{upper_codes}
use Rattle.binary_trees.specs.Shapes.{shape_of}
use Rattle.binary_trees.proofs.UpperPairs.{are_sides, upper_codes-node}
use Rattle.binary_trees.proofs.upper_parts.+upper_pairs.Goals as goal

pub push_rows-requires : goal.push_rows-requires
push_rows-requires t c =
    are_sides (shape_of c.args.tree.now) (shape_of c.in-Node.left.value) (shape_of c.in-Node.right.value) c.as_slice.result.now c.as_slice-in-Node.result.now (ap shape_of c.in-Node.is) c.requires
    (c.as_slice.ensures.value ∙ c.in_ok-lefts-in-Node.ensures ∙ ap (λ t. upper_codes (shape_of t)) c.deref.ensures)
    (c.as_slice-in-Node.ensures.value ∙ c.in_ok-rights-in-Node.ensures ∙ ap (λ t. upper_codes (shape_of t)) c.deref-in-Node.ensures)

pub returns-in_ok-push_rows-in-Node : goal.returns-in_ok-push_rows-in-Node
returns-in_ok-push_rows-in-Node t c =
    upper_codes-node (shape_of c.args.tree.now) (shape_of c.in-Node.left.value) (shape_of c.in-Node.right.value) c.code.result c.as_slice.result.now c.as_slice-in-Node.result.now c.push.new.self.items c.push_rows.new.out.items (ap shape_of c.in-Node.is) c.code.ensures
    (c.as_slice.ensures.value ∙ c.in_ok-lefts-in-Node.ensures ∙ ap (λ t. upper_codes (shape_of t)) c.deref.ensures)
    (c.as_slice-in-Node.ensures.value ∙ c.in_ok-rights-in-Node.ensures ∙ ap (λ t. upper_codes (shape_of t)) c.deref-in-Node.ensures)
    (c.in_ok-push.ensures.items ∙ (λ i. c.new-pairs.ensures.items i ++ (c.code.result, c.empty.ensures i) ∷ []))
    c.in_ok-push_rows-in-Node.ensures
