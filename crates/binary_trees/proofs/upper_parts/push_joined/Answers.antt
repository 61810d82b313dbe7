use Rattle.std.proofs.Common.{◌+◌, ◌∷◌, [], ◌++◌, sym, subst}
use Rattle.linear_combos.specs.Codes.{IsCode}
use Rattle.binary_trees.proofs.UpperPairs.{root_code}
use Rattle.binary_trees.proofs.upper_parts.push_joined.Goals as goal

pub with-root-requires : goal.with-root-requires
with-root-requires c = subst (λ n. IsCode (c.args.left.now.1 ++ (n + 1) ∷ [])) (sym c.len.ensures.value) (root_code c.args.left.now c.args.right.now c.requires)
