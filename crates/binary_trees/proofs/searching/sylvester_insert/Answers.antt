use Rattle.std.proofs.Common.{◌≡◌, ◌∙◌, ap, sym}
use Rattle.std.proofs.lemmas.Result.{IfOk-weaker}
use Rattle.realisations.specs.Standardisation.{inverse}
use Rattle.realisations.specs.Trees.{decreasing_tree}
use Rattle.basis_representatives.proofs.Permutations.{each_once}
use Rattle.tree_laws.proofs.SearchTrees.{shape-search_tree}
use Rattle.binary_trees.proofs.searching.sylvester_insert.Goals as goal

pub returns : goal.returns
returns c =
    let is : c.code.result.now ≡ inverse c.args.permutation.now = c.code.ensures.value ∙ c.inverse-inverse.ensures.value in
    IfOk-weaker c.decreasing_shape.result _ _
    (λ t h. let same = h ∙ ap decreasing_tree is in (same ∙ sym (shape-search_tree c.args.permutation.now (each_once c.args.permutation.now c.inverse-inverse.ensures.small.permutation)), same))
    c.decreasing_shape.ensures
