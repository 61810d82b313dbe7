use Rattle.std.proofs.Common.{◌≤◌, ◌∙◌, length, sym, arith}
use Rattle.realisations.specs.IndexKinds.{IsTreeCode}
use Rattle.binary_trees.proofs.RootPlaces.{after_letter}
use Rattle.binary_trees.proofs.TreeParts.{both_trees, match_no, match_same, no_front_tree, no_tree, parts_back}
use Rattle.binary_trees.proofs.codes.+is_code_of_tree.Goals as goal

pub returns-in-None : goal.returns-in-None
returns-in-None t c = no_tree c.args.code.now (omega (arith, c.len.ensures.value, c.if-len-eq0.false)) c.in-None.ensures

pub returns-then-is_code_of_tree : goal.returns-then-is_code_of_tree
returns-then-is_code_of_tree t c =
    let code = c.args.code.now in
    let some : 1 ≤ length code = omega (arith, c.in-Some.ensures.0) in
    let back = c.in-Some.ensures.2 ∙ sym (after_letter code c.suffix.result c.in-Some.at c.suffix.ensures) in
    match_same (IsTreeCode c.suffix.result) (IsTreeCode code) c.is_code_of_tree-then-is_code_of_tree.result
    (λ h. both_trees code c.prefix.result c.suffix.result c.in-Some.at c.in-Some.ensures.0 c.in-Some.ensures.1 (c.in-Some.ensures.1 ∙ sym c.prefix.ensures) back c.if-is_code_of_tree.ensures h)
    (λ h. parts_back code c.suffix.result some back h)
    c.is_code_of_tree-then-is_code_of_tree.ensures

pub returns-else-is_code_of_tree : goal.returns-else-is_code_of_tree
returns-else-is_code_of_tree t c =
    match_no (IsTreeCode c.args.code.now) c.is_code_of_tree.result c.if-is_code_of_tree.false
    (no_front_tree c.args.code.now c.prefix.result (omega (arith, c.in-Some.ensures.0)) (c.in-Some.ensures.1 ∙ sym c.prefix.ensures) c.if-is_code_of_tree.ensures)
