use Rattle.std.proofs.Common.{rules, ◌≡◌, ◌<◌, ◌+◌, ◌∙◌, ap, length, sym, subst, arith}
use Rattle.std.proofs.lemmas.List.{length-drop}
use Rattle.std.proofs.lemmas.Result.{IfOk-weaker}
use Rattle.realisations.specs.IndexKinds.{IsTreeCode}
use Rattle.realisations.specs.Trees.{before_root, after_root}
use Rattle.binary_trees.specs.Shapes.{shape_of}
use Rattle.binary_trees.proofs.RootPlaces.{after_letter}
use Rattle.binary_trees.proofs.TreeParts.{none_left, parts_of_tree, tree_of_both}
use Rattle.binary_trees.proofs.codes.+build.Goals as goal

pub build-requires : goal.build-requires
build-requires t c =
    let parts = parts_of_tree c.args.code.now (omega (arith, c.in-Some.ensures.0)) c.requires in
    (search rules, subst IsTreeCode (c.in-Some.ensures.1 ∙ sym c.prefix.ensures) parts.before)

pub build-requires-in-Some : goal.build-requires-in-Some
build-requires-in-Some t c =
    let parts = parts_of_tree c.args.code.now (omega (arith, c.in-Some.ensures.0)) c.requires in
    let shorter : length c.suffix.result < length c.args.code.now = omega (arith, c.in-Some.ensures.0, ap length c.suffix.ensures, length-drop (c.in-Some.at + 1) c.args.code.now) in
    (search rules, subst IsTreeCode (c.in-Some.ensures.2 ∙ sym (after_letter c.args.code.now c.suffix.result c.in-Some.at c.suffix.ensures)) parts.after)

pub returns-in-None : goal.returns-in-None
returns-in-None t c = none_left c.args.code.now c.requires c.in-None.ensures

pub returns-in_ok-right-in-Some : goal.returns-in_ok-right-in-Some
returns-in_ok-right-in-Some t c =
    let front : before_root c.args.code.now ≡ c.prefix.result = c.in-Some.ensures.1 ∙ sym c.prefix.ensures in
    let back : after_root c.args.code.now ≡ c.suffix.result = c.in-Some.ensures.2 ∙ sym (after_letter c.args.code.now c.suffix.result c.in-Some.at c.suffix.ensures) in
    IfOk-weaker c.join.result _ _
    (λ tree h. tree_of_both c.args.code.now c.prefix.result c.suffix.result (shape_of tree) (shape_of c.in_ok-left-in-Some.left) (shape_of c.in_ok-right-in-Some.right) (omega (arith, c.in-Some.ensures.0)) c.requires front back
    c.in_ok-left-in-Some.ensures c.in_ok-right-in-Some.ensures h)
    c.join.ensures
