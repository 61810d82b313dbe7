use Rattle.std.proofs.Common.{rules, ◌≡◌, ◌<◌, ◌+◌, ◌-◌, length, get_or, ◌∙◌, ap, arith}
use Rattle.basis_routes.proofs.ConversionSteps.{same_more}
use Rattle.basis_routes.proofs.conversions.same_components.Goals as goal

pub loop-at-preserved : goal.loop-at-preserved
loop-at-preserved c =
    let n = c.loop-at.at in
    let a = c.args.a.now in
    let b = c.args.b.now in
    let left = c.at-left.result in
    let right = c.at-right.result in
    let place : n + 1 - 1 ≡ n = omega arith in
    let la : n < length a = omega (arith, c.loop-at-test.true, c.len-at-end.ensures.value) in
    let lb : n < length b = omega (arith, la, c.requires) in
    let same : left ≡ right = search rules in
    same_more n a b left right la lb (c.at-left.ensures ∙ ap (λ k. get_or a k left) place) (c.at-right.ensures ∙ ap (λ k. get_or b k right) place) same c.loop-at.invariant
