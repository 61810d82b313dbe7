use Rattle.std.proofs.Common.{◌≡◌, ap, subst, ◌∙◌}
use Rattle.std.proofs.lemmas.Int.{to_z-of_z}
use Rattle.linear_combos.specs.Merges.{IsOver}
use Rattle.linear_combos.proofs.Merging.{IsCombined-merged}
use mir.Syntax.{w128}
use Rattle.linear_combos.proofs.combo.combine.Goals as goal

pub returns : goal.returns
returns c =
    let left = to_z-of_z w128 c.args.left_factor c.ranges.left_factor in
    let right = to_z-of_z w128 c.args.right_factor c.ranges.right_factor in
    let rank : c.merge.new.sum.rank ≡ c.args.rank = c.merge.ensures.same_rank ∙ ap (λ s. s.rank) c.new-sum.ensures in
    let den : c.merge.new.sum.den ≡ c.args.den = c.merge.ensures.same_den ∙ ap (λ s. s.den) c.new-sum.ensures in
    let over = subst (λ n. IsOver c.args.rank n c.merge.new.sum.terms c.lowest.result) den
    (subst (λ n. IsOver n c.merge.new.sum.den c.merge.new.sum.terms c.lowest.result) rank c.lowest.ensures) in
    IsCombined-merged c.args.rank c.args.den c.args.left.now c.args.left_factor c.args.right.now c.args.right_factor c.merge.new.sum.terms c.lowest.result
    (rw (left, right) at c.in_ok-merge.ensures.merged) over
