use Rattle.std.proofs.Common.{ℕ, List, [], length, arith, subst, sym, ◌∙◌, ap, to_z, of_z}
use Rattle.std.proofs.Math.IntN.{ℤ, pos, ◌+ℤ◌, ◌*ℤ◌}
use Rattle.std.proofs.lemmas.Int.{to_z-of_z}
use Rattle.std.proofs.lemmas.List.{get_or_default}
use Rattle.hopf_num.proofs.SumsOfProducts.{abs_sum}
use Rattle.realisations.specs.Combinations.{term_at}
use Rattle.linear_combos.specs.Combos.{IsGapFor}
use Rattle.linear_combos.proofs.Numerals.{scaled_is}
use Rattle.linear_combos.proofs.Merging.{IsMerged-turned, left_gap, left_room, left_added, both_room, both_added}
use mir.Syntax.{w128}
use Rattle.linear_combos.proofs.merge.merge_step.Goals as goal

pub scaled-num-requires-clause-room : goal.scaled-num-requires-clause-room
scaled-num-requires-clause-room c =
    let room = left_room _ c.args.left_factor _ c.args.right_factor _ _ _ c.requires.merged c.requires.room c.in-Less.ensures.0 in
    rw (to_z-of_z w128 c.args.left_factor c.ranges.left_factor) (omega (arith, room))

pub push-requires-clause-room : goal.push-requires-clause-room
push-requires-clause-room c =
    let num = scaled_is c.scaled-num.result (term_at c.args.left.now c.args.at.0).0 c.args.left_factor (record { sfits = c.scaled-num.type_inv }) c.ranges.left_factor c.scaled-num.ensures in
    rw num (left_room _ c.args.left_factor _ c.args.right_factor _ _ _ c.requires.merged c.requires.room c.in-Less.ensures.0)

pub returns-in_ok-push-in-Less-clause-merged : goal.returns-in_ok-push-in-Less-clause-merged
returns-in_ok-push-in-Less-clause-merged c =
    let here = c.in-Less.ensures.0 in
    let num = scaled_is c.scaled-num.result (term_at c.args.left.now c.args.at.0).0 c.args.left_factor (record { sfits = c.scaled-num.type_inv }) c.ranges.left_factor c.scaled-num.ensures in
    let key = ap (λ (t : ℤ × List (List ℕ)). t.1) (get_or_default c.args.left.now c.args.at.0 c.index-left-i.result (pos 0, []) here) in
    left_added c.args.left.now c.args.left_factor c.args.right.now c.args.right_factor c.args.at.0 c.args.at.1 c.args.sum.now.terms c.requires.merged c.requires.room here
    c.push.new.self.terms _ _ c.in-Less.ensures.1 c.requires.left.rising num key c.in_ok-push-in-Less.ensures.adds c.push.ensures.norm

pub scaled-num-requires-in-Greater-clause-room : goal.scaled-num-requires-in-Greater-clause-room
scaled-num-requires-in-Greater-clause-room c =
    let turned = IsMerged-turned _ _ _ _ _ _ _ c.requires.merged in
    let room = left_room _ c.args.right_factor _ c.args.left_factor _ _ _ turned (omega (arith, c.requires.room)) c.in-Greater.ensures.0 in
    rw (to_z-of_z w128 c.args.right_factor c.ranges.right_factor) (omega (arith, room))

pub push-requires-in-Greater-clause-room : goal.push-requires-in-Greater-clause-room
push-requires-in-Greater-clause-room c =
    let turned = IsMerged-turned _ _ _ _ _ _ _ c.requires.merged in
    let num = scaled_is c.scaled-num-in-Greater.result (term_at c.args.right.now c.args.at.1).0 c.args.right_factor (record { sfits = c.scaled-num-in-Greater.type_inv }) c.ranges.right_factor c.scaled-num-in-Greater.ensures in
    rw num (left_room _ c.args.right_factor _ c.args.left_factor _ _ _ turned (omega (arith, c.requires.room)) c.in-Greater.ensures.0)

pub returns-in_ok-push-in-Greater-clause-merged : goal.returns-in_ok-push-in-Greater-clause-merged
returns-in_ok-push-in-Greater-clause-merged c =
    let there = c.in-Greater.ensures.0 in
    let turned = IsMerged-turned _ _ _ _ _ _ _ c.requires.merged in
    let num = scaled_is c.scaled-num-in-Greater.result (term_at c.args.right.now c.args.at.1).0 c.args.right_factor (record { sfits = c.scaled-num-in-Greater.type_inv }) c.ranges.right_factor c.scaled-num-in-Greater.ensures in
    let key = ap (λ (t : ℤ × List (List ℕ)). t.1) (get_or_default c.args.right.now c.args.at.1 c.index-right-j.result (pos 0, []) there) in
    IsMerged-turned _ _ _ _ _ _ _
    (left_added c.args.right.now c.args.right_factor c.args.left.now c.args.left_factor c.args.at.1 c.args.at.0 c.args.sum.now.terms turned (omega (arith, c.requires.room)) there
    c.push-in-Greater.new.self.terms _ _ c.in-Greater.ensures.1 c.requires.right.rising num key c.in_ok-push-in-Greater.ensures.adds c.push-in-Greater.ensures.norm)

pub scaled-requires-clause-room : goal.scaled-requires-clause-room
scaled-requires-clause-room c =
    let room = left_room _ c.args.left_factor _ c.args.right_factor _ _ _ c.requires.merged c.requires.room c.in-Equal.ensures.0 in
    rw (to_z-of_z w128 c.args.left_factor c.ranges.left_factor) (omega (arith, room))

pub scaled-requires-in-Equal-clause-room : goal.scaled-requires-in-Equal-clause-room
scaled-requires-in-Equal-clause-room c =
    let turned = IsMerged-turned _ _ _ _ _ _ _ c.requires.merged in
    let room = left_room _ c.args.right_factor _ c.args.left_factor _ _ _ turned (omega (arith, c.requires.room)) c.in-Equal.ensures.1 in
    rw (to_z-of_z w128 c.args.right_factor c.ranges.right_factor) (omega (arith, room))

pub total-num-requires : goal.total-num-requires
total-num-requires c =
    let left = scaled_is c.scaled.result (term_at c.args.left.now c.args.at.0).0 c.args.left_factor (record { sfits = c.scaled.type_inv }) c.ranges.left_factor c.scaled.ensures in
    let right = scaled_is c.scaled-in-Equal.result (term_at c.args.right.now c.args.at.1).0 c.args.right_factor (record { sfits = c.scaled-in-Equal.type_inv }) c.ranges.right_factor c.scaled-in-Equal.ensures in
    let room = both_room _ c.args.left_factor _ c.args.right_factor _ _ _ c.requires.merged c.requires.room c.in-Equal.ensures.0 c.in-Equal.ensures.1 in
    rw (left, right) (omega (arith, room))

pub push-requires-in-Equal-clause-last : goal.push-requires-in-Equal-clause-last
push-requires-in-Equal-clause-last c =
    let here = c.in-Equal.ensures.0 in
    let key = ap (λ (t : ℤ × List (List ℕ)). t.1) (get_or_default c.args.left.now c.args.at.0 c.index-left-i-in-Equal.result (pos 0, []) here) in
    subst (λ k. IsGapFor c.args.sum.now.terms k (length c.args.sum.now.terms)) (sym key)
    (left_gap _ c.args.left_factor _ c.args.right_factor _ _ _ c.requires.merged c.requires.room here)

pub push-requires-in-Equal-clause-room : goal.push-requires-in-Equal-clause-room
push-requires-in-Equal-clause-room c =
    let left = scaled_is c.scaled.result (term_at c.args.left.now c.args.at.0).0 c.args.left_factor (record { sfits = c.scaled.type_inv }) c.ranges.left_factor c.scaled.ensures in
    let right = scaled_is c.scaled-in-Equal.result (term_at c.args.right.now c.args.at.1).0 c.args.right_factor (record { sfits = c.scaled-in-Equal.type_inv }) c.ranges.right_factor c.scaled-in-Equal.ensures in
    let num = to_z-of_z w128 c.total-num.result (record { sfits = c.total-num.type_inv }) ∙ c.total-num.ensures ∙ ap (λ z. z +ℤ to_z w128 (of_z w128 c.scaled-in-Equal.result)) left
    ∙ ap (λ z. (term_at c.args.left.now c.args.at.0).0 *ℤ c.args.left_factor +ℤ z) right in
    let room = both_room _ c.args.left_factor _ c.args.right_factor _ _ _ c.requires.merged c.requires.room c.in-Equal.ensures.0 c.in-Equal.ensures.1 in
    let size = abs_sum ((term_at c.args.left.now c.args.at.0).0 *ℤ c.args.left_factor) ((term_at c.args.right.now c.args.at.1).0 *ℤ c.args.right_factor) in
    rw num (omega (arith, room, size))

pub returns-in_ok-push-in-Equal-clause-merged : goal.returns-in_ok-push-in-Equal-clause-merged
returns-in_ok-push-in-Equal-clause-merged c =
    let here = c.in-Equal.ensures.0 in
    let there = c.in-Equal.ensures.1 in
    let left = scaled_is c.scaled.result (term_at c.args.left.now c.args.at.0).0 c.args.left_factor (record { sfits = c.scaled.type_inv }) c.ranges.left_factor c.scaled.ensures in
    let right = scaled_is c.scaled-in-Equal.result (term_at c.args.right.now c.args.at.1).0 c.args.right_factor (record { sfits = c.scaled-in-Equal.type_inv }) c.ranges.right_factor c.scaled-in-Equal.ensures in
    let num = to_z-of_z w128 c.total-num.result (record { sfits = c.total-num.type_inv }) ∙ c.total-num.ensures ∙ ap (λ z. z +ℤ to_z w128 (of_z w128 c.scaled-in-Equal.result)) left
    ∙ ap (λ z. (term_at c.args.left.now c.args.at.0).0 *ℤ c.args.left_factor +ℤ z) right in
    let key = ap (λ (t : ℤ × List (List ℕ)). t.1) (get_or_default c.args.left.now c.args.at.0 c.index-left-i-in-Equal.result (pos 0, []) here) in
    both_added c.args.left.now c.args.left_factor c.args.right.now c.args.right_factor c.args.at.0 c.args.at.1 c.args.sum.now.terms c.requires.merged c.requires.room here there
    c.push-in-Equal.new.self.terms _ _ c.in-Equal.ensures.2 c.requires.left.rising c.requires.right.rising num key c.in_ok-push-in-Equal.ensures.adds c.push-in-Equal.ensures.norm
