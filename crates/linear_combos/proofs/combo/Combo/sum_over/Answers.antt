use Rattle.std.proofs.Common.{◌≡◌, ◌*◌, ◌/◌, ◌≤◌, ◌∙◌, ap, arith, subst, pos, ◌*ℤ◌, unsigned_abs}
use Rattle.std.proofs.Math.Nat.{div-le_self, mul-one}
use Rattle.std.proofs.lemmas.Int.{to_z-of_z, to_z_pos, unsigned_abs-mul}
use Rattle.hopf_num.proofs.CommonDivisors.{lcm-pos}
use Rattle.realisations.specs.Combinations.{Combination}
use Rattle.linear_combos.specs.Merges.{IsCombined}
use Rattle.linear_combos.proofs.SumsOfCombos.{IsSignedSum-combined}
use mir.Syntax.{w128}
use Rattle.linear_combos.proofs.combo.Combo.sum_over.Goals as goal

pub combine-sum-requires-clause-positive : goal.combine-sum-requires-clause-positive
combine-sum-requires-clause-positive c =
    lcm-pos _ _ c.args.den (subst (λ (s : Combination). 1 ≤ s.den) c.a.view_is c.a.invariant.0.lowest.positive) (subst (λ (s : Combination). 1 ≤ s.den) c.b.view_is c.b.invariant.0.lowest.positive) c.requires.least

pub combine-sum-requires-clause-room : goal.combine-sum-requires-clause-room
combine-sum-requires-clause-room c =
    let left_below : c.args.den / c.a.inside.den ≤ c.args.den = div-le_self c.args.den c.a.inside.den in
    let left = to_z_pos w128 (c.args.den / c.a.inside.den) (omega (arith, left_below, c.requires.small)) in
    let right = to_z-of_z w128 c.with_sign.result (record { sfits = c.with_sign.type_inv }) ∙ c.with_sign.ensures in
    let sign = to_z-of_z w128 c.args.sign c.ranges.sign in
    let size : unsigned_abs (pos (c.args.den / c.b.inside.den) *ℤ c.args.sign) ≡ c.args.den / c.b.inside.den =
    unsigned_abs-mul (pos (c.args.den / c.b.inside.den)) c.args.sign ∙ ap (λ n. c.args.den / c.b.inside.den * n) c.requires.sign ∙ mul-one (c.args.den / c.b.inside.den) in
    rw (c.deref.ensures.value, c.deref-2.ensures.value, left, right, sign, size, ← c.a.invariant.1, ← c.b.invariant.1) c.in_ok-test.ensures

pub returns-in-Ok-clause-sum : goal.returns-in-Ok-clause-sum
returns-in-Ok-clause-sum c =
    let left_below : c.args.den / c.a.inside.den ≤ c.args.den = div-le_self c.args.den c.a.inside.den in
    let left = to_z_pos w128 (c.args.den / c.a.inside.den) (omega (arith, left_below, c.requires.small)) in
    let right = to_z-of_z w128 c.with_sign.result (record { sfits = c.with_sign.type_inv }) ∙ c.with_sign.ensures in
    let sign = to_z-of_z w128 c.args.sign c.ranges.sign in
    let positive = lcm-pos _ _ c.args.den (subst (λ (s : Combination). 1 ≤ s.den) c.a.view_is c.a.invariant.0.lowest.positive) (subst (λ (s : Combination). 1 ≤ s.den) c.b.view_is c.b.invariant.0.lowest.positive) c.requires.least in
    let inside = rw (c.deref.ensures.value, c.deref-2.ensures.value, left, right, sign) at c.in-Ok.ensures in
    let half = subst (λ (s : Combination). IsCombined s.rank c.args.den s.terms (pos (c.args.den / s.den)) c.b.inside.terms.items (pos (c.args.den / c.b.inside.den) *ℤ c.args.sign) c.in-Ok.sum) c.a.view_is inside in
    let whole = subst (λ (s : Combination). IsCombined c.args.a.now.rank c.args.den c.args.a.now.terms (pos (c.args.den / c.args.a.now.den)) s.terms (pos (c.args.den / s.den) *ℤ c.args.sign) c.in-Ok.sum) c.b.view_is half in
    IsSignedSum-combined c.args.a.now c.args.b.now c.in-Ok.sum c.args.den c.args.sign positive c.requires.least whole
