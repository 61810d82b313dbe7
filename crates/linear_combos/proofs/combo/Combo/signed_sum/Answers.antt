use Rattle.std.proofs.Common.{◌≡◌, ◌/◌, ◌≤◌, [], ◌∷◌, subst, ◌∙◌, ap}
use Rattle.std.proofs.lemmas.Result.{err_from_is_err_and}
use Rattle.hopf_num.specs.Divisors.{IsLcm}
use Rattle.hopf_num.specs.Room.{HasRoom, sum_rule}
use Rattle.hopf_num.specs.declared.room.Need.TheVariants.{CommonDenominator, Sum}
use Rattle.hopf_num.proofs.CommonDivisors.{common_room}
use Rattle.hopf_num.proofs.RoomOfSums.{same_lcm}
use Rattle.linear_combos.specs.declared.combo.ComboFault.TheVariants.{TooLarge}
use Rattle.realisations.specs.Combinations.{Combination, norm_of}
use Rattle.linear_combos.specs.Faults.{TestsRoom}
use Rattle.linear_combos.proofs.RoomOfCombos.{fault_first, tests_later}
use Rattle.linear_combos.proofs.combo.Combo.signed_sum.Goals as goal

pub returns-in_err-den-clause-room : goal.returns-in_err-den-clause-room
returns-in_err-den-clause-room c = λ m is.
    let p = err_from_is_err_and c.from_residual.result c.from_residual.ensures.1 in
    let a = c.args.a.now in
    let b = c.args.b.now in
    let need = ap (λ (s : Combination). CommonDenominator s.den c.b.inside.den) c.a.view_is ∙ ap (λ (s : Combination). CommonDenominator a.den s.den) c.b.view_is in
    rw (p.1, p.2) (fault_first (CommonDenominator a.den b.den) (Sum (norm_of a.terms) (m / a.den) (norm_of b.terms) (m / b.den) ∷ []) c.in_err-den.field-0.0
    (subst (λ n. (c.in_err-den.field-0.0 ≡ TooLarge n) × (HasRoom n → ⊥)) need c.in_err-den.ensures.room))

pub sum_over-requires-clause-least : goal.sum_over-requires-clause-least
sum_over-requires-clause-least c =
    subst (λ (s : Combination). IsLcm s.den c.args.b.now.den c.in_ok-den.den) c.a.view_is (subst (λ (s : Combination). IsLcm c.a.inside.den s.den c.in_ok-den.den) c.b.view_is c.in_ok-den.ensures.least)

pub returns-clause-room : goal.returns-clause-room
returns-clause-room c = λ m is.
    let a = c.args.a.now in
    let b = c.args.b.now in
    let least = subst (λ (s : Combination). IsLcm s.den b.den c.in_ok-den.den) c.a.view_is (subst (λ (s : Combination). IsLcm c.a.inside.den s.den c.in_ok-den.den) c.b.view_is c.in_ok-den.ensures.least) in
    let same = same_lcm _ _ c.in_ok-den.den m least is in
    let left = subst (λ (s : Combination). 1 ≤ s.den) c.a.view_is c.a.invariant.0.lowest.positive in
    let right = subst (λ (s : Combination). 1 ≤ s.den) c.b.view_is c.b.invariant.0.lowest.positive in
    let room = (common_room a.den b.den c.in_ok-den.den left right least).0 c.in_ok-den.ensures.small in
    subst (λ n. TestsRoom (sum_rule n a.den b.den (norm_of a.terms) (norm_of b.terms)) c.sum_over.result) same
    (tests_later (CommonDenominator a.den b.den) (Sum (norm_of a.terms) (c.in_ok-den.den / a.den) (norm_of b.terms) (c.in_ok-den.den / b.den) ∷ []) c.sum_over.result room c.sum_over.ensures.room)
