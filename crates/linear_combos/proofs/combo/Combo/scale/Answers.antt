use Rattle.std.proofs.Common.{◌≡◌, unsigned_abs, subst, ◌∙◌, ap}
use Rattle.std.proofs.lemmas.Int.{to_z-of_z}
use Rattle.hopf_num.specs.Fractions.{Ratio}
use Rattle.realisations.specs.Combinations.{Combination}
use Rattle.linear_combos.specs.Combos.{IsMultiple}
use mir.Syntax.{w128}
use mir.Val.{to_z, of_z}
use Rattle.linear_combos.proofs.combo.Combo.scale.Goals as goal

pub returns-in-Ok-clause-multiple : goal.returns-in-Ok-clause-multiple
returns-in-Ok-clause-multiple c =
    let by = c.args.by.now in
    let num : to_z w128 (of_z w128 c.num-num.result) ≡ by.num = to_z-of_z w128 c.num-num.result (record { sfits = c.num-num.type_inv }) ∙ c.num-num.ensures.value in
    let den : unsigned_abs (to_z w128 (of_z w128 c.den-den.result)) ≡ by.den = ap unsigned_abs (to_z-of_z w128 c.den-den.result (record { sfits = c.den-den.type_inv }) ∙ c.den-den.ensures.value) in
    subst (λ (s : Combination). IsMultiple s by c.multiplied.result) c.in-Ok.ensures
    (subst (λ (r : Ratio). IsMultiple c.in-Ok.copy r c.multiplied.result) (λ i. record { num = num i; den = den i }) c.multiplied.ensures)
