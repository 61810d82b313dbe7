use Rattle.std.proofs.Common.{◌/◌, subst}
use Rattle.realisations.specs.Combinations.{Combination}
use Rattle.linear_combos.specs.Merges.{IsOver}
use Rattle.linear_combos.proofs.LowestCombos.{common-positive, common-small, IsCanonical-quotients, IsOver-quotients}
use Rattle.linear_combos.proofs.combo.Combo.lowest.Goals as goal

pub divide-requires-clause-positive : goal.divide-requires-clause-positive
divide-requires-clause-positive c = common-positive _ _ _ _ _ c.sum.invariant

pub divide-requires-clause-by_small : goal.divide-requires-clause-by_small
divide-requires-clause-by_small c = common-small _ _ _ _ _ c.sum.invariant

pub nonzero_div-result : goal.nonzero_div-result
nonzero_div-result c = common-positive _ _ _ _ _ c.sum.invariant

pub nonzero_div-result-2 : goal.nonzero_div-result-2
nonzero_div-result-2 c = common-positive _ _ _ _ _ c.sum.invariant

pub invariant_of-result : goal.invariant_of-result
invariant_of-result c = rw c.divide.ensures (IsCanonical-quotients _ _ _ _ _ c.sum.invariant)

pub returns : goal.returns
returns c =
    let common = c.sum.inside.common in
    subst (λ (s : Combination). IsOver s.rank s.den s.terms (record { rank = c.sum.inside.rank; den = c.sum.inside.den / common; terms = c.divide.new.terms.items })) c.sum.view_is
    (rw c.divide.ensures (IsOver-quotients _ _ _ _ _ c.sum.invariant))
