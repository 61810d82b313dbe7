use Rattle.std.proofs.Common.{◌≡◌, length, ap, sym, subst, arith, ◌∙◌, to_z}
use Rattle.std.specs.Int.{w128}
use Rattle.std.proofs.lemmas.Int.{to_z-of_z}
use Rattle.realisations.specs.Combinations.{AreTerms}
use Rattle.hopf_num.proofs.LowestTerms.{fraction-unique}
use Rattle.hopf_laws.specs.Values.{ratio_of}
use Rattle.hopf_laws.proofs.Scalars.{number_of, number_of-first, number_of-none, fraction-scalar, ratio-scalar}
use Rattle.basis_routes.proofs.value.Value.as_fraction.Goals.{then-len-eq0, else-len-eq0}
use Rattle.basis_routes.proofs.value.Value.as_fraction.Goals as goal

pub returns : goal.returns
returns c =
    let combination = c.self.inside.combo in
    let none : combination.rank ≡ 0 = omega (arith, c.if-rank-ne0.false, c.rank.ensures.value) in
    let terms : AreTerms 0 combination.terms = subst (λ n. AreTerms n combination.terms) none c.self.invariant.canonical.ordered in
    let num : to_z w128 c.if-len-eq0.num-bits ≡ number_of combination.terms =
    elim c.if-len-eq0.branch [
      | then-len-eq0 w ↦ w.num-is ∙ sym (number_of-none combination.terms (sym c.len.ensures.value ∙ w.if-len-eq0.true))
      | else-len-eq0 w ↦ w.num-is ∙ to_z-of_z w128 w.num_at-num.result (record { sfits = w.num_at-num.type_inv }) ∙ w.num_at-num.ensures.value ∙ sym (number_of-first combination.terms)
    ] in
    let lowest = rw c.unwrap.ensures at c.new.ensures.lowest in
    let value = rw (c.unwrap.ensures, num, to_z-of_z w128 c.den.result (record { sfits = c.den.type_inv }), c.den.ensures) at c.new.ensures.value in
    let same = fraction-unique c.unwrap.result (record { num = number_of combination.terms; den = combination.den }) lowest
    (fraction-scalar combination.den combination.terms terms c.self.invariant.canonical.lowest) value in (
      ap (λ v. length v.bases) (sym c.self.view_is) ∙ sym c.self.invariant.rank ∙ none,
      same ∙ sym (ratio-scalar _ c.self.invariant (sym c.self.invariant.rank ∙ none)) ∙ ap (λ v. ratio_of v) c.self.view_is,
    )
