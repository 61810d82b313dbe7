use Rattle.std.proofs.Common.{◌≡◌, pos, [], ap, ◌∙◌, rules}
use Rattle.std.specs.Int.{w128}
use Rattle.std.proofs.lemmas.Int.{to_z-of_z}
use Rattle.realisations.specs.Combinations.{IsCanonical, terms_of}
use Rattle.linear_combos.specs.Combos.{IsMultiple}
use Rattle.realisations.specs.Readings.{leaf, numerator}
use Rattle.hopf_laws.specs.Values.{ratio_of}
use Rattle.hopf_laws.proofs.Scalars.{number-over}
use Rattle.basis_routes.proofs.value.Value.scalar.Goals as goal

pub returns-clause-number : goal.returns-clause-number
returns-clause-number c =
    let combination = c.over-combo.result in
    let canonical : IsCanonical combination.rank combination.den combination.terms = search rules in
    let over : IsMultiple c.in_ok-whole.whole (record { num = pos 1; den = c.args.number.now.den }) combination =
    rw (to_z-of_z w128 c.den.result (record { sfits = c.den.type_inv }), c.den.ensures.value) at c.over-combo.ensures in
    let whole : c.in_ok-whole.whole ≡ record { rank = 0; den = 1; terms = terms_of c.args.number.now.num [] } = search rules in
    ap (λ v. ratio_of v) c.over.ensures
    ∙ (λ i. record { num = numerator (leaf ((c.new.ensures i)) combination.den combination.terms) []; den = combination.den })
    ∙ number-over c.args.number.now c.in_ok-whole.whole combination c.num.ensures.lowest whole over canonical
