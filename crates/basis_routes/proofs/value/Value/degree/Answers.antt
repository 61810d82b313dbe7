use Rattle.std.proofs.Common.{◌≡◌, ◌<◌, ◌∙◌, ap, sym, arith, subst, length, max}
use Rattle.realisations.specs.Combinations.{term_at}
use Rattle.realisations.specs.Indices.{total_degree}
use Rattle.basis_routes.proofs.Degrees.{greatest_degree-more, least_limit-small}
use Rattle.basis_routes.proofs.value.Value.degree.Goals.{then-greatest-degree, else-greatest-degree}
use Rattle.basis_routes.proofs.value.Value.degree.Goals as goal

pub loop-at-preserved : goal.loop-at-preserved
loop-at-preserved c =
    let v = c.args.self.now in
    let bases = v.bases in
    let here : c.loop-at.at < length v.combination.terms = subst (λ w. c.loop-at.at < length w.combination.terms) c.self.view_is (rw c.len-at-end.ensures.value at c.loop-at-test.true) in
    let degree : c.degree_of_key-degree.result ≡ total_degree bases (term_at v.combination.terms c.loop-at.at).1 =
    c.degree_of_key-degree.ensures
    ∙ ap (λ k. total_degree c.self.inside.bases k) c.key_at.ensures
    ∙ ap (λ w. total_degree w.bases (term_at w.combination.terms c.loop-at.at).1) c.self.view_is in
    let greater : c.if-greatest-degree.greatest ≡ max c.loop-at.greatest c.degree_of_key-degree.result =
    elim c.if-greatest-degree.branch [
      | then-greatest-degree w ↦ omega (arith, w.if-greatest-degree, w.greatest-is)
      | else-greatest-degree w ↦ omega (arith, w.if-greatest-degree, w.greatest-is)
    ] in
    greater
    ∙ (λ i. max (c.loop-at.invariant i) (degree i))
    ∙ greatest_degree-more bases v.combination.terms c.loop-at.at here

pub degree_of_key-degree-requires-clause-small : goal.degree_of_key-degree-requires-clause-small
degree_of_key-degree-requires-clause-small c =
    let here : c.loop-at.at < length c.self.inside.combo.terms = rw c.len-at-end.ensures.value at c.loop-at-test.true in
    omega (arith, c.self.invariant.degrees c.key_at.result.now (c.loop-at.at, here, sym c.key_at.ensures), least_limit-small c.self.inside.bases)
