-- The text of a value, term by term.
use Rattle.std.proofs.Common.{◌≡◌, ℕ, ◌+◌, ◌<◌, ◌≤◌, List, [], ◌∷◌, ◌++◌, length, drop, refl, sym, ◌∙◌, ap, subst, arith, inl, inr, add-one, drop-cons}
use Rattle.std.specs.Prelude.{pos, codes}
use Rattle.std.proofs.Math.ListN.{drop_of_length-le}
use Rattle.hopf_num.specs.Fractions.{Ratio, fraction_text}
use Rattle.realisations.specs.Combinations.{AreTerms, term_at}
use Rattle.realisations.specs.Readings.{Terms}
use Rattle.basis_names.specs.declared.bases.BasisId.{BasisId}
use Rattle.hopf_laws.specs.Values.{Expansion, IsValue}
use Rattle.hopf_laws.proofs.Scalars.{scalar_terms, number_of-first, no_bases}
use Rattle.value_texts.specs.Text.{term_text, first_sign, later_sign, IsCoefficient, AreLaterTerms, AreTermsIn, IsTextOf, zero_text, none, one_more, scalar_text, terms_text}

-- the first term, of a value that is no scalar
pub first_term : (bases : List BasisId) (den : ℕ) (ts : Terms) (r : Ratio) (later : List ℕ) → 1 ≤ length bases → 0 < length ts
    → IsCoefficient (term_at ts 0).0 den r → AreLaterTerms bases den (drop 1 ts) later
    → AreTermsIn den bases ts (first_sign r.num ++ term_text bases r (term_at ts 0).1 ++ later)
first_term [] den ts r later some more is rest = absurd (omega arith)
first_term (basis ∷ bases) den [] r later some more is rest = absurd (omega arith)
first_term (basis ∷ bases) den (t ∷ ts) r later some more is rest = terms_text is rest

-- a later term
pub next_term : (bases : List BasisId) (den : ℕ) (ts : Terms) (i : ℕ) (r : Ratio) (later : List ℕ) → i < length ts
    → IsCoefficient (term_at ts i).0 den r → AreLaterTerms bases den (drop (i + 1) ts) later
    → AreLaterTerms bases den (drop i ts) (later_sign r.num ++ term_text bases r (term_at ts i).1 ++ later)
next_term bases den ts i r later lt is rest =
    let step : drop i ts ≡ term_at ts i ∷ drop (i + 1) ts = rw (add-one) (drop-cons ts i (pos 0, []) lt) in
    subst (λ us. AreLaterTerms bases den us (later_sign r.num ++ term_text bases r (term_at ts i).1 ++ later)) (sym step) (one_more is rest)

-- nothing is left
pub no_term : (bases : List BasisId) (den : ℕ) (ts : Terms) (i : ℕ) → length ts ≤ i → AreLaterTerms bases den (drop i ts) []
no_term bases den ts i le = subst (λ us. AreLaterTerms bases den us []) (sym (drop_of_length-le ts le)) none

-- zero
pub zero_text_of : (v : Expansion) → length v.combination.terms ≡ 0 → IsTextOf v (codes "0")
zero_text_of v e = subst (λ ts. AreTermsIn v.combination.den v.bases ts (codes "0")) (sym (no_terms v.combination.terms e)) zero_text
  where
    no_terms : (ts : Terms) → length ts ≡ 0 → ts ≡ []
    no_terms [] h = refl
    no_terms (t ∷ ts) h = absurd (omega arith)

-- a scalar that is not zero
pub scalar_text_of : (v : Expansion) (r : Ratio) → IsValue v → length v.bases ≡ 0 → 0 < length v.combination.terms
    → IsCoefficient (term_at v.combination.terms 0).0 v.combination.den r → IsTextOf v (fraction_text r)
scalar_text_of v r is rank some coefficient =
    let terms : AreTerms 0 v.combination.terms = subst (λ n. AreTerms n v.combination.terms) (is.rank ∙ rank) is.canonical.ordered in
    elim (scalar_terms v.combination.terms terms) [
      | inl zero_terms ↦ absurd (omega (arith, some, ap length zero_terms))
      | inr one ↦
          subst (λ bs. AreTermsIn v.combination.den bs v.combination.terms (fraction_text r)) (sym (no_bases v.bases rank))
          (subst (λ ts. AreTermsIn v.combination.den [] ts (fraction_text r)) (sym one)
          (scalar_text (subst (λ n. IsCoefficient n v.combination.den r) (sym (number_of-first v.combination.terms)) coefficient)))
    ]
