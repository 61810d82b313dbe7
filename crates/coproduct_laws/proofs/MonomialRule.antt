-- The coproduct rule of QSym.M: the cuts of the composition (Gessel 1984).
use Rattle.std.proofs.Common.{◌≡◌, ℕ, zero, suc, ◌*◌, ◌^◌, ◌≤◌, List, [], ◌∷◌, ◌++◌, length, refl, sym, ◌∙◌, ap, subst, arith}
use Rattle.std.specs.List.{sum}
use Rattle.std.proofs.Math.Pow.{pow_mono}
use Rattle.std.proofs.lemmas.List.Sums.{sum_by-append}
use Rattle.basis_names.specs.declared.bases.BasisId.TheVariants.{QsymM}
use Rattle.realisations.specs.Exponents.{without_zeros}
use Rattle.realisations.specs.IndexKinds.{IsComposition}
use Rattle.realisations.specs.Lists.{same_list, one_if}
use Rattle.realisations.specs.Words.{word_cuts}
use Rattle.basis_representatives.proofs.Refinement.{length-composition}
use Rattle.coproduct_laws.specs.Coproducts.{IsCoproduct, ArePairs}
use Rattle.coproduct_laws.specs.Laws.{MonomialCoproductLaw}
use Rattle.coproduct_laws.proofs.CoproductCounts.{coproduct_by_counts}
use Rattle.coproduct_laws.proofs.ValuePairs.{suc-le-pow_two}
use Rattle.coproduct_laws.proofs.WordCuts.{each_cut_of, length-word_cuts, word_cuts_count}

-- the exponents that are not 0 of two lists
without_zeros-append : (u v : List ℕ) → without_zeros (u ++ v) ≡ without_zeros u ++ without_zeros v
without_zeros-append [] v = refl
without_zeros-append (zero ∷ u) v = without_zeros-append u v
without_zeros-append (suc n ∷ u) v = ap (λ p. suc n ∷ p) (without_zeros-append u v)

-- a composition is that of u followed by v for one of its cuts, or for none
monomial_coproduct : (parts : List ℕ) → IsCoproduct QsymM parts (word_cuts parts)
monomial_coproduct parts =
    coproduct_by_counts QsymM parts (word_cuts parts) (λ u v hu hv.
    omega (arith, ap (λ p. one_if (same_list p parts)) (without_zeros-append u v), word_cuts_count (without_zeros u) (without_zeros v) parts))

-- the front of a composition is one
front_composition : (u v : List ℕ) → IsComposition (u ++ v) → IsComposition u
front_composition [] v h = tt
front_composition (x ∷ u) v h = (h.0, front_composition u v h.1)

-- and so is the back
back_composition : (u v : List ℕ) → IsComposition (u ++ v) → IsComposition v
back_composition [] v h = h
back_composition (x ∷ u) v h = back_composition u v h.1

-- both of a cut are compositions, whose degrees add to that of the whole
monomial_pairs : (parts : List ℕ) → IsComposition parts → ArePairs QsymM parts (word_cuts parts)
monomial_pairs parts h =
    each_cut_of _ parts
    (λ u v e.
    let whole : IsComposition (u ++ v) = subst IsComposition (sym e) h in
    (front_composition u v whole, back_composition u v whole, sym (sum_by-append (λ (x : ℕ). x) u v) ∙ ap (λ (ps : List ℕ). sum ps) e))

-- there is a cut more than parts
few_monomials : (parts : List ℕ) → IsComposition parts → length (word_cuts parts) ≤ 2 ^ (5 * sum parts)
few_monomials parts h =
    let room : 2 ^ sum parts ≤ 2 ^ (5 * sum parts) = pow_mono (omega arith) in
    omega (arith, room, length-word_cuts parts, length-composition parts h, suc-le-pow_two (sum parts))

-- QSym.M
pub monomial_rule : MonomialCoproductLaw
monomial_rule parts h = record { reads = monomial_coproduct parts; indices = monomial_pairs parts h; few = few_monomials parts h }
