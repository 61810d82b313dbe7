-- The complete functions of NCSF at words: they are dual to the compositions, and their coproduct is by the cuts of the parts.
use Rattle.std.proofs.Common.{◌≡◌, ◌≢◌, ℕ, false, List, [], ◌∷◌, length, refl, sym, ◌∙◌, ap, arith}
use Rattle.std.specs.Prelude.{nat_eq, ◌&&◌}
use Rattle.std.proofs.Math.IntN.{ℤ, pos, ◌*ℤ◌, *ℤ-one, one, pos-*ℤ-pos}
use Rattle.std.specs.List.{sum}
use Rattle.std.proofs.lemmas.Int.{ints}
use Rattle.std.proofs.lemmas.Bool.Decides.{nat_tests}
use Rattle.basis_names.specs.declared.bases.BasisId.TheVariants.{NcsfS}
use Rattle.realisations.specs.Descents.{descents, descent_composition, descent_set, word_of_composition}
use Rattle.realisations.specs.Exponents.{exponent_cuts, without_zeros}
use Rattle.realisations.specs.IndexKinds.{IsComposition}
use Rattle.realisations.specs.Lists.{is_subset, one_if}
use Rattle.realisations.specs.Occurrence.{occurs}
use Rattle.realisations.specs.Pairings.{compositions}
use Rattle.realisations.specs.Points.{word, IsPoint}
use Rattle.realisations.specs.Readings.{applied, coproduct, element, numerator, leaf}
use Rattle.basis_representatives.proofs.BlockWords.{descent_composition-word_of_composition}
use Rattle.basis_representatives.proofs.ClassTests.{occurs-complete}
use Rattle.basis_representatives.proofs.Steps.{IsComposition-descent_composition}
use Rattle.coproduct_laws.specs.Coproducts.{terms_of_pairs}
use Rattle.coproduct_laws.proofs.CoproductCounts.{at_pair}
use Rattle.coproduct_rules.specs.PartCuts.{part_cuts}
use Rattle.coproduct_rules.proofs.KeyReadings.{numerator-pairs}
use Rattle.coproduct_rules.proofs.MultiplicativeRules.{complete_coproduct}
use Rattle.antipode_laws.proofs.IntegerSums.{sum_over, sum_over_same, sum_over-map}
use Rattle.antipode_laws.proofs.OperationReads.{over_ordinal_sum}
use Rattle.antipode_laws.proofs.RankOneReadings.{coproduct_is, element_is}
use Rattle.pairing_laws.proofs.EachOnce.{same}
use Rattle.pairing_laws.proofs.RefinementExpansions.{finer, refinement_expansion, refinement_dual}
use Rattle.pairing_laws.proofs.Refinements.{signed_refinements, signed_refinements_same}

-- the complete function of a composition at a word
abbrev pub complete : List ℕ → List ℕ → ℤ
complete q w = pos (one_if (occurs NcsfS q w))

-- it is 0 at words of another length
pub complete_size : (q w : List ℕ) → length w ≢ sum q → complete q w ≡ pos 0
complete_size q w apart = ap (λ b. pos (one_if (b && is_subset (descents w) (descent_set q)))) (unequal (length w) (sum q) apart)
  where
    unequal : (x y : ℕ) → x ≢ y → nat_eq x y ≡ false
    unequal x y ne = grind (arith, nat_tests)

-- it is 1 where the composition is finer than the descent composition of the word or equal to it
complete_by_descents : (q w : List ℕ) → complete q w ≡ finer q (descent_composition w)
complete_by_descents q w = ap (λ b. pos (one_if b)) (occurs-complete q w)

-- a function of the descent composition of a word is a sum of complete functions
pub complete_expansion : (f : List ℕ → ℤ) (w : List ℕ) → f (descent_composition w) ≡ sum_over (λ q. signed_refinements q f *ℤ complete q w) (compositions (sum (descent_composition w)))
complete_expansion f w =
    refinement_expansion (descent_composition w) (IsComposition-descent_composition w) f
    ∙ sum_over_same _ _ (λ q. ap (λ z. signed_refinements q f *ℤ z) (sym (complete_by_descents q w))) (compositions (sum (descent_composition w)))

-- the signed sum over the refinements of J of a complete function is 1 for that of J, and else 0
pub complete_dual : (q : List ℕ) → IsComposition q → (j : List ℕ) → IsComposition j → signed_refinements j (λ i. complete q (word_of_composition i)) ≡ same q j
complete_dual q h j hj =
    signed_refinements_same j _ (finer q) (λ i hi. complete_by_descents q (word_of_composition i) ∙ ap (finer q) (descent_composition-word_of_composition i hi))
    ∙ refinement_dual q h j hj

-- how many pairs occur, as a sum
pairs_occur : (u v : List ℕ) (pairs : List (List ℕ × List ℕ)) → pos (at_pair NcsfS u v pairs) ≡ sum_over (λ (c : List ℕ × List ℕ). complete c.0 u *ℤ complete c.1 v) pairs
pairs_occur u v [] = refl
pairs_occur u v (c ∷ pairs) =
    omega (arith, ints, pairs_occur u v pairs, pos-*ℤ-pos (one_if (occurs NcsfS c.0 u)) (one_if (occurs NcsfS c.1 v)))

-- the coproduct at two words: each part is cut into two numbers, and those of 0 are left out
pub complete_cuts : (q : List ℕ) → IsComposition q → (u v : List ℕ) → IsPoint word u → IsPoint word v →
    over_ordinal_sum word (complete q) u v ≡ sum_over (λ (c : List ℕ × List ℕ). complete (without_zeros c.0) u *ℤ complete (without_zeros c.1) v) (exponent_cuts q)
unfolding one
complete_cuts q h u v hu hv =
    let whole : numerator (leaf (NcsfS ∷ NcsfS ∷ []) 1 (terms_of_pairs (part_cuts q))) (u ∷ v ∷ []) ≡ numerator (applied coproduct 0 (element NcsfS q)) (u ∷ v ∷ []) =
    sym (*ℤ-one (numerator (leaf (NcsfS ∷ NcsfS ∷ []) 1 (terms_of_pairs (part_cuts q))) (u ∷ v ∷ [])))
    ∙ complete_coproduct q h u v hu hv
    ∙ *ℤ-one (numerator (applied coproduct 0 (element NcsfS q)) (u ∷ v ∷ [])) in
    sym (coproduct_is word (element NcsfS q) refl u v ∙ (λ i. over_ordinal_sum word (λ w. element_is NcsfS q w i) u v))
    ∙ sym whole
    ∙ numerator-pairs NcsfS u v (part_cuts q)
    ∙ pairs_occur u v (part_cuts q)
    ∙ sum_over-map (λ (c : List ℕ × List ℕ). complete c.0 u *ℤ complete c.1 v) (λ (c : List ℕ × List ℕ). (without_zeros c.0, without_zeros c.1)) (exponent_cuts q)
