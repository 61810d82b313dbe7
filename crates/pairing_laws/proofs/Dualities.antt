-- Dual bases of the pairings.
use Rattle.std.proofs.Common.{◌≡◌, ℕ, ◌≤◌, [], ◌∷◌, refl, ◌∙◌, ap, arith}
use Rattle.std.proofs.Math.IntN.{pos}
use Rattle.basis_names.specs.declared.bases.BasisId.{BasisId}
use Rattle.basis_names.specs.declared.bases.BasisId.TheVariants.{QsymM, QsymF, NcsfS, NcsfR, FqsymF, FqsymG}
use Rattle.realisations.specs.Bases.{representative}
use Rattle.realisations.specs.Codes.{Code, Key}
use Rattle.realisations.specs.Indices.{IsIndex, AreIndices, degree_of, total_degree}
use Rattle.realisations.specs.Lists.{same_list, one_if}
use Rattle.realisations.specs.Readings.{pairing, numerator, element, of_key}
use Rattle.realisations.specs.Standardisation.{inverse}
use Rattle.basis_representatives.specs.Laws.{AreClasses}
use Rattle.basis_representatives.proofs.AllRepresentatives.{class_laws}
use Rattle.basis_representatives.proofs.Inverses.{permutation-inverse}
use Rattle.basis_representatives.proofs.Permutations.{each_once, standardise-permutation}
use Rattle.basis_representatives.proofs.SameLists.{same_list-sym}
use Rattle.antipode_laws.proofs.RankOneReadings.{element_is}
use Rattle.antipode_laws.proofs.WeighedKeys.{weighed_same_keys}
use Rattle.antipode_laws.specs.Recursion.{first_code}
use Rattle.pairing_laws.specs.Duals.{Evaluates, PairsBy, DualityLaw}
use Rattle.pairing_laws.proofs.Bilinearity.{pairing_bilinear}
use Rattle.pairing_laws.proofs.Evaluations.{evaluations}
use Rattle.pairing_laws.proofs.Symmetry.{pairing_symmetric}

-- elements of two bases, paired by their indices
abbrev ElementsBy : (Code → Code) → BasisId → BasisId → Type 0
ElementsBy turned left right = (n : ℕ) (i j : Code) → IsIndex left i → IsIndex right j → degree_of left i ≤ n → degree_of right j ≤ n →
    numerator (pairing n (element left i) (element right j)) [] ≡ pos (one_if (same_list (turned i) j))

-- from elements to combinations
paired : (turned : Code → Code) (left right : BasisId) → ElementsBy turned left right → PairsBy turned left right
paired turned left right elements = record {
  elements = elements;
  combinations = λ n d e ts us within within'.
      pairing_bilinear.both n (left ∷ []) (right ∷ []) d e ts us
      ∙ weighed_same_keys _ _ ts
      (λ key has. weighed_same_keys (λ key'. numerator (pairing n (of_key (left ∷ []) key) (of_key (right ∷ []) key')) []) (λ key'. pos (one_if (same_list (turned (first_code key)) (first_code key')))) us
      (λ key' has'. at_keys n key key' (within.indices key has) (within.degrees key has) (within'.indices key' has') (within'.degrees key' has')));
}
  where
    at_keys : (n : ℕ) (key key' : Key) → AreIndices (left ∷ []) key → total_degree (left ∷ []) key ≤ n → AreIndices (right ∷ []) key' → total_degree (right ∷ []) key' ≤ n →
        numerator (pairing n (of_key (left ∷ []) key) (of_key (right ∷ []) key')) [] ≡ pos (one_if (same_list (turned (first_code key)) (first_code key')))
    at_keys n [] key' h d h' d' = absurd h
    at_keys n (i ∷ c ∷ key) key' h d h' d' = absurd h.1
    at_keys n (i ∷ []) [] h d h' d' = absurd h'
    at_keys n (i ∷ []) (j ∷ c ∷ key') h d h' d' = absurd h'.1
    at_keys n (i ∷ []) (j ∷ []) h d h' d' = elements n i j h.0 h'.0 (omega (arith, d)) (omega (arith, d'))

-- where one basis reads the representatives of the other, which is a class basis with the same indices
dual_elements : (basis dual : BasisId) → Evaluates basis dual → AreClasses dual → ((i : Code) → IsIndex basis i → IsIndex dual i) → ElementsBy (λ i. i) basis dual
dual_elements basis dual evaluates classes index n i j hi hj di dj =
    evaluates.elements n i (element dual j) hi di refl
    ∙ element_is dual j (representative dual i)
    ∙ ap (λ b. pos (one_if b)) (classes i (index i hi) j hj)

-- the other way round
turned_elements : (left right : BasisId) → ElementsBy (λ i. i) left right → ElementsBy (λ i. i) right left
turned_elements left right elements n i j hi hj di dj =
    pairing_symmetric n (element right i) (element left j)
    ∙ elements n j i hj hi dj di
    ∙ ap (λ b. pos (one_if b)) (same_list-sym j i)

s_m : ElementsBy (λ i. i) NcsfS QsymM
s_m = dual_elements NcsfS QsymM evaluations.ncsf_s class_laws.monomial (λ i h. h)

f_r : ElementsBy (λ i. i) QsymF NcsfR
f_r = dual_elements QsymF NcsfR evaluations.qsym_f class_laws.ribbons (λ i h. h)

-- F with F, and G with G, by inverses
f_f : ElementsBy (λ s. inverse s) FqsymF FqsymF
f_f n i j hi hj di dj =
    evaluations.fqsym_f.elements n i (element FqsymF j) hi di refl
    ∙ element_is FqsymF j i
    ∙ ap (λ s. pos (one_if (same_list (inverse s) j))) (standardise-permutation i (each_once i hi))

g_g : ElementsBy (λ s. inverse s) FqsymG FqsymG
g_g n i j hi hj di dj =
    evaluations.fqsym_g.elements n i (element FqsymG j) hi di refl
    ∙ element_is FqsymG j (inverse i)
    ∙ ap (λ s. pos (one_if (same_list s j))) (standardise-permutation (inverse i) (permutation-inverse i (each_once i hi)))

-- the law
pub dualities : DualityLaw
dualities = record {
  fqsym_f_g = paired (λ i. i) FqsymF FqsymG (dual_elements FqsymF FqsymG evaluations.fqsym_f class_laws.by_inverses (λ i h. h));
  fqsym_g_f = paired (λ i. i) FqsymG FqsymF (dual_elements FqsymG FqsymF evaluations.fqsym_g class_laws.fundamental (λ i h. h));
  ncsf_s_m = paired (λ i. i) NcsfS QsymM s_m;
  qsym_m_s = paired (λ i. i) QsymM NcsfS (turned_elements NcsfS QsymM s_m);
  ncsf_r_f = paired (λ i. i) NcsfR QsymF (turned_elements QsymF NcsfR f_r);
  qsym_f_r = paired (λ i. i) QsymF NcsfR f_r;
  fqsym_f_f = paired (λ s. inverse s) FqsymF FqsymF f_f;
  fqsym_g_g = paired (λ s. inverse s) FqsymG FqsymG g_g;
}
