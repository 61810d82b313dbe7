-- The pairing with an element of FQSym, of S of NCSF or of F of QSym is what the other reading is at a representative.
use Rattle.std.proofs.Common.{◌≡◌, ◌≢◌, ℕ, ◌≤◌, false, List, [], ◌∷◌, refl, sym, ◌∙◌, ap, arith}
use Rattle.std.proofs.Math.IntN.{ℤ, pos, ◌*ℤ◌, *ℤ-zero}
use Rattle.std.specs.List.{sum}
use Rattle.std.specs.Prelude.{nat_eq, ◌&&◌}
use Rattle.std.proofs.lemmas.Bool.Decides.{nat_tests}
use Rattle.basis_names.specs.declared.bases.BasisId.{BasisId}
use Rattle.basis_names.specs.declared.bases.BasisId.TheVariants.{QsymM, QsymF, NcsfS, NcsfR, FqsymF, FqsymG}
use Rattle.realisations.specs.Bases.{kind_of, representative, representatives}
use Rattle.realisations.specs.Codes.{Code, Key}
use Rattle.realisations.specs.Descents.{descent_set, word_of_composition}
use Rattle.realisations.specs.Indices.{IsIndex, AreIndices, degree_of, total_degree}
use Rattle.realisations.specs.Lists.{is_subset, same_list, one_if}
use Rattle.realisations.specs.Pairings.{permutations, compositions, up_to}
use Rattle.realisations.specs.Readings.{Reading, pairing, kinds_of, numerator, element, of_key}
use Rattle.realisations.specs.Standardisation.{inverse}
use Rattle.basis_representatives.proofs.BasesOfCompositions.{fundamental_at-representative}
use Rattle.basis_representatives.proofs.ClassesOfWords.{inverse-standardise-inverse}
use Rattle.basis_representatives.proofs.Inverses.{permutation-inverse}
use Rattle.basis_representatives.proofs.Permutations.{HasEachOnce, each_once, standardise-permutation}
use Rattle.basis_representatives.proofs.SameLists.{same_list-sym}
use Rattle.antipode_laws.proofs.IntegerSums.{sum_over, sum_over-zero}
use Rattle.antipode_laws.proofs.RankOneReadings.{element_is}
use Rattle.antipode_laws.proofs.WeighedKeys.{weighed_same_keys}
use Rattle.pairing_laws.specs.Duals.{Evaluates, EvaluationLaw}
use Rattle.pairing_laws.proofs.Bilinearity.{linear_left}
use Rattle.pairing_laws.proofs.CompleteElements.{complete_dual}
use Rattle.pairing_laws.proofs.EachOnce.{IsCompositionUpTo, compositions_up_to_size, same, only_composition}
use Rattle.pairing_laws.proofs.PairingsWithExponents.{pairing_exponents_word, pairing_word_exponents}
use Rattle.pairing_laws.proofs.PermutationsOfSize.{IsPermutationUpTo, permutations_up_to}
use Rattle.pairing_laws.proofs.PermutationsOnce.{only_permutation, inverted, same_inverse}
use Rattle.pairing_laws.proofs.RefinementExpansions.{finer, refinement_expansion}
use Rattle.pairing_laws.proofs.Refinements.{signed_refinements}
use Rattle.pairing_laws.proofs.TriangleSums.{sum_to-up_to, sum_to_only}
use Rattle.pairing_laws.proofs.CompositionsOfSize.{IsCompositionOf, compositions_of_size}
use Rattle.antipode_laws.proofs.ReadAtPoints.{sum_over_every}
use Rattle.pairing_laws.proofs.WordAdjointnessLaw.{pairing_of_words}

-- of the compositions of sizes up to n only those of its own size are finer than a composition
finer_up_to : (n : ℕ) (parts : List ℕ) → sum parts ≤ n → (f : List ℕ → ℤ) → sum_over (λ j. f j *ℤ finer j parts) (up_to compositions n) ≡ sum_over (λ j. f j *ℤ finer j parts) (compositions (sum parts))
finer_up_to n parts d f =
    sum_to-up_to (λ j. f j *ℤ finer j parts) compositions n
    ∙ sum_to_only n (sum parts) (λ k. sum_over (λ j. f j *ℤ finer j parts) (compositions k)) d
    (λ k apart.
    sum_over_every (IsCompositionOf k) (λ j. f j *ℤ finer j parts) (λ j. pos 0)
    (λ j is. ap (λ b. f j *ℤ pos (one_if (b && is_subset (descent_set parts) (descent_set j)))) (unequal (sum j) (sum parts) (λ e. apart (sym is.size ∙ e))) ∙ *ℤ-zero (f j))
    (compositions k) (compositions_of_size k)
    ∙ sum_over-zero (compositions k))
  where
    unequal : (x y : ℕ) → x ≢ y → nat_eq x y ≡ false
    unequal x y ne = grind (arith, nat_tests)

-- from elements to combinations
combined : (basis dual : BasisId)
    → ((n : ℕ) (index : Code) (a : Reading) → IsIndex basis index → degree_of basis index ≤ n → kinds_of a ≡ kind_of dual ∷ [] → numerator (pairing n (element basis index) a) [] ≡ numerator a (representative dual index ∷ []))
    → Evaluates basis dual
combined basis dual elements = record {
  elements = elements;
  combinations = λ n den ts a within kinds.
      linear_left n (basis ∷ []) den ts a
      ∙ weighed_same_keys (λ key. numerator (pairing n (of_key (basis ∷ []) key) a) []) (λ key. numerator a (representatives (dual ∷ []) key)) ts
      (λ key has. at_key n a kinds key (within.indices key has) (within.degrees key has));
}
  where
    at_key : (n : ℕ) (a : Reading) → kinds_of a ≡ kind_of dual ∷ [] → (key : Key) → AreIndices (basis ∷ []) key → total_degree (basis ∷ []) key ≤ n →
        numerator (pairing n (of_key (basis ∷ []) key) a) [] ≡ numerator a (representatives (dual ∷ []) key)
    at_key n a kinds [] h d = absurd h
    at_key n a kinds (code ∷ c ∷ key) h d = absurd h.1
    at_key n a kinds (code ∷ []) h d = elements n code a h.0 (omega (arith, d)) kinds

-- F of a permutation at the inverse of another is 1 where both are the same
f_at_inverse : (s t : List ℕ) → HasEachOnce t → numerator (element FqsymF s) (inverse t ∷ []) ≡ same s t
f_at_inverse s t h = element_is FqsymF s (inverse t) ∙ ap (λ u. pos (one_if (same_list u s))) (inverse-standardise-inverse t h) ∙ ap (λ b. pos (one_if b)) (same_list-sym t s)

-- and G of one there is 1 where the other is its inverse
g_at_inverse : (s t : List ℕ) → HasEachOnce s → HasEachOnce t → numerator (element FqsymG s) (inverse t ∷ []) ≡ same (inverse s) t
g_at_inverse s t hs ht =
    element_is FqsymG s (inverse t)
    ∙ ap (λ u. pos (one_if (same_list u s))) (standardise-permutation (inverse t) (permutation-inverse t ht))
    ∙ ap (λ b. pos (one_if b)) (same_list-sym (inverse t) s ∙ sym (same_inverse s t hs ht))

-- with F of FQSym
evaluates_f : Evaluates FqsymF FqsymG
evaluates_f = combined FqsymF FqsymG (λ n s a h d kinds.
    pairing_of_words n (element FqsymF s) a refl kinds
    ∙ sum_over_every (IsPermutationUpTo n) _ (λ t. same s t *ℤ numerator a (t ∷ [])) (λ t p. ap (λ z. z *ℤ numerator a (t ∷ [])) (f_at_inverse s t p.once)) (up_to permutations n) (permutations_up_to n)
    ∙ only_permutation n s (record { once = each_once s h; size = d }) (λ t. numerator a (t ∷ [])))

-- with G of FQSym
evaluates_g : Evaluates FqsymG FqsymF
evaluates_g = combined FqsymG FqsymF (λ n s a h d kinds.
    pairing_of_words n (element FqsymG s) a refl kinds
    ∙ sum_over_every (IsPermutationUpTo n) _ (λ t. same (inverse s) t *ℤ numerator a (t ∷ [])) (λ t p. ap (λ z. z *ℤ numerator a (t ∷ [])) (g_at_inverse s t (each_once s h) p.once)) (up_to permutations n) (permutations_up_to n)
    ∙ only_permutation n (inverse s) (inverted n s (record { once = each_once s h; size = d })) (λ t. numerator a (t ∷ [])))

-- with S of NCSF
evaluates_s : Evaluates NcsfS QsymM
evaluates_s = combined NcsfS QsymM (λ n parts a h d kinds.
    pairing_word_exponents n (element NcsfS parts) a refl kinds
    ∙ sum_over_every (IsCompositionUpTo n) _ (λ j. same parts j *ℤ numerator a (j ∷ []))
    (λ j p. ap (λ z. z *ℤ numerator a (j ∷ [])) ((λ i. signed_refinements j (λ k. element_is NcsfS parts (word_of_composition k) i)) ∙ complete_dual parts h j p.composition))
    (up_to compositions n) (compositions_up_to_size n)
    ∙ only_composition n parts (record { composition = h; size = d }) (λ j. numerator a (j ∷ [])))

-- with F of QSym
evaluates_qsym_f : Evaluates QsymF NcsfR
evaluates_qsym_f = combined QsymF NcsfR (λ n parts a h d kinds.
    pairing_exponents_word n a (element QsymF parts) refl kinds
    ∙ sum_over_every (IsCompositionUpTo n) _ (λ j. signed_refinements j (λ i. numerator a (word_of_composition i ∷ [])) *ℤ finer j parts)
    (λ j p. ap (λ z. signed_refinements j (λ i. numerator a (word_of_composition i ∷ [])) *ℤ z) (element_is QsymF parts j ∙ ap (λ b. pos (one_if b)) (fundamental_at-representative parts j p.composition)))
    (up_to compositions n) (compositions_up_to_size n)
    ∙ finer_up_to n parts d (λ j. signed_refinements j (λ i. numerator a (word_of_composition i ∷ [])))
    ∙ sym (refinement_expansion parts h (λ i. numerator a (word_of_composition i ∷ []))))

-- the law
pub evaluations : EvaluationLaw
evaluations = record { fqsym_f = evaluates_f; fqsym_g = evaluates_g; ncsf_s = evaluates_s; qsym_f = evaluates_qsym_f }
