-- Products and coproducts of readings of words are adjoint under the pairing of words with words.
use Rattle.std.proofs.Common.{◌≡◌, ℕ, ◌+◌, List, [], ◌∷◌, sym, ◌∙◌, ap}
use Rattle.std.proofs.Math.IntN.{◌*ℤ◌}
use Rattle.realisations.specs.Lists.{with_sign}
use Rattle.realisations.specs.Pairings.{Paired, permutations, up_to}
use Rattle.realisations.specs.Points.{word}
use Rattle.realisations.specs.Standardisation.{inverse, standardise}
use Rattle.realisations.specs.Readings.{Reading, applied, product, tensor, pairing, coproduct, kinds_of, numerator}
use Rattle.pairing_laws.specs.Adjoints.{AreAdjoint}
use Rattle.pairing_laws.specs.Sight.{Sees, IsUpTo}
use Rattle.antipode_laws.proofs.IntegerSums.{sum_over, sum_over-map, sum_over_same}
use Rattle.antipode_laws.proofs.RankOneReadings.{coproduct_is, product_is}
use Rattle.pairing_laws.proofs.PairedReadings.{pairing_of_one, pairing_of_two, tensor_is, kinds_of_tensor, kinds_of_coproduct}
use Rattle.pairing_laws.proofs.WordAdjointness.{adjoint_on_words}

-- the pairing of words, over the permutations
pub pairing_of_words : (n : ℕ) (a g : Reading) → kinds_of a ≡ word ∷ [] → kinds_of g ≡ word ∷ [] →
    numerator (pairing n a g) [] ≡ sum_over (λ s. numerator a (inverse s ∷ []) *ℤ numerator g (s ∷ [])) (up_to permutations n)
pairing_of_words n a g ka kg =
    pairing_of_one n a g word word ka kg
    ∙ sum_over-map (λ (t : Paired (List ℕ)). with_sign t.0 (numerator a (t.1 ∷ []) *ℤ numerator g (t.2 ∷ []))) (λ s. (0, inverse s, s)) (up_to permutations n)

-- of pairs of words, over the pairs of permutations
pub pairing_of_word_pairs : (n : ℕ) (a g : Reading) → kinds_of a ≡ word ∷ word ∷ [] → kinds_of g ≡ word ∷ word ∷ [] →
    numerator (pairing n a g) []
    ≡ sum_over (λ s. sum_over (λ t. numerator a (inverse s ∷ inverse t ∷ []) *ℤ numerator g (s ∷ t ∷ [])) (up_to permutations n)) (up_to permutations n)
pairing_of_word_pairs n a g ka kg =
    pairing_of_two n a g word word word word ka kg
    ∙ sum_over-map _ (λ s. (0, inverse s, s)) (up_to permutations n)
    ∙ sum_over_same _ _
    (λ s. sum_over-map (λ (u : Paired (List ℕ)). with_sign (0 + u.0) (numerator a (inverse s ∷ u.1 ∷ []) *ℤ numerator g (s ∷ u.2 ∷ []))) (λ t. (0, inverse t, t)) (up_to permutations n))
    (up_to permutations n)

-- the law
pub word_adjointness : (n : ℕ) (a b g : Reading) → Sees word (λ w. standardise w) a → Sees word (λ w. standardise w) b → IsUpTo n word g → AreAdjoint n a b g
word_adjointness n a b g sa sb sg =
    pairing_of_words n (product a b) g sa.kinds sg.kinds
    ∙ sum_over_same _ _ (λ s. ap (λ z. z *ℤ numerator g (s ∷ [])) (product_is word a sa.kinds b (inverse s))) (up_to permutations n)
    ∙ adjoint_on_words (λ u. numerator a (u ∷ [])) (λ u. numerator b (u ∷ [])) (λ u. numerator g (u ∷ [])) sa.same sb.same n sg.past
    ∙ sum_over_same _ _
    (λ s. sum_over_same _ _
    (λ t.
    let factors = tensor_is a b word sa.kinds (inverse s) (inverse t) in
    let copy = coproduct_is word g sg.kinds s t in
    λ i. sym factors i *ℤ sym copy i)
    (up_to permutations n))
    (up_to permutations n)
    ∙ sym (pairing_of_word_pairs n (tensor a b) (applied coproduct 0 g) (kinds_of_tensor a b word word sa.kinds sb.kinds) (kinds_of_coproduct g word sg.kinds))
