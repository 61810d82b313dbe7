-- Pairings are symmetric.
use Rattle.std.proofs.Common.{◌≡◌, ℕ, ◌+◌, List, [], ◌∷◌, refl, sym, ◌∙◌, ap}
use Rattle.std.proofs.Math.IntN.{ℤ, ◌*ℤ◌, *ℤ_comm}
use Rattle.realisations.specs.Lists.{with_sign}
use Rattle.realisations.specs.Pairings.{Paired, permutations, up_to, paired_points, paired_tuples}
use Rattle.realisations.specs.Points.{Kind, exponents, word}
use Rattle.realisations.specs.Readings.{kinds_of, numerator}
use Rattle.realisations.specs.Standardisation.{inverse}
use Rattle.basis_representatives.proofs.Inverses.{inverse-inverse}
use Rattle.antipode_laws.proofs.IntegerSums.{sum_over, sum_over-map, sum_over_same}
use Rattle.pairing_laws.specs.Laws.{SymmetryLaw}
use Rattle.pairing_laws.proofs.PairedReadings.{next_component}
use Rattle.pairing_laws.proofs.PairingsWithExponents.{word_places, exponent_places}
use Rattle.pairing_laws.proofs.PermutationsOfSize.{IsPermutationUpTo, permutations_up_to}
use Rattle.pairing_laws.proofs.PermutationsOnce.{over_inverses}
use Rattle.antipode_laws.proofs.ReadAtPoints.{sum_over_every}

-- the places of one component, the other way round
points_turned : (n : ℕ) (f : Paired (List ℕ) → ℤ) (k l : Kind) → sum_over f (paired_points n k l) ≡ sum_over (λ (t : Paired (List ℕ)). f (t.0, t.2, t.1)) (paired_points n l k)
points_turned n f exponents exponents = refl
points_turned n f word exponents = word_places n f ∙ sym (exponent_places n (λ (t : Paired (List ℕ)). f (t.0, t.2, t.1)))
points_turned n f exponents word = exponent_places n f ∙ sym (word_places n (λ (t : Paired (List ℕ)). f (t.0, t.2, t.1)))
points_turned n f word word =
    sum_over-map f (λ s. (0, inverse s, s)) (up_to permutations n)
    ∙ sum_over_every (IsPermutationUpTo n) (λ s. f (0, inverse s, s)) (λ s. f (0, inverse s, inverse (inverse s))) (λ s p. ap (λ t. f (0, inverse s, t)) (sym (inverse-inverse s p.once))) (up_to permutations n) (permutations_up_to n)
    ∙ over_inverses n (λ s. f (0, s, inverse s))
    ∙ sym (sum_over-map (λ (t : Paired (List ℕ)). f (t.0, t.2, t.1)) (λ s. (0, inverse s, s)) (up_to permutations n))

-- the places of any components
tuples_turned : (n : ℕ) (f : Paired (List (List ℕ)) → ℤ) (ks ls : List Kind) → sum_over f (paired_tuples n ks ls) ≡ sum_over (λ (t : Paired (List (List ℕ))). f (t.0, t.2, t.1)) (paired_tuples n ls ks)
tuples_turned n f [] [] = refl
tuples_turned n f [] (l ∷ ls) = refl
tuples_turned n f (k ∷ ks) [] = refl
tuples_turned n f (k ∷ ks) (l ∷ ls) =
    next_component n f k l ks ls
    ∙ sum_over_same _ _ (λ (t : Paired (List ℕ)). tuples_turned n (λ (u : Paired (List (List ℕ))). f (t.0 + u.0, t.1 ∷ u.1, t.2 ∷ u.2)) ks ls) (paired_points n k l)
    ∙ points_turned n (λ (t : Paired (List ℕ)). sum_over (λ (u : Paired (List (List ℕ))). f (t.0 + u.0, t.1 ∷ u.2, t.2 ∷ u.1)) (paired_tuples n ls ks)) k l
    ∙ sym (next_component n (λ (t : Paired (List (List ℕ))). f (t.0, t.2, t.1)) l k ls ks)

-- the law
pub pairing_symmetric : SymmetryLaw
pairing_symmetric n a b =
    tuples_turned n (λ (t : Paired (List (List ℕ))). with_sign t.0 (numerator a t.1 *ℤ numerator b t.2)) (kinds_of a) (kinds_of b)
    ∙ sum_over_same _ _ (λ (t : Paired (List (List ℕ))). ap (with_sign t.0) (*ℤ_comm (numerator a t.2) (numerator b t.1))) (paired_tuples n (kinds_of b) (kinds_of a))
