-- What the terms of pairs and the coproduct of an element read as, by counts.
use Rattle.std.proofs.Common.{◌≡◌, ℕ, List, [], ◌∷◌, map, refl, arith}
use Rattle.std.proofs.Math.IntN.{pos}
use Rattle.std.proofs.lemmas.Int.{ints}
use Rattle.realisations.specs.Lists.{int_sum, with_sign}
use Rattle.basis_names.specs.declared.bases.BasisId.{BasisId}
use Rattle.realisations.specs.Bases.{kind_of}
use Rattle.realisations.specs.Readings.{leaf, applied, coproduct, element, numerator, on_ordinal_sum}
use Rattle.coproduct_laws.specs.Coproducts.{terms_of_pairs}
use Rattle.coproduct_laws.proofs.CoproductCounts.{at_pair, at_points}

-- the tensors of pairs read as the number of pairs that occur
pub numerator-pairs : (basis : BasisId) (u v : List ℕ) (pairs : List (List ℕ × List ℕ))
    → numerator (leaf (basis ∷ basis ∷ []) 1 (terms_of_pairs pairs)) (u ∷ v ∷ []) ≡ pos (at_pair basis u v pairs)
numerator-pairs basis u v [] = refl
numerator-pairs basis u v (e ∷ pairs) =
    omega (arith, ints, numerator-pairs basis u v pairs)

-- the sum over points reads as the number of points at which the element occurs
numerator-points : (basis : BasisId) (code : List ℕ) (xs : List (List ℕ))
    → int_sum (map (λ (r : ℕ × List (List ℕ)). with_sign r.0 (numerator (element basis code) r.1)) (map (λ p. (0, p ∷ [])) xs)) ≡ pos (at_points basis code xs)
numerator-points basis code [] = refl
numerator-points basis code (x ∷ xs) = omega (arith, ints, numerator-points basis code xs)

-- the coproduct of an element reads as the number of on_ordinal_sum points at which it occurs
pub numerator-coproduct : (basis : BasisId) (code u v : List ℕ)
    → numerator (applied coproduct 0 (element basis code)) (u ∷ v ∷ []) ≡ pos (at_points basis code (on_ordinal_sum (kind_of basis) u v))
numerator-coproduct basis code u v = numerator-points basis code (on_ordinal_sum (kind_of basis) u v)
