-- A coproduct rule is an equation between two counts.
use Rattle.std.proofs.Common.{◌≡◌, ℕ, ◌*◌, List, [], ◌∷◌, map, refl, sym, ◌∙◌, ap, arith}
use Rattle.std.proofs.Math.IntN.{pos, ◌*ℤ◌}
use Rattle.std.proofs.lemmas.Int.{ints}
use Rattle.basis_names.specs.declared.bases.BasisId.{BasisId}
use Rattle.realisations.specs.Lists.{one_if, int_sum, with_sign}
use Rattle.realisations.specs.Bases.{kind_of}
use Rattle.realisations.specs.Occurrence.{occurs}
use Rattle.realisations.specs.Points.{IsPoint}
use Rattle.realisations.specs.Readings.{leaf, element, numerator, on_ordinal_sum}
use Rattle.realisations.proofs.Sums.{sums}
use Rattle.coproduct_laws.specs.Coproducts.{terms_of_pairs, IsCoproduct}

-- how many pairs occur at two points
abbrev pub at_pair : BasisId → List ℕ → List ℕ → List (List ℕ × List ℕ) → ℕ
at_pair basis u v pairs = sums (λ e. one_if (occurs basis e.0 u) * one_if (occurs basis e.1 v)) pairs

-- at how many of some points an element occurs
abbrev pub at_points : BasisId → List ℕ → List (List ℕ) → ℕ
at_points basis code xs = sums (λ x. one_if (occurs basis code x)) xs

-- the tensors of pairs read as the number of pairs that occur
numerator-pairs : (basis : BasisId) (u v : List ℕ) (pairs : List (List ℕ × List ℕ))
    → numerator (leaf (basis ∷ basis ∷ []) 1 (terms_of_pairs pairs)) (u ∷ v ∷ []) ≡ pos (at_pair basis u v pairs)
numerator-pairs basis u v [] = refl
numerator-pairs basis u v (e ∷ pairs) = omega (arith, ints, numerator-pairs basis u v pairs)

-- the sum over points reads as the number of points at which the element occurs
numerator-points : (basis : BasisId) (code : List ℕ) (xs : List (List ℕ))
    → int_sum (map (λ (r : ℕ × List (List ℕ)). with_sign r.0 (numerator (element basis code) r.1)) (map (λ p. (0, p ∷ [])) xs)) ≡ pos (at_points basis code xs)
numerator-points basis code [] = refl
numerator-points basis code (x ∷ xs) = omega (arith, ints, numerator-points basis code xs)

-- so a rule is the coproduct where the number of on_ordinal_sum points at which the element occurs is the number of pairs that occur
pub coproduct_by_counts : (basis : BasisId) (code : List ℕ) (pairs : List (List ℕ × List ℕ))
    → ((u v : List ℕ) → IsPoint (kind_of basis) u → IsPoint (kind_of basis) v → at_points basis code (on_ordinal_sum (kind_of basis) u v) ≡ at_pair basis u v pairs)
    → IsCoproduct basis code pairs
coproduct_by_counts basis code pairs same u v hu hv =
    ap (λ z. z *ℤ pos 1) (numerator-pairs basis u v pairs ∙ ap pos (sym (same u v hu hv)) ∙ sym (numerator-points basis code (on_ordinal_sum (kind_of basis) u v)))
