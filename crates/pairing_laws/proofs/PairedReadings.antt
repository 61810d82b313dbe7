-- Pairings of readings of rank 1 and 2, as sums over points of one component.
use Rattle.std.proofs.Common.{◌≡◌, ℕ, ◌+◌, List, [], ◌∷◌, ◌++◌, map, length, take, drop, ◌∙◌, ap, arith}
use Rattle.std.proofs.Math.IntN.{ℤ, ◌*ℤ◌}
use Rattle.realisations.specs.Lists.{with_sign}
use Rattle.realisations.specs.Pairings.{Paired, paired_points, paired_tuples}
use Rattle.realisations.specs.Points.{Kind}
use Rattle.realisations.specs.Readings.{Reading, applied, tensor, pairing, coproduct, kinds_of, kinds_after_at, numerator}
use Rattle.antipode_laws.proofs.IntegerSums.{one_value}
use Rattle.antipode_laws.proofs.IntegerSums.{sum_over, sum_over-map, sum_over-flat_map, sum_over_same}

-- the sum over the places of tuples, component by component
pub next_component : (n : ℕ) (f : Paired (List (List ℕ)) → ℤ) (k l : Kind) (ks ls : List Kind) →
    sum_over f (paired_tuples n (k ∷ ks) (l ∷ ls))
    ≡ sum_over (λ (t : Paired (List ℕ)). sum_over (λ (u : Paired (List (List ℕ))). f (t.0 + u.0, t.1 ∷ u.1, t.2 ∷ u.2)) (paired_tuples n ks ls)) (paired_points n k l)
next_component n f k l ks ls =
    sum_over-flat_map f (λ (t : Paired (List ℕ)). map (λ (u : Paired (List (List ℕ))). (t.0 + u.0, t.1 ∷ u.1, t.2 ∷ u.2)) (paired_tuples n ks ls)) (paired_points n k l)
    ∙ sum_over_same _ _ (λ (t : Paired (List ℕ)). sum_over-map f (λ (u : Paired (List (List ℕ))). (t.0 + u.0, t.1 ∷ u.1, t.2 ∷ u.2)) (paired_tuples n ks ls)) (paired_points n k l)

-- of tuples of one point
one_component : (n : ℕ) (f : Paired (List (List ℕ)) → ℤ) (k l : Kind) →
    sum_over f (paired_tuples n (k ∷ []) (l ∷ [])) ≡ sum_over (λ (t : Paired (List ℕ)). f (t.0 + 0, t.1 ∷ [], t.2 ∷ [])) (paired_points n k l)
one_component n f k l =
    next_component n f k l [] []
    ∙ sum_over_same _ _ (λ (t : Paired (List ℕ)). one_value (λ (u : Paired (List (List ℕ))). f (t.0 + u.0, t.1 ∷ u.1, t.2 ∷ u.2)) (0, [], [])) (paired_points n k l)

-- the term of a place
abbrev pair_term : Reading → Reading → Paired (List (List ℕ)) → ℤ
pair_term a b t = with_sign t.0 (numerator a t.1 *ℤ numerator b t.2)

module _ (n : ℕ) (a b : Reading) where
  -- the pairing of readings of rank 1
  pub pairing_of_one : (k l : Kind) → kinds_of a ≡ k ∷ [] → kinds_of b ≡ l ∷ [] →
      numerator (pairing n a b) [] ≡ sum_over (λ (t : Paired (List ℕ)). with_sign t.0 (numerator a (t.1 ∷ []) *ℤ numerator b (t.2 ∷ []))) (paired_points n k l)
  pairing_of_one k l ka kb =
      (λ i. sum_over (pair_term a b) (paired_tuples n (ka i) (kb i)))
      ∙ one_component n (pair_term a b) k l
      ∙ sum_over_same _ _
      (λ (t : Paired (List ℕ)).
      let none : t.0 + 0 ≡ t.0 = omega arith in
      ap (λ m. with_sign m (numerator a (t.1 ∷ []) *ℤ numerator b (t.2 ∷ []))) none)
      (paired_points n k l)

  -- the pairing of readings of rank 2
  pub pairing_of_two : (k l k' l' : Kind) → kinds_of a ≡ k ∷ k' ∷ [] → kinds_of b ≡ l ∷ l' ∷ [] →
      numerator (pairing n a b) []
      ≡ sum_over (λ (t : Paired (List ℕ)). sum_over (λ (u : Paired (List ℕ)). with_sign (t.0 + u.0) (numerator a (t.1 ∷ u.1 ∷ []) *ℤ numerator b (t.2 ∷ u.2 ∷ []))) (paired_points n k' l')) (paired_points n k l)
  pairing_of_two k l k' l' ka kb =
      (λ i. sum_over (pair_term a b) (paired_tuples n (ka i) (kb i)))
      ∙ next_component n (pair_term a b) k l (k' ∷ []) (l' ∷ [])
      ∙ sum_over_same _ _
      (λ (t : Paired (List ℕ)).
      one_component n (λ (u : Paired (List (List ℕ))). pair_term a b (t.0 + u.0, t.1 ∷ u.1, t.2 ∷ u.2)) k' l'
      ∙ sum_over_same _ _
      (λ (u : Paired (List ℕ)).
      let none : t.0 + (u.0 + 0) ≡ t.0 + u.0 = omega arith in
      ap (λ m. with_sign m (numerator a (t.1 ∷ u.1 ∷ []) *ℤ numerator b (t.2 ∷ u.2 ∷ []))) none)
      (paired_points n k' l'))
      (paired_points n k l)

-- a tensor of readings of rank 1 at two points
pub tensor_is : (a b : Reading) (k : Kind) → kinds_of a ≡ k ∷ [] → (u v : List ℕ) →
    numerator (tensor a b) (u ∷ v ∷ []) ≡ numerator a (u ∷ []) *ℤ numerator b (v ∷ [])
tensor_is a b k ka u v =
    ap (λ (ks : List Kind). numerator a (take (length ks) (u ∷ v ∷ [])) *ℤ numerator b (drop (length ks) (u ∷ v ∷ []))) ka

pub kinds_of_tensor : (a b : Reading) (k l : Kind) → kinds_of a ≡ k ∷ [] → kinds_of b ≡ l ∷ [] → kinds_of (tensor a b) ≡ k ∷ l ∷ []
kinds_of_tensor a b k l ka kb = λ i. ka i ++ kb i

pub kinds_of_coproduct : (g : Reading) (k : Kind) → kinds_of g ≡ k ∷ [] → kinds_of (applied coproduct 0 g) ≡ k ∷ k ∷ []
kinds_of_coproduct g k kg = ap (λ (ks : List Kind). kinds_after_at 0 coproduct ks) kg
