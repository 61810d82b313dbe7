-- Sizes past the degrees of a reading add nothing to a pairing.
use Rattle.std.proofs.Common.{◌≡◌, ℕ, zero, suc, ◌+◌, ◌-◌, ◌≤◌, Bool, true, false, List, [], ◌∷◌, length, refl, sym, ◌∙◌, ap, arith}
use Rattle.std.specs.List.{AllByRecursion, filter, sum}
use Rattle.std.specs.Prelude.{if◌then◌else◌}
use Rattle.std.proofs.Math.IntN.{ℤ, pos, ◌*ℤ◌, *ℤ-zero}
use Rattle.std.proofs.lemmas.Int.{ints}
use Rattle.realisations.specs.Descents.{is_finer, word_of_composition}
use Rattle.realisations.specs.IndexKinds.{IsComposition}
use Rattle.realisations.specs.Lists.{with_sign}
use Rattle.realisations.specs.Pairings.{Paired, permutations, compositions, refinements, up_to, paired_points}
use Rattle.realisations.specs.Points.{Kind, exponents, word}
use Rattle.realisations.specs.Readings.{Reading, numerator}
use Rattle.realisations.specs.Standardisation.{inverse}
use Rattle.realisations.proofs.DescentCompositions.{descends}
use Rattle.basis_representatives.proofs.BlockWords.{descent_composition-word_of_composition}
use Rattle.antipode_laws.proofs.IntegerSums.{sum_over, sum_over-append, sum_over-map, sum_over-zero, with_sign-zero}
use Rattle.pairing_laws.specs.Laws.{SizeLaw}
use Rattle.pairing_laws.specs.Sight.{IsUpTo}
use Rattle.pairing_laws.proofs.CompositionsOfSize.{IsCompositionOf, compositions_of_size}
use Rattle.pairing_laws.proofs.PairedReadings.{pairing_of_one}
use Rattle.pairing_laws.proofs.PairingsWithExponents.{word_places, exponent_places}
use Rattle.pairing_laws.proofs.PermutationsOfSize.{IsPermutationOf, each_permutation}
use Rattle.antipode_laws.proofs.ReadAtPoints.{sum_over_every}

-- a sum over a list in which nothing counts
none_counts : {X : Type 0} (P : X → Type 0) (f : X → ℤ) → ((x : X) → P x → f x ≡ pos 0) → (xs : List X) → AllByRecursion P xs → sum_over f xs ≡ pos 0
none_counts P f none xs h = sum_over_every P f (λ x. pos 0) none xs h ∙ sum_over-zero xs

-- what the elements of a list have, those that pass a test have
every-filter : {X : Type 0} (P : X → Type 0) (test : X → Bool) (xs : List X) → AllByRecursion P xs → AllByRecursion P (filter test xs)
every-filter P test [] h = tt
every-filter P test (x ∷ xs) h = by_test (test x) (every-filter P test xs h.1)
  where
    by_test : (b : Bool) → AllByRecursion P (filter test xs) → AllByRecursion P (if b then x ∷ filter test xs else filter test xs)
    by_test true rest = (h.0, rest)
    by_test false rest = rest

-- one size more, at which nothing counts
one_more : (family : ℕ → List (List ℕ)) (f : List ℕ → ℤ) (m : ℕ) → sum_over f (family (suc m)) ≡ pos 0 → sum_over f (up_to family (suc m)) ≡ sum_over f (up_to family m)
one_more family f m none = omega (arith, ints, sum_over-append f (up_to family m) (family (suc m)), none)

-- the word of a composition is as long as its sum
length-word : (j : List ℕ) → IsComposition j → length (word_of_composition j) ≡ sum j
length-word j h = sym (descends (word_of_composition j)).0 ∙ ap sum (descent_composition-word_of_composition j h)

module _ (n : ℕ) (kind' : Kind) (a b : Reading) (up : IsUpTo n kind' b) where
  -- what a place counts
  abbrev term : Paired (List ℕ) → ℤ
  term t = with_sign t.0 (numerator a (t.1 ∷ []) *ℤ numerator b (t.2 ∷ []))

  -- nothing where the second reading is 0
  no_term : (t : Paired (List ℕ)) → numerator b (t.2 ∷ []) ≡ pos 0 → term t ≡ pos 0
  no_term t e = ap (λ z. with_sign t.0 (numerator a (t.1 ∷ []) *ℤ z)) e ∙ ap (with_sign t.0) (*ℤ-zero (numerator a (t.1 ∷ []))) ∙ with_sign-zero t.0

-- the places of one size more
points_more : (n m : ℕ) (kind kind' : Kind) (a b : Reading) (up : IsUpTo n kind' b) → n ≤ m →
    sum_over (term n kind' a b up) (paired_points (suc m) kind kind') ≡ sum_over (term n kind' a b up) (paired_points m kind kind')
points_more n m exponents exponents a b up le = refl
points_more n m word word a b up le =
    let f : List ℕ → ℤ = λ s. term n word a b up (0, inverse s, s) in
    sum_over-map (term n word a b up) (λ s. (0, inverse s, s)) (up_to permutations (suc m))
    ∙ one_more permutations f m
    (none_counts (IsPermutationOf (suc m)) f (λ s p. no_term n word a b up (0, inverse s, s) (up.past s (omega (arith, p.size, le)))) (permutations (suc m)) (each_permutation (suc m)))
    ∙ sym (sum_over-map (term n word a b up) (λ s. (0, inverse s, s)) (up_to permutations m))
points_more n m word exponents a b up le =
    let f : List ℕ → ℤ = λ j. sum_over (λ i. term n exponents a b up (length i - length j, word_of_composition i, j)) (refinements j) in
    word_places (suc m) (term n exponents a b up)
    ∙ one_more compositions f m
    (none_counts (IsCompositionOf (suc m)) f
    (λ j is. none_counts (IsCompositionOf (sum j)) (λ i. term n exponents a b up (length i - length j, word_of_composition i, j))
    (λ i k. no_term n exponents a b up (length i - length j, word_of_composition i, j) (up.past j (omega (arith, is.size, le))))
    (refinements j) (every-filter (IsCompositionOf (sum j)) (λ i. is_finer i j) (compositions (sum j)) (compositions_of_size (sum j))))
    (compositions (suc m)) (compositions_of_size (suc m)))
    ∙ sym (word_places m (term n exponents a b up))
points_more n m exponents word a b up le =
    let f : List ℕ → ℤ = λ j. sum_over (λ i. term n word a b up (length i - length j, j, word_of_composition i)) (refinements j) in
    exponent_places (suc m) (term n word a b up)
    ∙ one_more compositions f m
    (none_counts (IsCompositionOf (suc m)) f
    (λ j is. none_counts (IsCompositionOf (sum j)) (λ i. term n word a b up (length i - length j, j, word_of_composition i))
    (λ i k. no_term n word a b up (length i - length j, j, word_of_composition i) (up.past (word_of_composition i) (omega (arith, length-word i k.composition, k.size, is.size, le))))
    (refinements j) (every-filter (IsCompositionOf (sum j)) (λ i. is_finer i j) (compositions (sum j)) (compositions_of_size (sum j))))
    (compositions (suc m)) (compositions_of_size (suc m)))
    ∙ sym (exponent_places m (term n word a b up))

-- the places of d sizes more
points_past : (d n : ℕ) (kind kind' : Kind) (a b : Reading) (up : IsUpTo n kind' b) →
    sum_over (term n kind' a b up) (paired_points (n + d) kind kind') ≡ sum_over (term n kind' a b up) (paired_points n kind kind')
points_past zero n kind kind' a b up = let same : n + 0 ≡ n = omega arith in ap (λ m. sum_over (term n kind' a b up) (paired_points m kind kind')) same
points_past (suc d) n kind kind' a b up =
    let next : n + suc d ≡ suc (n + d) = omega arith in
    ap (λ m. sum_over (term n kind' a b up) (paired_points m kind kind')) next
    ∙ points_more n (n + d) kind kind' a b up (omega arith)
    ∙ points_past d n kind kind' a b up

-- the law
pub sizes_past : SizeLaw
sizes_past n m kind kind' a b kinds up le =
    let more : n + (m - n) ≡ m = omega (arith, le) in
    pairing_of_one m a b kind kind' kinds up.kinds
    ∙ ap (λ k. sum_over (term n kind' a b up) (paired_points k kind kind')) (sym more)
    ∙ points_past (m - n) n kind kind' a b up
    ∙ sym (pairing_of_one n a b kind kind' kinds up.kinds)
