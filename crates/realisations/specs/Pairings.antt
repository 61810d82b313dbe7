-- The pairings of readings: the points at which both operands are read together.
use Rattle.std.specs.Prelude.{ℕ, zero, suc, ◌+◌, ◌-◌, List, [], ◌∷◌, ◌++◌, map, length}
use Rattle.std.specs.List.{filter, flat_map, sum}
use Rattle.realisations.specs.Words.{shuffles}
use Rattle.realisations.specs.Standardisation.{inverse}
use Rattle.realisations.specs.Descents.{is_finer, word_of_composition}
use Rattle.realisations.specs.Points.{Kind, exponents, word, Point, Points}

-- the permutations of size n: the letter n at each place of those of size n - 1
abbrev pub permutations : ℕ → List (List ℕ)
permutations zero = [] ∷ []
permutations (suc n) = flat_map (λ s. shuffles s (suc n ∷ [])) (permutations n)

-- the compositions with 1 more: a first part 1, or a first part one larger
abbrev pub longer_compositions : List ℕ → List (List ℕ)
longer_compositions [] = (1 ∷ []) ∷ []
longer_compositions (i ∷ parts) = (1 ∷ i ∷ parts) ∷ (suc i ∷ parts) ∷ []

-- the compositions of n
abbrev pub compositions : ℕ → List (List ℕ)
compositions zero = [] ∷ []
compositions (suc n) = flat_map (λ parts. longer_compositions parts) (compositions n)

-- the compositions finer than a composition or equal to it
abbrev pub refinements : List ℕ → List (List ℕ)
refinements coarse = filter (λ fine. is_finer fine coarse) (compositions (sum coarse))

-- all that a family has at the sizes from 0 to n
abbrev pub up_to : (ℕ → List (List ℕ)) → ℕ → List (List ℕ)
up_to family zero = family 0
up_to family (suc n) = up_to family n ++ family (suc n)

-- a place of a pairing: a number of signs, and the points at which the operands are read
abbrev pub Paired : Type 0 → Type 0
Paired X = ℕ × X × X

-- the places up to size n for components of these kinds. Words with words: the inverse of each permutation, and the permutation (Malvenuto, Reutenauer 1995).
-- Words with exponents: for each composition J and each finer I, the word w_I and J as exponents, with a sign for each part of I past those of J, so that S of I is paired with M of I as 1 (Gelfand, Krob, Lascoux, Leclerc, Retakh, Thibon 1995)
abbrev pub paired_points : ℕ → Kind → Kind → List (Paired Point)
paired_points n word word = map (λ s. (0, inverse s, s)) (up_to permutations n)
paired_points n word exponents =
    flat_map (λ j. map (λ i. (length i - length j, word_of_composition i, j)) (refinements j)) (up_to compositions n)
paired_points n exponents word =
    flat_map (λ j. map (λ i. (length i - length j, j, word_of_composition i)) (refinements j)) (up_to compositions n)
paired_points n exponents exponents = []

-- the places for tuples of components, the first with the first and so on
abbrev pub paired_tuples : ℕ → List Kind → List Kind → List (Paired Points)
paired_tuples n [] [] = (0, [], []) ∷ []
paired_tuples n [] (l ∷ ls) = []
paired_tuples n (k ∷ ks) [] = []
paired_tuples n (k ∷ ks) (l ∷ ls) =
    flat_map (λ t. map (λ u. (t.0 + u.0, t.1 ∷ u.1, t.2 ∷ u.2)) (paired_tuples n ks ls)) (paired_points n k l)

-- the greatest size at which values are paired: past the degree limit of each algebra
unfoldable pub pairing_size : ℕ
pairing_size = 12
