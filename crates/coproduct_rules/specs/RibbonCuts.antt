-- Pairs of ribbons by shuffles of words with these descent compositions.
use Rattle.std.specs.Prelude.{ℕ, suc, ◌-◌, if◌then◌else◌, List, [], ◌∷◌}
use Rattle.std.specs.List.{flat_map, range_with_len, sum}
use Rattle.realisations.specs.Descents.{descent_composition, word_of_composition}
use Rattle.realisations.specs.Lists.{same_list}
use Rattle.realisations.specs.Pairings.{compositions}
use Rattle.realisations.specs.Words.{shifted_shuffles}

-- the pair of J and K, once for each shuffle of w_J with w_K raised above it whose descent composition is I: as often as F of I is in the product of F of J and F of K (Malvenuto, Reutenauer 1995)
abbrev pub ribbon_pair : List ℕ → List ℕ → List ℕ → List (List ℕ × List ℕ)
ribbon_pair parts j k =
    flat_map (λ x. if same_list (descent_composition x) parts then (j, k) ∷ [] else []) (shifted_shuffles (word_of_composition j) (word_of_composition k))

-- the same for all compositions J of a number d and K of the rest of the degree, for each d
abbrev pub ribbon_cuts : List ℕ → List (List ℕ × List ℕ)
ribbon_cuts parts =
    flat_map (λ d. flat_map (λ j. flat_map (λ k. ribbon_pair parts j k) (compositions (sum parts - d))) (compositions d)) (range_with_len 0 (suc (sum parts)))
