-- The compositions of a product of two fundamental quasi-symmetric functions (Gessel 1984).
use Rattle.std.specs.Prelude.{◌≡◌, ℕ, List, [], ◌∷◌, map, refl}
use Rattle.realisations.specs.Descents.{descent_composition, word_of_composition}
use Rattle.realisations.specs.Words.{shifted_shuffles}

-- the descent compositions of the shuffles of a word with descent composition I and one with descent composition J on higher letters
abbrev pub fundamental_products : List ℕ → List ℕ → List (List ℕ)
fundamental_products i j = map descent_composition (shifted_shuffles (word_of_composition i) (word_of_composition j))

-- the shuffles 112, 121 and 211 of 11 and 2 have the descent compositions 3, 21 and 12
pub fundamental_products-2-1 : fundamental_products (2 ∷ []) (1 ∷ []) ≡ (3 ∷ []) ∷ (2 ∷ 1 ∷ []) ∷ (1 ∷ 2 ∷ []) ∷ []
fundamental_products-2-1 = refl
