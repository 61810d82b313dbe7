-- The two ways to put one composition after another (Gelfand, Krob, Lascoux, Leclerc, Retakh, Thibon 1995).
use Rattle.std.specs.Prelude.{◌≡◌, ℕ, ◌+◌, List, [], ◌∷◌, ◌++◌, refl}

-- I > J, the near concatenation: the last part of I and the first part of J are joined into their sum
abbrev pub near_concatenation : List ℕ → List ℕ → List ℕ
near_concatenation [] k = k
near_concatenation (i ∷ []) [] = i ∷ []
near_concatenation (i ∷ []) (j ∷ k) = (i + j) ∷ k
near_concatenation (i ∷ h ∷ parts) k = i ∷ near_concatenation (h ∷ parts) k

-- the ribbons of a product of two ribbons: the concatenation I . J and I > J, or the other composition where one is empty
abbrev pub ribbon_products : List ℕ → List ℕ → List (List ℕ)
ribbon_products [] k = k ∷ []
ribbon_products (i ∷ parts) [] = (i ∷ parts) ∷ []
ribbon_products (i ∷ parts) (j ∷ k) = ((i ∷ parts) ++ (j ∷ k)) ∷ near_concatenation (i ∷ parts) (j ∷ k) ∷ []

-- 12 and 31 give 1231 and 151
pub ribbon_products-12-31 : ribbon_products (1 ∷ 2 ∷ []) (3 ∷ 1 ∷ []) ≡ (1 ∷ 2 ∷ 3 ∷ 1 ∷ []) ∷ (1 ∷ 5 ∷ 1 ∷ []) ∷ []
ribbon_products-12-31 = refl
