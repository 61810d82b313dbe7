-- The descent composition that the index of a class of words determines.
use Rattle.std.specs.Prelude.{ℕ, Bool, if◌then◌else◌, List, [], ◌∷◌, nat_lt}
use Rattle.realisations.specs.Codes.{Code}
use Rattle.realisations.specs.Descents.{longer_first}

-- the composition of the length of a list that is cut behind each place whose number and the next one pass a test
abbrev pub composition_where : (ℕ → ℕ → Bool) → List ℕ → List ℕ
composition_where test [] = []
composition_where test (x ∷ []) = 1 ∷ []
composition_where test (x ∷ y ∷ w) =
    if test x y then 1 ∷ composition_where test (y ∷ w) else longer_first (composition_where test (y ∷ w))

-- the descents of a tree, by its code: the places, in infix order and but for the last, whose node has a right child (Loday, Ronco 1998)
abbrev pub descents_of_tree : Code → Code
descents_of_tree code = composition_where (λ x y. nat_lt 1 x) code

-- the descents of a standard tableau, by its code: the numbers i for which i + 1 stands in a lower row (Poirier, Reutenauer 1995)
abbrev pub descents_of_tableau : Code → Code
descents_of_tableau code = composition_where (λ x y. nat_lt x y) code
