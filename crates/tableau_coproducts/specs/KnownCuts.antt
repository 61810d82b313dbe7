-- Known pairs of the coproduct of a standard tableau, by evaluation. They tell one side from the other, and reading words from other permutations.
use Rattle.std.specs.Prelude.{◌≡◌, [], ◌∷◌, refl}
use Rattle.tableau_coproducts.specs.ClassCuts.{class_cuts}

-- the tableau with the rows 12 and 3 has the class of 132 and 312: after 1 there is 32, standardised 21, and 13, standardised 12; 132 is no reading word, and 312 is one
pub class_cuts-112 : class_cuts ((1 ∷ 3 ∷ 2 ∷ []) ∷ (3 ∷ 1 ∷ 2 ∷ []) ∷ [])
    ≡ (1 ∷ [], 1 ∷ 2 ∷ []) ∷ (1 ∷ 1 ∷ [], 1 ∷ []) ∷ ([], 1 ∷ 1 ∷ 2 ∷ []) ∷ (1 ∷ [], 1 ∷ 1 ∷ []) ∷ (1 ∷ 2 ∷ [], 1 ∷ []) ∷ (1 ∷ 1 ∷ 2 ∷ [], []) ∷ []
class_cuts-112 = refl
