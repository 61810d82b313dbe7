-- Known values of the functions of indices, by evaluation.
use Rattle.std.specs.Prelude.{◌≡◌, [], ◌∷◌, refl}
use Rattle.inclusion_laws.specs.CommutingImages.{evaluation}
use Rattle.inclusion_laws.specs.DescentsOfIndices.{descents_of_tableau, descents_of_tree}
use Rattle.inclusion_laws.specs.Inclusions.{those_over}
use Rattle.realisations.specs.Descents.{descent_composition}
use Rattle.realisations.specs.Standardisation.{inverse, standardise}
use Rattle.realisations.specs.Tableaux.{insertion_tableau, tableau_code}

-- 2 stands below 1, and 3 beside it
pub descents_of_tableau-121 : descents_of_tableau (1 ∷ 2 ∷ 1 ∷ []) ≡ 1 ∷ 2 ∷ []
descents_of_tableau-121 = refl

-- the first node has a right child
pub descents_of_tree-211 : descents_of_tree (2 ∷ 1 ∷ 1 ∷ []) ≡ 1 ∷ 2 ∷ []
descents_of_tree-211 = refl

-- of three permutations, S of the tableau with rows 13 and 2 takes F of 213 and of 231
pub tableau_in_f-121 : those_over (λ s. tableau_code (insertion_tableau s)) (1 ∷ 2 ∷ 1 ∷ []) ((1 ∷ 3 ∷ 2 ∷ []) ∷ (2 ∷ 1 ∷ 3 ∷ []) ∷ (2 ∷ 3 ∷ 1 ∷ []) ∷ []) ≡ (2 ∷ 1 ∷ 3 ∷ []) ∷ (2 ∷ 3 ∷ 1 ∷ []) ∷ []
tableau_in_f-121 = refl

-- the ribbon of 12 takes G of 213 and of 312
pub ribbon_in_g-12 : those_over descent_composition (1 ∷ 2 ∷ []) ((2 ∷ 1 ∷ 3 ∷ []) ∷ (2 ∷ 3 ∷ 1 ∷ []) ∷ (3 ∷ 1 ∷ 2 ∷ []) ∷ []) ≡ (2 ∷ 1 ∷ 3 ∷ []) ∷ (3 ∷ 1 ∷ 2 ∷ []) ∷ []
ribbon_in_g-12 = refl

-- and F of 213 and of 231
pub ribbon_in_f-12 : those_over (λ s. descent_composition (inverse s)) (1 ∷ 2 ∷ []) ((2 ∷ 1 ∷ 3 ∷ []) ∷ (2 ∷ 3 ∷ 1 ∷ []) ∷ (3 ∷ 1 ∷ 2 ∷ []) ∷ []) ≡ (2 ∷ 1 ∷ 3 ∷ []) ∷ (2 ∷ 3 ∷ 1 ∷ []) ∷ []
ribbon_in_f-12 = refl

-- G of 12 takes M of 11 and of 12
pub g_in_wqsym-12 : those_over standardise (1 ∷ 2 ∷ []) ((1 ∷ 1 ∷ []) ∷ (1 ∷ 2 ∷ []) ∷ (2 ∷ 1 ∷ []) ∷ []) ≡ (1 ∷ 1 ∷ []) ∷ (1 ∷ 2 ∷ []) ∷ []
g_in_wqsym-12 = refl

-- 3123 has 1 once, 2 once and 3 twice
pub evaluation-3123 : evaluation (3 ∷ 1 ∷ 2 ∷ 3 ∷ []) ≡ 1 ∷ 1 ∷ 2 ∷ []
evaluation-3123 = refl
