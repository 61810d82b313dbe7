-- The indices over an index, and the sums of their elements with their norms.
use Rattle.std.proofs.Common.{◌≡◌, ◌≤◌, List, [], ◌∷◌, subst, arith, min}
use Rattle.basis_names.specs.declared.bases.BasisId.{BasisId}
use Rattle.inclusion_laws.specs.Inclusions.{IsIncluded, IsInclusion, those_over}
use Rattle.index_rules.specs.Changes.{change_facts}
use Rattle.index_rules.specs.Laws.{HasAnswers}
use Rattle.index_rules.specs.Rules.{IsAnswerWithin}
use Rattle.index_rules.specs.Spaces.{limit_for}
use Rattle.linear_combos.specs.CodeLists.{ListsIndices}
use Rattle.linear_combos.specs.Combos.{IsSumOfTerms}
use Rattle.product_laws.specs.Products.{terms_of_codes}
use Rattle.realisations.specs.Bases.{index_kind_of}
use Rattle.realisations.specs.Codes.{Code}
use Rattle.realisations.specs.Combinations.{Combination}
use Rattle.realisations.specs.Indices.{degree_of}
use Rattle.realisations.specs.Readings.{element}

-- an element over a finer basis, up to degree 8, as an answer
within : (fine coarse : BasisId) (index : Code) (c : Combination) → degree_of coarse index ≤ 8 → IsIncluded fine coarse index c
    → IsAnswerWithin 3 (fine ∷ []) (degree_of coarse index) (element coarse index) c
within fine coarse index c low is = record { answer = is.answer; norm = is.norm 3 (omega (arith, low)) }

-- the sum of the elements over an index
pub sum_within : (fine coarse : BasisId) (to : Code → Code) → IsInclusion fine coarse to → (index : Code) (codes over : List Code) (c : Combination) → degree_of coarse index ≤ 8
    → ListsIndices (index_kind_of fine) (degree_of coarse index) codes → over ≡ those_over to index codes → IsSumOfTerms 1 (terms_of_codes over) c
    → IsAnswerWithin 3 (fine ∷ []) (degree_of coarse index) (element coarse index) c
sum_within fine coarse to inclusion index codes over c low lists is sum =
    within fine coarse index c low (inclusion.sums index codes c (omega (arith, low)) lists (subst (λ (v : List Code). IsSumOfTerms 1 (terms_of_codes v) c) is sum))

-- there is one
pub inclusions_exist : (fine coarse : BasisId) (to : Code → Code) → IsInclusion fine coarse to → limit_for fine ≤ 8
    → HasAnswers (change_facts coarse fine (min (limit_for coarse) (limit_for fine)) 3)
inclusions_exist fine coarse to inclusion small index h =
    let low : degree_of coarse index ≤ 8 = omega (arith, h.degree, small) in
    let found = inclusion.exists index (omega (arith, low)) in
    (found.0, within fine coarse index found.0 low found.1)
