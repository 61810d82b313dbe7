-- Known pairs of the coproduct rules, by evaluation. Each tells one side from the other, or a rule from its twin.
use Rattle.std.specs.Prelude.{◌≡◌, pos, [], ◌∷◌, refl}
use Rattle.basis_names.specs.declared.bases.BasisId.TheVariants.{WqsymM}
use Rattle.realisations.specs.Readings.{applied, coproduct, element, numerator}
use Rattle.realisations.specs.Trees.{empty, node}
use Rattle.coproduct_rules.specs.DegreeCuts.{degree_cuts}
use Rattle.coproduct_rules.specs.PartCuts.{part_cuts}
use Rattle.coproduct_rules.specs.PlaceCuts.{place_cuts}
use Rattle.coproduct_rules.specs.RibbonCuts.{ribbon_cuts}
use Rattle.coproduct_rules.specs.UpperParts.{upper_parts}

-- at degree 1 the part 2 is cut, and at degree 2 the composition is cut between its parts
pub degree_cuts-21 : degree_cuts (2 ∷ 1 ∷ []) ≡ ([], 2 ∷ 1 ∷ []) ∷ (1 ∷ [], 1 ∷ 1 ∷ []) ∷ (2 ∷ [], 1 ∷ []) ∷ (2 ∷ 1 ∷ [], []) ∷ []
degree_cuts-21 = refl

-- of two parts 1 one goes to each side in two ways
pub part_cuts-11 : part_cuts (1 ∷ 1 ∷ []) ≡ ([], 1 ∷ 1 ∷ []) ∷ (1 ∷ [], 1 ∷ []) ∷ (1 ∷ [], 1 ∷ []) ∷ (1 ∷ 1 ∷ [], []) ∷ []
part_cuts-11 = refl

-- of the shuffles 12 and 21 the second falls
pub ribbon_cuts-11 : ribbon_cuts (1 ∷ 1 ∷ []) ≡ ([], 1 ∷ 1 ∷ []) ∷ (1 ∷ [], 1 ∷ []) ∷ (1 ∷ 1 ∷ [], []) ∷ []
ribbon_cuts-11 = refl

-- after its first letter 231 has 31, standardised 21
pub place_cuts-231 : place_cuts (2 ∷ 3 ∷ 1 ∷ []) ≡ ([], 2 ∷ 3 ∷ 1 ∷ []) ∷ (1 ∷ [], 2 ∷ 1 ∷ []) ∷ (1 ∷ 2 ∷ [], 1 ∷ []) ∷ (2 ∷ 3 ∷ 1 ∷ [], []) ∷ []
place_cuts-231 = refl

-- of a root with a left child nothing, the root, or both are above
pub upper_parts-left : upper_parts (node (node empty empty) empty)
    ≡ (node (node empty empty) empty ∷ [], empty) ∷ (node empty empty ∷ [], node empty empty) ∷ ([], node (node empty empty) empty) ∷ []
upper_parts-left = refl

-- points are words over 1 < 2 < ..: a letter 0 would not rise above the first point, and the coproduct of M of 11 would be read as 2 there, though no element tells the words 0 and 1 apart
pub coproduct_at_zero : numerator (applied coproduct 0 (element WqsymM (1 ∷ 1 ∷ []))) ((1 ∷ []) ∷ (0 ∷ []) ∷ []) ≡ pos 2
coproduct_at_zero = refl

-- at the word 1 it is 0
pub coproduct_at_one : numerator (applied coproduct 0 (element WqsymM (1 ∷ 1 ∷ []))) ((1 ∷ []) ∷ (1 ∷ []) ∷ []) ≡ pos 0
coproduct_at_one = refl
