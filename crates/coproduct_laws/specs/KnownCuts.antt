-- Known pairs of the coproduct rules, by evaluation. Each tells one side from the other, or a rule from its twin.
use Rattle.std.specs.Prelude.{◌≡◌, [], ◌∷◌, refl}
use Rattle.coproduct_laws.specs.ValueCuts.{value_cuts}

-- the letters up to 1 of 121 are 11, and the others are packed to 1
pub value_cuts-121 : value_cuts (1 ∷ 2 ∷ 1 ∷ []) ≡ ([], 1 ∷ 2 ∷ 1 ∷ []) ∷ (1 ∷ 1 ∷ [], 1 ∷ []) ∷ (1 ∷ 2 ∷ 1 ∷ [], []) ∷ []
value_cuts-121 = refl

-- the values past 1 of 231 are 23, lowered 12; the letters after its first place are 31, standardised 21
pub value_cuts-231 : value_cuts (2 ∷ 3 ∷ 1 ∷ []) ≡ ([], 2 ∷ 3 ∷ 1 ∷ []) ∷ (1 ∷ [], 1 ∷ 2 ∷ []) ∷ (2 ∷ 1 ∷ [], 1 ∷ []) ∷ (2 ∷ 3 ∷ 1 ∷ [], []) ∷ []
value_cuts-231 = refl
