-- Room: numbers that are kept stay below 2^127 in absolute value.
use Rattle.std.specs.Prelude.{ℕ, ◌+◌, ◌*◌, ◌/◌, ◌^◌, ◌<◌, ◌≤◌, List, [], ◌∷◌, All, Result, MatchResult}
use Rattle.std.specs.Int.{◌∣◌}
use Rattle.hopf_num.specs.FirstFailing.{IsFirstThatFails}
use Rattle.hopf_num.specs.declared.room.Need.{Need}
use Rattle.hopf_num.specs.declared.room.Need.TheVariants.{Denominator, CommonDenominator, Linear, Product, Sum}
use Rattle.hopf_num.specs.declared.room.NumFault.{NumFault}
use Rattle.hopf_num.specs.declared.room.NumFault.TheVariants.{TooLarge, ZeroDivisor}

-- a product of two norms, and the growth of a product of basis elements as a power of 2
abbrev pub ProductFits : ℕ → ℕ → ℕ → Type 0
ProductFits left right shift = left * right * 2 ^ shift < 2 ^ 127

-- what was needed has room; a least common multiple is below a bound where some common multiple is
abbrev pub HasRoom : Need → Type 0
HasRoom (Denominator left right) = ProductFits left right 0
HasRoom (CommonDenominator left right) = (m : ℕ) × (0 < m) × (left ∣ m) × (right ∣ m) × (m < 2 ^ 127)
HasRoom (Linear norm shift) = ProductFits norm 1 shift
HasRoom (Product left right shift) = ProductFits left right shift
HasRoom (Sum left left_factor right right_factor) = left * left_factor + right * right_factor < 2 ^ 127

-- what can be needed: denominators are at least 1, and shifts at most 120
abbrev pub IsNeed : Need → Type 0
IsNeed (Denominator left right) = Unit {0}
IsNeed (CommonDenominator left right) = (1 ≤ left) × (1 ≤ right)
IsNeed (Linear norm shift) = shift ≤ 120
IsNeed (Product left right shift) = shift ≤ 120
IsNeed (Sum left left_factor right right_factor) = Unit {0}

-- the linear rule, of a map of a value with this norm
abbrev pub linear_rule : ℕ → ℕ → List Need
linear_rule norm shift = Linear norm shift ∷ []

-- the product rule, of values with these denominators and norms
abbrev pub product_rule : ℕ → ℕ → ℕ → ℕ → ℕ → List Need
product_rule left_den right_den left right shift = Denominator left_den right_den ∷ Product left right shift ∷ []

-- the sum rule, of values with these denominators and norms, where m is the least common multiple of the denominators
abbrev pub sum_rule : ℕ → ℕ → ℕ → ℕ → ℕ → List Need
sum_rule m left_den right_den left right =
    CommonDenominator left_den right_den ∷ Sum left (m / left_den) right (m / right_den) ∷ []

-- it is the first of these needs that has no room
abbrev pub IsFirstWithoutRoom : List Need → Need → Type 0
IsFirstWithoutRoom needs told = IsFirstThatFails HasRoom (λ need. need) needs told

-- a fault of a call with these needs
abbrev pub IsFaultOf : List Need → NumFault → Type 0
IsFaultOf needs (TooLarge told) = IsFirstWithoutRoom needs told
IsFaultOf needs ZeroDivisor = ⊥

-- the call answers TooLarge exactly where one of its needs has no room, and tells the first such need
abbrev pub TestsRoom : {T : Type 0} → List Need → Result T NumFault → Type 0
TestsRoom needs result = MatchResult result (λ _. All HasRoom needs) (IsFaultOf needs)
