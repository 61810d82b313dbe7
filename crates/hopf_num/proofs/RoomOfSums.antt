-- The room of a sum, tested in two steps.
use Rattle.std.proofs.Common.{◌≡◌, ℕ, ◌/◌, [], ◌∷◌, Result, Ok, Err, inl, inr}
use Rattle.std.proofs.lemmas.List.Elements.{All-cons}
use Rattle.std.proofs.lemmas.Nat.Gcd.{dvd_antisymm}
use Rattle.hopf_num.specs.Divisors.{IsLcm}
use Rattle.hopf_num.specs.Room.{HasRoom, IsFaultOf, TestsRoom, sum_rule}
use Rattle.hopf_num.specs.declared.room.Need.TheVariants.{CommonDenominator, Sum}
use Rattle.hopf_num.specs.declared.room.NumFault.{NumFault}
use Rattle.hopf_num.specs.declared.room.NumFault.TheVariants.{TooLarge, ZeroDivisor}

-- a common denominator without room is the first fault of a sum
pub first_fault : (m a b x y : ℕ) (fault : NumFault) → IsFaultOf (CommonDenominator a b ∷ []) fault → IsFaultOf (sum_rule m a b x y) fault
first_fault m a b x y (TooLarge told) (inl h) = inl h
first_fault m a b x y (TooLarge told) (inr h) = absurd (h.1)
first_fault m a b x y ZeroDivisor h = absurd (h)

-- after a common denominator that has room the numerators decide
pub tests_sum : {T : Type 0} (m a b x y : ℕ) (result : Result T NumFault) → HasRoom (CommonDenominator a b)
    → TestsRoom (Sum x (m / a) y (m / b) ∷ []) result → TestsRoom (sum_rule m a b x y) result
tests_sum m a b x y (Ok value) room all = All-cons HasRoom (CommonDenominator a b) (Sum x (m / a) y (m / b) ∷ []) room all
tests_sum m a b x y (Err (TooLarge told)) room first = inr (room, first)
tests_sum m a b x y (Err ZeroDivisor) room none = absurd (none)

pub same_lcm : (a b m n : ℕ) → IsLcm a b m → IsLcm a b n → m ≡ n
same_lcm a b m n p q = dvd_antisymm (p.2 n q.0 q.1) (q.2 m p.0 p.1)
