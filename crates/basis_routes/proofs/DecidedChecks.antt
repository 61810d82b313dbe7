-- Each row of checks is decided: all pass, or there is a first that fails.
use Rattle.std.proofs.Common.{◌≡◌, ◌≢◌, ◌⊎◌, ℕ, zero, suc, ◌*◌, ◌/◌, ◌^◌, ◌<◌, ◌≤◌, Bool, true, false, IsTrue, List, [], ◌∷◌, inl, inr, refl, arith}
use Rattle.std.proofs.Math.IntN.{ℤ, pos, negsuc}
use Rattle.std.proofs.lemmas.Bool.{cases_lt, cases_eq}
use Rattle.std.proofs.lemmas.Int.{ints}
use Rattle.std.proofs.lemmas.List.Elements.{All-nil, All-cons, All-tail, All-head}
use Rattle.std.specs.Prelude.{All, Option, Some, None, IsSome}
use Rattle.hopf_num.specs.declared.room.Need.{Need}
use Rattle.hopf_num.specs.declared.room.Need.TheVariants.{Denominator, CommonDenominator, Linear, Product, Sum}
use Rattle.hopf_num.specs.Room.{HasRoom, IsNeed}
use Rattle.hopf_num.proofs.CommonDivisors.{gcd-exists, IsLcm-quotient, common_room}
use Rattle.basis_names.specs.Bases.{algebra_of}
use Rattle.realisations.specs.Bases.{kind_of, lies_in}
use Rattle.realisations.specs.Points.{Kind, exponents, word}
use Rattle.basis_routes.specs.JoinTable.{join_of}
use Rattle.basis_routes.specs.declared.refusal.Refusal.{Refusal}
use Rattle.basis_routes.specs.declared.checks.Check.{Check}
use Rattle.basis_routes.specs.declared.checks.Check.TheVariants.{SameRank, RankWithin, HasComponent, Scalar, Nonzero, Joined, Routed, Contained, DegreeWithin, Room}
use Rattle.basis_routes.specs.Checks.{Passes, IsCheck, IsFirstFailing, refusal_of}

-- a number is below another or not
below_decided : (m n : ℕ) → (m < n) ⊎ (m < n → ⊥)
below_decided m n = elim (cases_lt m n) [
  | inl lt ↦ inl lt
  | inr le ↦ inr (λ lt. absurd (omega (arith, le, lt)))
]

-- a number is at most another or not
within_decided : (m n : ℕ) → (m ≤ n) ⊎ (m ≤ n → ⊥)
within_decided m n = elim (cases_lt n m) [
  | inl lt ↦ inr (λ le. absurd (omega (arith, le, lt)))
  | inr le ↦ inl le
]

-- an integer is not 0, or it is
nonzero_decided : (z : ℤ) → (z ≢ pos 0) ⊎ (z ≢ pos 0 → ⊥)
nonzero_decided (pos zero) = inr (λ h. h refl)
nonzero_decided (pos (suc n)) = inl (λ e. absurd (omega (arith, ints)))
nonzero_decided (negsuc n) = inl (λ e. absurd (omega (arith, ints)))

-- denominators have a common multiple that has room, or they have none: their least common multiple decides
common_decided : (left right : ℕ) → 1 ≤ left → 1 ≤ right → HasRoom (CommonDenominator left right) ⊎ (HasRoom (CommonDenominator left right) → ⊥)
common_decided left right some_left some_right =
    let g = gcd-exists left right in
    let m = left / g.0 * right in
    let room = common_room left right m some_left some_right (IsLcm-quotient left right g.0 some_left some_right g.1) in
    elim (below_decided m (2 ^ 127)) [
      | inl lt ↦ inl (room.0 lt)
      | inr above ↦ inr (λ has. above (room.1 has))
    ]

-- what is needed has room or not
pub room_decided : (need : Need) → IsNeed need → HasRoom need ⊎ (HasRoom need → ⊥)
room_decided (Denominator left right) is = below_decided _ _
room_decided (CommonDenominator left right) is = common_decided left right is.0 is.1
room_decided (Linear norm shift) is = below_decided _ _
room_decided (Product left right shift) is = below_decided _ _
room_decided (Sum left left_factor right right_factor) is = below_decided _ _

-- there is something, or nothing
some_decided : {A : Type 0} (o : Option A) → IsSome o ⊎ (IsSome o → ⊥)
some_decided (Some x) = inl refl
some_decided None = inr (λ is. absurd (cc))

-- a test holds or not
test_decided : (test : Bool) → IsTrue test ⊎ (IsTrue test → ⊥)
test_decided true = inl refl
test_decided false = inr (λ is. absurd (cc))

-- two claims hold or not
both_decided : {P Q : Type 0} → P ⊎ (P → ⊥) → Q ⊎ (Q → ⊥) → (P × Q) ⊎ (P × Q → ⊥)
both_decided (inl p) (inl q) = inl (p, q)
both_decided (inl p) (inr fails) = inr (λ both. fails both.1)
both_decided (inr fails) q = inr (λ both. fails both.0)

-- two kinds of points are the same or not
same_kind_decided : (x y : Kind) → (x ≡ y) ⊎ (x ≡ y → ⊥)
same_kind_decided exponents exponents = inl refl
same_kind_decided exponents word = inr (λ same. absurd (cc))
same_kind_decided word exponents = inr (λ same. absurd (cc))
same_kind_decided word word = inl refl

-- a check passes or not
pub check_decided : (check : Check) → IsCheck check → Passes check ⊎ (Passes check → ⊥)
check_decided (SameRank left right) is = cases_eq left right
check_decided (RankWithin rank) is = within_decided rank 3
check_decided (HasComponent component count) is = both_decided (within_decided 1 component) (within_decided component count)
check_decided (Scalar rank) is = cases_eq rank 0
check_decided (Nonzero num) is = nonzero_decided num
check_decided (Joined left right) is = some_decided (join_of left right)
check_decided (Routed from to) is = same_kind_decided (kind_of from) (kind_of to)
check_decided (Contained from to) is = test_decided (lies_in (algebra_of from) (algebra_of to))
check_decided (DegreeWithin degree limit) is = within_decided degree limit
check_decided (Room need) is = room_decided need is

-- what a row of checks comes to
abbrev Decided : List Check → Type 0
Decided checks = All Passes checks ⊎ ((refusal : Refusal) × IsFirstFailing checks refusal)

-- one check before a row
decided_more : (check : Check) (checks : List Check) → Passes check ⊎ (Passes check → ⊥) → Decided checks → Decided (check ∷ checks)
decided_more check checks (inr fails) later = inr (refusal_of check, inl (refl, fails))
decided_more check checks (inl pass) (inl all) = inl (All-cons Passes check checks pass all)
decided_more check checks (inl pass) (inr first) = inr (first.0, inr (pass, first.1))

-- all checks of a row pass, or one of them is the first that fails
pub checks_decided : (checks : List Check) → All IsCheck checks → All Passes checks ⊎ ((refusal : Refusal) × IsFirstFailing checks refusal)
checks_decided [] are = inl (All-nil Passes)
checks_decided (check ∷ checks) are =
    decided_more check checks (check_decided check (All-head IsCheck check checks are)) (checks_decided checks (All-tail IsCheck check checks are))
