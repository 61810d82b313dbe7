-- Rows of checks: an operation is refused by the first of its checks that fails.
use Rattle.std.specs.Prelude.{◌≡◌, ◌≢◌, ◌≤◌, ◌⊎◌, pos, IsTrue, List, map, All, IsSome, Result, MatchResult}
use Rattle.hopf_num.specs.declared.room.Need.{Need}
use Rattle.hopf_num.specs.FirstFailing.{IsFirstThatFails}
use Rattle.hopf_num.specs.Room.{HasRoom, IsNeed}
use Rattle.basis_names.specs.Bases.{algebra_of}
use Rattle.realisations.specs.Bases.{kind_of, lies_in}
use Rattle.basis_routes.specs.declared.refusal.Refusal.{Refusal}
use Rattle.basis_routes.specs.declared.refusal.Refusal.TheVariants.{Rank, Component, NotScalar, ZeroDivisor, Mixed, NoRoute, Degree, TooLarge, NotBuilt, Memory}
use Rattle.basis_routes.specs.declared.checks.Check.{Check}
use Rattle.basis_routes.specs.declared.checks.Check.TheVariants.{SameRank, RankWithin, HasComponent, Scalar, Nonzero, Joined, Routed, Contained, DegreeWithin, Room}
use Rattle.basis_routes.specs.JoinTable.{join_of}

-- the check passes; there is a way between two bases where they are read at points of one kind
abbrev pub Passes : Check → Type 0
Passes (SameRank left right) = left ≡ right
Passes (RankWithin rank) = rank ≤ 3
Passes (HasComponent component count) = (1 ≤ component) × (component ≤ count)
Passes (Scalar rank) = rank ≡ 0
Passes (Nonzero num) = num ≢ pos 0
Passes (Joined left right) = IsSome (join_of left right)
Passes (Routed from to) = kind_of from ≡ kind_of to
Passes (Contained from to) = IsTrue (lies_in (algebra_of from) (algebra_of to))
Passes (DegreeWithin degree limit) = degree ≤ limit
Passes (Room need) = HasRoom need

-- the refusal of a check that fails
abbrev pub refusal_of : Check → Refusal
refusal_of (SameRank left right) = Rank
refusal_of (RankWithin rank) = Rank
refusal_of (HasComponent component count) = Component
refusal_of (Scalar rank) = NotScalar
refusal_of (Nonzero num) = ZeroDivisor
refusal_of (Joined left right) = Mixed (algebra_of left) (algebra_of right)
refusal_of (Routed from to) = NoRoute (algebra_of from) (algebra_of to)
refusal_of (Contained from to) = NotBuilt
refusal_of (DegreeWithin degree limit) = Degree degree limit
refusal_of (Room need) = TooLarge need

-- what can be checked
abbrev pub IsCheck : Check → Type 0
IsCheck (Room need) = IsNeed need
IsCheck _ = Unit {0}

-- it is the refusal of the first of these checks that fails
abbrev pub IsFirstFailing : List Check → Refusal → Type 0
IsFirstFailing checks refusal = IsFirstThatFails Passes refusal_of checks refusal

-- a refusal of a call with these checks; want of memory may come at any time
abbrev pub IsRefusalOf : List Check → Refusal → Type 0
IsRefusalOf checks refusal = (refusal ≡ Memory) ⊎ IsFirstFailing checks refusal

-- the call answers a refusal exactly where one of its checks fails, that of the first such check, or want of memory
abbrev pub Tests : {T : Type 0} → List Check → Result T Refusal → Type 0
Tests checks result = MatchResult result (λ _. All Passes checks) (IsRefusalOf checks)

-- the checks of a rule of room
abbrev pub room_checks : List Need → List Check
room_checks needs = map (λ need. Room need) needs
