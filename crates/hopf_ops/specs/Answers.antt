-- Nothing here need be believed: from combinations to values, for the contracts of private functions.
use Rattle.std.specs.Prelude.{◌≡◌, ℕ, ◌≤◌, Bool, true, false, List, ◌∷◌, ◌++◌, length, unwrap_or, Result, Ok, Err}
use Rattle.realisations.specs.Codes.{Key}
use Rattle.realisations.specs.Combinations.{Combination, HasKey}
use Rattle.linear_combos.specs.Combos.{IsSum, IsDifference}
use Rattle.realisations.specs.Indices.{AreIndices, total_degree}
use Rattle.linear_combos.specs.declared.combo.ComboFault.{ComboFault}
use Rattle.linear_combos.specs.declared.combo.ComboFault.TheVariants.{TooLarge, Memory}
use Rattle.basis_names.specs.declared.bases.BasisId.{BasisId}
use Rattle.hopf_laws.specs.Bases.{AreBuilt, least_limit}
use Rattle.hopf_laws.specs.Values.{Expansion, IsValue, degree_of_value}
use Rattle.basis_routes.specs.declared.checks.Check.TheVariants.{Joined}
use Rattle.basis_routes.specs.Checks.{Passes}
use Rattle.basis_routes.specs.JoinTable.{join_of}
use Rattle.basis_routes.specs.Joins.{LieIn}
use Rattle.basis_routes.specs.declared.refusal.Refusal.{Refusal}
use Rattle.basis_routes.specs.declared.refusal.Refusal.TheVariants.{TooLarge as refused_too_large, Memory as refused_memory}

-- all that a canonical combination owes to be a value over these bases
pub record IsOver (bases : List BasisId) (c : Combination) : Type 0 where
  pub short : length bases ≤ 3
  pub built : AreBuilt bases
  pub rank : c.rank ≡ length bases
  pub indices : (key : Key) → HasKey c.terms key → AreIndices bases key
  pub degrees : (key : Key) → HasKey c.terms key → total_degree bases key ≤ least_limit bases

-- bases to which two operands, both values, may be brought: they are built, both lie in their algebras, and a degree is within their least limit
pub record AreTargets (targets : List BasisId) (degree : ℕ) (a b : Expansion) : Type 0 where
  pub left_value : IsValue a
  pub right_value : IsValue b
  pub built : AreBuilt targets
  pub left : LieIn a.bases targets
  pub right : LieIn b.bases targets
  pub within : degree ≤ least_limit targets

-- component n of a value, counted from 0, and the next one have a join, which takes the place of both in these bases, and the degree is within their limit
pub record AreJoined (bases : List BasisId) (n : ℕ) (a : Expansion) : Type 0 where
  pub before : List BasisId
  pub left : BasisId
  pub right : BasisId
  pub after : List BasisId
  pub value : IsValue a
  pub is : a.bases ≡ before ++ left ∷ right ∷ after
  pub long : length before ≡ n
  pub join : Passes (Joined left right)
  pub over : bases ≡ before ++ unwrap_or (join_of left right) left ∷ after
  pub within : degree_of_value a ≤ least_limit bases

-- a combination becomes the value over the bases, and a fault the refusal of its name
abbrev pub IsAnswerOver : List BasisId → Result Combination ComboFault → Result Expansion Refusal → Type 0
IsAnswerOver bases (Ok c) result = result ≡ Ok (record { bases = bases; combination = c })
IsAnswerOver bases (Err (TooLarge need)) result = result ≡ Err (refused_too_large need)
IsAnswerOver bases (Err Memory) result = result ≡ Err refused_memory

-- the combination is the difference of two, or else their sum
abbrev pub IsSumOrDifference : Bool → Combination → Combination → Combination → Type 0
IsSumOrDifference true a b c = IsDifference a b c
IsSumOrDifference false a b c = IsSum a b c
