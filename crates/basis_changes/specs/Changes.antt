-- The change of a component, counted from 0, from one basis to another, by a rule of whatever growth.
use Rattle.std.specs.Prelude.{ℕ, min}
use Rattle.basis_names.specs.declared.bases.BasisId.{BasisId}
use Rattle.index_rules.specs.Changes.{change_facts}
use Rattle.index_rules.specs.Lifts.{CanLift, IsLift}
use Rattle.index_rules.specs.Spaces.{limit_for}
use Rattle.realisations.specs.Combinations.{Combination}

-- the component has indices of the first basis, within the limits of both, and there is room
abbrev pub CanBeChanged : BasisId → BasisId → ℕ → Combination → Type 0
CanBeChanged from to n old = (growth : ℕ) → CanLift (change_facts from to (min (limit_for from) (limit_for to)) growth) n old

-- each element there is replaced by what it is over the second one
abbrev pub IsChanged : BasisId → BasisId → ℕ → Combination → Combination → Type 0
IsChanged from to n old new = (growth : ℕ) × IsLift (change_facts from to (min (limit_for from) (limit_for to)) growth) n old new
