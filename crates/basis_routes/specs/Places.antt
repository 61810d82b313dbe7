-- The components that an operation acts on, and the checks that they are there.
use Rattle.std.specs.Prelude.{ℕ, ◌+◌, ◌-◌, List, [], ◌∷◌}
use Rattle.basis_routes.specs.declared.checks.Check.{Check}
use Rattle.basis_routes.specs.declared.checks.Check.TheVariants.{SameRank, RankWithin, HasComponent}
use Rattle.basis_routes.specs.declared.place.Place.{Place}
use Rattle.basis_routes.specs.declared.place.Place.TheVariants.{Only, At}

-- the number of the component, or of the first of two, counted from 0
abbrev pub position_of : Place → ℕ
position_of Only = 0
position_of (At k) = k - 1

-- the component is there: where it has no number, it is the only one
abbrev pub component_checks : Place → ℕ → List Check
component_checks Only rank = SameRank rank 1 ∷ []
component_checks (At k) rank = HasComponent k rank ∷ []

-- the same, and there is room for one component more
abbrev pub doubling_checks : Place → ℕ → List Check
doubling_checks Only rank = SameRank rank 1 ∷ []
doubling_checks (At k) rank = RankWithin (rank + 1) ∷ HasComponent k rank ∷ []

-- the component and the next one are there: where it has no number, they are the only ones
abbrev pub neighbour_checks : Place → ℕ → List Check
neighbour_checks Only rank = SameRank rank 2 ∷ []
neighbour_checks (At k) rank = HasComponent k (rank - 1) ∷ []
