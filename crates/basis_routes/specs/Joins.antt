-- The bases of sums and products.
use Rattle.std.specs.Prelude.{IsTrue, List, [], ◌∷◌, unwrap_or}
use Rattle.basis_names.specs.declared.bases.BasisId.{BasisId}
use Rattle.basis_names.specs.Bases.{algebra_of}
use Rattle.realisations.specs.Bases.{lies_in}
use Rattle.basis_routes.specs.declared.checks.Check.{Check}
use Rattle.basis_routes.specs.declared.checks.Check.TheVariants.{Joined}
use Rattle.basis_routes.specs.JoinTable.{join_of}

-- the joins of two lists of bases, component by component; where there is none, the left one stays
abbrev pub joined : List BasisId → List BasisId → List BasisId
joined [] rights = []
joined (left ∷ lefts) [] = []
joined (left ∷ lefts) (right ∷ rights) = unwrap_or (join_of left right) left ∷ joined lefts rights

-- that each two components have a join
abbrev pub join_checks : List BasisId → List BasisId → List Check
join_checks [] rights = []
join_checks (left ∷ lefts) [] = []
join_checks (left ∷ lefts) (right ∷ rights) = Joined left right ∷ join_checks lefts rights

-- each of these bases lies in the algebra of the one in its place in the other list, which is as long
abbrev pub LieIn : List BasisId → List BasisId → Type 0
LieIn [] [] = Unit {0}
LieIn (old ∷ olds) (new ∷ news) = IsTrue (lies_in (algebra_of old) (algebra_of new)) × LieIn olds news
LieIn _ _ = ⊥
