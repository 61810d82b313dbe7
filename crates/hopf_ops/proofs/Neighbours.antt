-- Two neighbours in a list of bases: the algebra and the kind of their join, and the kinds of their product.
use Rattle.std.proofs.Common.{◌≡◌, IsTrue, List, [], ◌∷◌, ◌++◌, map, length, refl, ap}
use Rattle.std.specs.Prelude.{unwrap_or}
use Rattle.std.proofs.lemmas.List.Elements.{All-cons, All-nil}
use Rattle.basis_names.specs.declared.bases.BasisId.{BasisId}
use Rattle.basis_names.specs.Bases.{algebra_of}
use Rattle.realisations.specs.Bases.{kind_of, lies_in}
use Rattle.realisations.specs.Laws.{IsDoubled}
use Rattle.realisations.specs.Readings.{mult, kinds_after_at}
use Rattle.basis_routes.specs.declared.checks.Check.TheVariants.{Joined}
use Rattle.basis_routes.specs.Checks.{Passes}
use Rattle.basis_routes.specs.JoinTable.{join_of}
use Rattle.basis_routes.specs.Joins.{LieIn}
use Rattle.basis_routes.proofs.ContainedBases.{joined_inside, lies_itself}

-- two components of one kind
pub doubled_kinds : (before after : List BasisId) (basis : BasisId) → IsDoubled (length before) (map kind_of (before ++ basis ∷ basis ∷ after))
doubled_kinds [] after basis = refl
doubled_kinds (b ∷ before) after basis = doubled_kinds before after basis

-- once they are multiplied, one is left
pub kinds-mult : (before after : List BasisId) (x y join : BasisId) → kind_of join ≡ kind_of y → map kind_of (before ++ join ∷ after) ≡ kinds_after_at (length before) mult (map kind_of (before ++ x ∷ y ∷ after))
kinds-mult [] after x y join kind = ap (λ k. k ∷ map kind_of after) kind
kinds-mult (b ∷ before) after x y join kind = ap (λ ks. kind_of b ∷ ks) (kinds-mult before after x y join kind)

-- both lie in the algebra of their join
pub inside-join : (left right : BasisId) → Passes (Joined left right)
    → IsTrue (lies_in (algebra_of left) (algebra_of (unwrap_or (join_of left right) left))) × IsTrue (lies_in (algebra_of right) (algebra_of (unwrap_or (join_of left right) left)))
inside-join left right pass =
    let inside = joined_inside (left ∷ []) (right ∷ []) refl (All-cons Passes (Joined left right) [] pass (All-nil Passes)) in
    (inside.0.0, inside.1.0)

-- with a basis in the place of both, in the algebra of which they lie
pub lies_doubled : (before after : List BasisId) (left right join : BasisId) → IsTrue (lies_in (algebra_of left) (algebra_of join)) → IsTrue (lies_in (algebra_of right) (algebra_of join))
    → LieIn (before ++ left ∷ right ∷ after) (before ++ join ∷ join ∷ after)
lies_doubled [] after left right join first second = (first, (second, lies_itself after))
lies_doubled (b ∷ before) after left right join first second = ((lies_itself (b ∷ [])).0, lies_doubled before after left right join first second)
