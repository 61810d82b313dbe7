-- What the common checks of two operands say: one rank, joins, and a degree within their limit. The joins of built bases are built.
use Rattle.std.proofs.Common.{◌≡◌, ℕ, Bool, true, false, IsTrue, List, [], ◌∷◌, length, refl, arith}
use Rattle.std.specs.Prelude.{All, unwrap_or, if◌then◌else◌}
use Rattle.std.proofs.lemmas.List.Elements.{All-head, All-tail}
use Rattle.basis_names.specs.declared.bases.BasisId.{BasisId}
use Rattle.built_bases.specs.Table.{is_built}
use Rattle.hopf_laws.specs.Bases.{AreBuilt, least_limit}
use Rattle.hopf_laws.specs.Values.{Expansion, IsValue}
use Rattle.basis_routes.specs.declared.checks.Check.TheVariants.{SameRank, DegreeWithin}
use Rattle.basis_routes.specs.Checks.{Passes}
use Rattle.basis_routes.specs.JoinTable.{join_of}
use Rattle.basis_routes.specs.Joins.{joined, join_checks}
use Rattle.basis_routes.proofs.ContainedBases.{joined_inside}
use Rattle.basis_routes.proofs.JoinedKinds.{of_pairs}
use Rattle.basis_routes.proofs.Rows.{passes_earlier, passes_last}
use Rattle.hopf_ops.specs.Answers.{AreTargets}
use Rattle.hopf_ops.specs.Operations.{common_checks}

-- of two built bases the join is built
abbrev join_is_built : BasisId → BasisId → Bool
join_is_built left right = if is_built left then (if is_built right then is_built (unwrap_or (join_of left right) left) else true) else true

join_built : (left right : BasisId) → join_is_built left right ≡ true
join_built = of_pairs join_is_built refl

by_tests : (p q r : Bool) → (if p then (if q then r else true) else true) ≡ true → p ≡ true → q ≡ true → r ≡ true
by_tests true true r test hp hq = test
by_tests true false r test hp hq = absurd (cc)
by_tests false q r test hp hq = absurd (cc)

built_join : (left right : BasisId) → IsTrue (is_built left) → IsTrue (is_built right) → IsTrue (is_built (unwrap_or (join_of left right) left))
built_join left right hl hr = by_tests (is_built left) (is_built right) (is_built (unwrap_or (join_of left right) left)) (join_built left right) hl hr

-- so are those of two lists
pub joined_built : (lefts rights : List BasisId) → AreBuilt lefts → AreBuilt rights → length lefts ≡ length rights → AreBuilt (joined lefts rights)
joined_built [] rights hl hr long = tt
joined_built (left ∷ lefts) [] hl hr long = absurd (omega arith)
joined_built (left ∷ lefts) (right ∷ rights) hl hr long = (built_join left right hl.0 hr.0, joined_built lefts rights hl.1 hr.1 (omega arith))

-- two operands that pass the common checks may be brought to their joins
pub targets_of : (degree : ℕ) (a b : Expansion) → IsValue a → IsValue b → All Passes (common_checks degree a b) → AreTargets (joined a.bases b.bases) degree a b
targets_of degree a b ha hb pass =
    let ranks = SameRank (length a.bases) (length b.bases) in
    let within = DegreeWithin degree (least_limit (joined a.bases b.bases)) in
    let joins = join_checks a.bases b.bases in
    let front = passes_earlier (ranks ∷ joins) (within ∷ []) pass in
    let long : length a.bases ≡ length b.bases = All-head Passes ranks joins front in
    let inside = joined_inside a.bases b.bases long (All-tail Passes ranks joins front) in
    record {
      left_value = ha;
      right_value = hb;
      built = joined_built a.bases b.bases ha.built hb.built long;
      left = inside.0;
      right = inside.1;
      within = passes_last (ranks ∷ joins) within pass;
    }
