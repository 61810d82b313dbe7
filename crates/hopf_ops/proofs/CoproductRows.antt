-- The row of a coproduct allows exactly one answer, whose value reads as the coproduct.
use Rattle.std.proofs.Common.{◌≡◌, ℕ, ◌+◌, ◌<◌, ◌≤◌, [], ◌∷◌, ◌++◌, length, arith}
use Rattle.std.specs.Prelude.{All}
use Rattle.std.proofs.lemmas.List.Elements.{All-append, All-cons, All-nil, All-head, All-tail}
use Rattle.realisations.specs.Readings.{applied, coproduct}
use Rattle.hopf_laws.specs.Values.{reading_of}
use Rattle.basis_routes.specs.declared.checks.Check.TheVariants.{SameRank, RankWithin, HasComponent}
use Rattle.basis_routes.specs.declared.place.Place.{Place}
use Rattle.basis_routes.specs.declared.place.Place.TheVariants.{Only, At}
use Rattle.basis_routes.specs.Checks.{Passes, IsCheck}
use Rattle.basis_routes.specs.Conversions.{linear_checks}
use Rattle.basis_routes.specs.Lists.{doubled}
use Rattle.basis_routes.specs.Places.{position_of, doubling_checks}
use Rattle.basis_routes.proofs.ComponentsExist.{coproduct_exists, kinds-doubled}
use Rattle.basis_routes.proofs.ConversionsExist.{linear_checks_are}
use Rattle.basis_routes.proofs.DecidedRows.{checked_answers_decide}
use Rattle.basis_routes.proofs.FailingChecks.{passes_later}
use Rattle.basis_routes.proofs.Rows.{passes_earlier}
use Rattle.hopf_ops.specs.Laws.{CoproductLaw}
use Rattle.hopf_ops.proofs.ConvertedOperands.{den-positive}

-- the checks of a component that is doubled can be made
doubling_checks_are : (at : Place) (rank : ℕ) → All IsCheck (doubling_checks at rank)
doubling_checks_are Only rank = All-cons IsCheck (SameRank rank 1) [] tt (All-nil IsCheck)
doubling_checks_are (At k) rank =
    All-cons IsCheck (RankWithin (rank + 1)) (HasComponent k rank ∷ []) tt (All-cons IsCheck (HasComponent k rank) [] tt (All-nil IsCheck))

-- where they pass, it is there, and there is room for one component more
pub doubling_passes : (at : Place) (rank : ℕ) → All Passes (doubling_checks at rank) → (position_of at < rank) × (rank ≤ 2)
doubling_passes Only rank pass =
    let one : rank ≡ 1 = All-head Passes (SameRank rank 1) [] pass in
    (omega (arith, one), omega (arith, one))
doubling_passes (At k) rank pass =
    let short : rank + 1 ≤ 3 = All-head Passes (RankWithin (rank + 1)) (HasComponent k rank ∷ []) pass in
    let here = All-head Passes (HasComponent k rank) [] (All-tail Passes (RankWithin (rank + 1)) (HasComponent k rank ∷ []) pass) in
    (omega (arith, here.0, here.1), omega (arith, short))

pub coproducts_decide : CoproductLaw
coproducts_decide at a ha =
    let places = doubling_checks at (length a.bases) in
    checked_answers_decide (places ++ linear_checks a) (doubled (position_of at) a.bases) (applied coproduct (position_of at) (reading_of a))
    (All-append IsCheck places (linear_checks a) (doubling_checks_are at (length a.bases)) (linear_checks_are a ha))
    (λ pass.
    let (here, short) = doubling_passes at (length a.bases) (passes_earlier places (linear_checks a) pass) in
    record {
      positive = den-positive a ha;
      exists = coproduct_exists (position_of at) a here short ha (passes_later places (linear_checks a) pass);
      kinds = kinds-doubled (position_of at) a.bases here;
    })
