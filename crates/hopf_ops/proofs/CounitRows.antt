-- The row of a counit allows exactly one answer, whose value reads as the counit.
use Rattle.std.proofs.Common.{length}
use Rattle.realisations.specs.Readings.{applied, counit}
use Rattle.hopf_laws.specs.Values.{reading_of}
use Rattle.basis_routes.specs.Lists.{without}
use Rattle.basis_routes.specs.Places.{position_of, component_checks}
use Rattle.basis_routes.proofs.ComponentsExist.{counit_exists, kinds-without}
use Rattle.basis_routes.proofs.ConversionRows.{component_checks_are, component_within}
use Rattle.basis_routes.proofs.DecidedRows.{checked_answers_decide}
use Rattle.hopf_ops.specs.Laws.{CounitLaw}
use Rattle.hopf_ops.proofs.ConvertedOperands.{den-positive}

pub counits_decide : CounitLaw
counits_decide at a ha =
    checked_answers_decide (component_checks at (length a.bases)) (without (position_of at) a.bases) (applied counit (position_of at) (reading_of a)) (component_checks_are at (length a.bases))
    (λ pass.
    let here = component_within at (length a.bases) pass in
    record { positive = den-positive a ha; exists = counit_exists (position_of at) a here ha; kinds = kinds-without (position_of at) a.bases here })
