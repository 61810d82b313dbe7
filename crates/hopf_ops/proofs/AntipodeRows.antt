-- The row of an antipode allows exactly one answer, whose value reads as the antipode.
use Rattle.std.proofs.Common.{◌++◌, length}
use Rattle.std.proofs.lemmas.List.Elements.{All-append}
use Rattle.realisations.specs.Readings.{applied, antipode}
use Rattle.hopf_laws.specs.Values.{reading_of}
use Rattle.basis_routes.specs.Checks.{IsCheck}
use Rattle.basis_routes.specs.Conversions.{linear_checks}
use Rattle.basis_routes.specs.Places.{position_of, component_checks}
use Rattle.basis_routes.proofs.ComponentsExist.{antipode_exists, kinds-antipode}
use Rattle.basis_routes.proofs.ConversionRows.{component_checks_are, component_within}
use Rattle.basis_routes.proofs.ConversionsExist.{linear_checks_are}
use Rattle.basis_routes.proofs.DecidedRows.{checked_answers_decide}
use Rattle.basis_routes.proofs.FailingChecks.{passes_later}
use Rattle.basis_routes.proofs.Rows.{passes_earlier}
use Rattle.hopf_ops.specs.Laws.{AntipodeLaw}
use Rattle.hopf_ops.proofs.ConvertedOperands.{den-positive}

pub antipodes_decide : AntipodeLaw
antipodes_decide at a ha =
    let places = component_checks at (length a.bases) in
    checked_answers_decide (places ++ linear_checks a) a.bases (applied antipode (position_of at) (reading_of a))
    (All-append IsCheck places (linear_checks a) (component_checks_are at (length a.bases)) (linear_checks_are a ha))
    (λ pass.
    let here = component_within at (length a.bases) (passes_earlier places (linear_checks a) pass) in
    record {
      positive = den-positive a ha;
      exists = antipode_exists (position_of at) a here ha (passes_later places (linear_checks a) pass);
      kinds = kinds-antipode (position_of at) a.bases here;
    })
