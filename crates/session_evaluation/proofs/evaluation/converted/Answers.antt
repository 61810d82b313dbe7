use Rattle.std.proofs.Common.{subst}
use Rattle.basis_routes.specs.declared.place.Place.{Place}
use Rattle.basis_routes.specs.Conversions.{ConversionRow}
use Rattle.session_evaluation.specs.Evaluation.{OrMemory, Allows}
use Rattle.session_evaluation.proofs.Operations.{allows_told}
use Rattle.session_evaluation.proofs.evaluation.converted.Goals as goal

pub returns : goal.returns
returns c =
    subst (λ (at : Place). OrMemory (Allows (ConversionRow at c.args.to c.args.a.now)) c.told_of.result) c.component.ensures
    (allows_told (ConversionRow c.component.result c.args.to c.args.a.now) c.told_of.result c.convert.result c.told_of.ensures c.convert.ensures)
