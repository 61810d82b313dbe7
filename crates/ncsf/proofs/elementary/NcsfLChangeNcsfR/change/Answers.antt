use Rattle.std.proofs.Common.{[], ◌∷◌, rules}
use Rattle.std.specs.Prelude.{IfOk}
use Rattle.std.specs.List.{sum}
use Rattle.std.proofs.lemmas.Result.{IfOk-weaker}
use Rattle.basis_names.specs.declared.bases.BasisId.TheVariants.{NcsfL, NcsfR}
use Rattle.change_laws.specs.Changes.{ListsRefinements, signed_terms}
use Rattle.index_rules.specs.Rules.{IsAnswerWithin}
use Rattle.index_rules.specs.SignedSums.{signs_of}
use Rattle.index_rules.specs.declared.sums.Signs.TheVariants.{Plus}
use Rattle.linear_combos.specs.Combos.{IsSumOfTerms}
use Rattle.realisations.specs.Codes.{Code}
use Rattle.realisations.specs.Descents.{complement}
use Rattle.realisations.specs.Readings.{element}
use Rattle.ncsf.proofs.Changes.{elementary_changed}
use Rattle.ncsf.proofs.elementary.NcsfLChangeNcsfR.change.Goals as goal

pub returns : goal.returns
returns c =
    let parts : Code = c.args.code.now in
    let lists : ListsRefinements (complement parts) c.in_ok-finer.finer = search rules in
    let is : IfOk c.signed_sum.result (IsSumOfTerms 1 (signed_terms (signs_of Plus) c.in_ok-finer.finer)) = search rules in
    IfOk-weaker c.signed_sum.result
    (IsSumOfTerms 1 (signed_terms (signs_of Plus) c.in_ok-finer.finer))
    (IsAnswerWithin 1 (NcsfR ∷ []) (sum parts) (element NcsfL parts))
    (λ out sums. elementary_changed parts c.in_ok-finer.finer out c.requires.index.index lists sums)
    is
