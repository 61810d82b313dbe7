use Rattle.std.proofs.Common.{[], ◌∷◌, rules}
use Rattle.std.specs.Prelude.{IfOk}
use Rattle.std.specs.List.{sum}
use Rattle.std.proofs.lemmas.Result.{IfOk-weaker}
use Rattle.basis_names.specs.declared.bases.BasisId.TheVariants.{QsymM, QsymF}
use Rattle.change_laws.specs.Changes.{ListsRefinements, signed_terms}
use Rattle.index_rules.specs.Rules.{IsAnswerWithin}
use Rattle.index_rules.specs.SignedSums.{signs_of}
use Rattle.index_rules.specs.declared.sums.Signs.TheVariants.{Plus}
use Rattle.linear_combos.specs.Combos.{IsSumOfTerms}
use Rattle.realisations.specs.Codes.{Code}
use Rattle.realisations.specs.Readings.{element}
use Rattle.qsym.proofs.Changes.{fundamental_changed}
use Rattle.qsym.proofs.fundamental.QsymFChangeQsymM.change.Goals as goal

pub returns : goal.returns
returns c =
    let parts : Code = c.args.code.now in
    let lists : ListsRefinements parts c.in_ok-finer.finer = search rules in
    let is : IfOk c.signed_sum.result (IsSumOfTerms 1 (signed_terms (signs_of Plus) c.in_ok-finer.finer)) = search rules in
    IfOk-weaker c.signed_sum.result
    (IsSumOfTerms 1 (signed_terms (signs_of Plus) c.in_ok-finer.finer))
    (IsAnswerWithin 1 (QsymM ∷ []) (sum parts) (element QsymF parts))
    (λ out sums. fundamental_changed parts c.in_ok-finer.finer out c.requires.index.index lists sums)
    is
