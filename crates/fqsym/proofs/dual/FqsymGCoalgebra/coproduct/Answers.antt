use Rattle.std.proofs.Common.{[], ◌∷◌, length}
use Rattle.std.proofs.lemmas.Result.{IfOk-weaker}
use Rattle.basis_names.specs.declared.bases.BasisId.TheVariants.{FqsymG}
use Rattle.coproduct_laws.specs.Coproducts.{terms_of_pairs}
use Rattle.coproduct_laws.specs.ValueCuts.{value_cuts}
use Rattle.index_rules.specs.Rules.{IsAnswerWithin}
use Rattle.linear_combos.specs.Combos.{IsSumOfTerms}
use Rattle.realisations.specs.Codes.{Code}
use Rattle.realisations.specs.Readings.{applied, coproduct, element}
use Rattle.fqsym.proofs.Coproducts.{value_cuts_within}
use Rattle.fqsym.proofs.Indices.{small_packed}
use Rattle.fqsym.proofs.dual.FqsymGCoalgebra.coproduct.Goals as goal

pub cuts_by_values-requires : goal.cuts_by_values-requires
cuts_by_values-requires c = small_packed c.args.code.now c.requires

pub returns : goal.returns
returns c =
    let s : Code = c.args.code.now in
    IfOk-weaker c.cuts_by_values.result
    (IsSumOfTerms 2 (terms_of_pairs (value_cuts s)))
    (IsAnswerWithin 1 (FqsymG ∷ FqsymG ∷ []) (length s) (applied coproduct 0 (element FqsymG s)))
    (λ out sums. value_cuts_within s out c.requires sums)
    c.cuts_by_values.ensures
