use Rattle.std.proofs.Common.{[], ◌∷◌, length}
use Rattle.std.proofs.lemmas.Result.{IfOk-weaker}
use Rattle.basis_names.specs.declared.bases.BasisId.TheVariants.{WqsymM}
use Rattle.coproduct_laws.specs.Coproducts.{terms_of_pairs}
use Rattle.coproduct_laws.specs.ValueCuts.{value_cuts}
use Rattle.index_rules.specs.Rules.{IsAnswerWithin}
use Rattle.linear_combos.specs.Combos.{IsSumOfTerms}
use Rattle.realisations.specs.Codes.{Code}
use Rattle.realisations.specs.Readings.{applied, coproduct, element}
use Rattle.wqsym.proofs.Coproducts.{cuts_within}
use Rattle.wqsym.proofs.Indices.{small_packed}
use Rattle.wqsym.proofs.monomial.WqsymMCoalgebra.coproduct.Goals as goal

pub cuts_by_values-requires : goal.cuts_by_values-requires
cuts_by_values-requires c = small_packed c.args.code.now c.requires

pub returns : goal.returns
returns c =
    let w : Code = c.args.code.now in
    IfOk-weaker c.cuts_by_values.result
    (IsSumOfTerms 2 (terms_of_pairs (value_cuts w)))
    (IsAnswerWithin 1 (WqsymM ∷ WqsymM ∷ []) (length w) (applied coproduct 0 (element WqsymM w)))
    (λ out sums. cuts_within w out c.requires sums)
    c.cuts_by_values.ensures
