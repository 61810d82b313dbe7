use Rattle.std.proofs.Common.{[], ◌∷◌, arith}
use Rattle.std.specs.List.{sum}
use Rattle.std.proofs.lemmas.Result.{IfOk-weaker}
use Rattle.basis_names.specs.declared.bases.BasisId.TheVariants.{QsymF}
use Rattle.coproduct_laws.specs.Coproducts.{terms_of_pairs}
use Rattle.coproduct_rules.specs.DegreeCuts.{degree_cuts}
use Rattle.index_rules.specs.Rules.{IsAnswerWithin}
use Rattle.linear_combos.specs.Combos.{IsSumOfTerms}
use Rattle.realisations.specs.Codes.{Code}
use Rattle.realisations.specs.Readings.{applied, coproduct, element}
use Rattle.qsym.proofs.Growth.{degree_cuts_within}
use Rattle.qsym.proofs.fundamental.QsymFCoalgebra.coproduct.Goals as goal

pub returns : goal.returns
returns c =
    let parts : Code = c.args.code.now in
    IfOk-weaker c.cuts_by_degree.result
    (IsSumOfTerms 2 (terms_of_pairs (degree_cuts parts)))
    (IsAnswerWithin 1 (QsymF ∷ QsymF ∷ []) (sum parts) (applied coproduct 0 (element QsymF parts)))
    (λ out sums. degree_cuts_within parts out c.requires.index (omega (arith, c.requires.degree)) sums)
    c.cuts_by_degree.ensures
