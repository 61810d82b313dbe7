use Rattle.std.proofs.Common.{[], ◌∷◌}
use Rattle.std.specs.List.{sum}
use Rattle.std.proofs.lemmas.Result.{IfOk-weaker}
use Rattle.basis_names.specs.declared.bases.BasisId.TheVariants.{NcsfR}
use Rattle.coproduct_laws.specs.Coproducts.{terms_of_pairs}
use Rattle.ncsf.specs.PairLists.{ribbon_pairs}
use Rattle.index_rules.specs.Rules.{IsAnswerWithin}
use Rattle.linear_combos.specs.Combos.{IsSumOfTerms}
use Rattle.realisations.specs.Codes.{Code}
use Rattle.realisations.specs.Readings.{applied, coproduct, element}
use Rattle.ncsf.proofs.RibbonRule.{ribbon_cuts_within}
use Rattle.ncsf.proofs.ribbon.NcsfRCoalgebra.coproduct.Goals as goal

pub returns : goal.returns
returns c =
    let parts : Code = c.args.code.now in
    IfOk-weaker c.ribbon_cuts.result
    (IsSumOfTerms 2 (terms_of_pairs (ribbon_pairs parts)))
    (IsAnswerWithin 2 (NcsfR ∷ NcsfR ∷ []) (sum parts) (applied coproduct 0 (element NcsfR parts)))
    (λ out sums. ribbon_cuts_within parts out c.requires.index sums)
    c.ribbon_cuts.ensures
