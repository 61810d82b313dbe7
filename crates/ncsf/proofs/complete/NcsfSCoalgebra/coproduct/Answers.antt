use Rattle.std.proofs.Common.{[], ◌∷◌}
use Rattle.std.specs.List.{sum}
use Rattle.std.proofs.lemmas.Result.{IfOk-weaker}
use Rattle.basis_names.specs.declared.bases.BasisId.TheVariants.{NcsfS}
use Rattle.coproduct_laws.specs.Coproducts.{terms_of_pairs}
use Rattle.coproduct_rules.specs.PartCuts.{part_cuts}
use Rattle.index_rules.specs.Rules.{IsAnswerWithin}
use Rattle.linear_combos.specs.Combos.{IsSumOfTerms}
use Rattle.realisations.specs.Codes.{Code}
use Rattle.realisations.specs.Readings.{applied, coproduct, element}
use Rattle.ncsf.proofs.Growth.{complete_cuts}
use Rattle.ncsf.proofs.complete.NcsfSCoalgebra.coproduct.Goals as goal

pub returns : goal.returns
returns c =
    let parts : Code = c.args.code.now in
    IfOk-weaker c.cuts_by_parts.result
    (IsSumOfTerms 2 (terms_of_pairs (part_cuts parts)))
    (IsAnswerWithin 1 (NcsfS ∷ NcsfS ∷ []) (sum parts) (applied coproduct 0 (element NcsfS parts)))
    (λ out sums. complete_cuts parts out c.requires.index sums)
    c.cuts_by_parts.ensures
