use Rattle.std.proofs.Common.{◌≡◌, [], ◌∷◌, length, subst, sym}
use Rattle.std.proofs.lemmas.Result.{IfOk-weaker}
use Rattle.basis_names.specs.declared.bases.BasisId.TheVariants.{FqsymF, FqsymG}
use Rattle.index_rules.specs.Rules.{IsAnswerWithin}
use Rattle.realisations.specs.Codes.{Code}
use Rattle.realisations.specs.Combinations.{Combination}
use Rattle.realisations.specs.Readings.{element}
use Rattle.realisations.specs.Standardisation.{inverse}
use Rattle.fqsym.proofs.Changes.{dual_in_fundamental, one_element}
use Rattle.fqsym.proofs.dual.FqsymGChangeFqsymF.change.Goals as goal

pub returns : goal.returns
returns c =
    let s : Code = c.args.code.now in
    IfOk-weaker c.element_of_inverse.result (λ (out : Combination). out ≡ one_element (inverse s)) (IsAnswerWithin 0 (FqsymF ∷ []) (length s) (element FqsymG s))
    (λ out is. subst (IsAnswerWithin 0 (FqsymF ∷ []) (length s) (element FqsymG s)) (sym is) (dual_in_fundamental s c.requires.index.index))
    c.element_of_inverse.ensures
