use Rattle.std.proofs.Common.{[], ◌∷◌, length}
use Rattle.std.proofs.lemmas.Result.{IfOk-weaker}
use Rattle.basis_names.specs.declared.bases.BasisId.TheVariants.{FqsymF}
use Rattle.coproduct_laws.specs.Coproducts.{terms_of_pairs}
use Rattle.coproduct_rules.specs.PlaceCuts.{place_cuts}
use Rattle.index_rules.specs.Rules.{IsAnswerWithin}
use Rattle.linear_combos.specs.Combos.{IsSumOfTerms}
use Rattle.realisations.specs.Codes.{Code}
use Rattle.realisations.specs.Readings.{applied, coproduct, element}
use Rattle.fqsym.proofs.Coproducts.{place_cuts_within}
use Rattle.fqsym.proofs.fundamental.FqsymFCoalgebra.coproduct.Goals as goal

pub returns : goal.returns
returns c =
    let s : Code = c.args.code.now in
    IfOk-weaker c.cuts_by_places.result
    (IsSumOfTerms 2 (terms_of_pairs (place_cuts s)))
    (IsAnswerWithin 1 (FqsymF ∷ FqsymF ∷ []) (length s) (applied coproduct 0 (element FqsymF s)))
    (λ out sums. place_cuts_within s out c.requires sums)
    c.cuts_by_places.ensures
