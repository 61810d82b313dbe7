use Rattle.std.proofs.Common.{◌≡◌, ◌+◌, [], ◌∷◌, length, subst, ◌∙◌, List}
use Rattle.std.specs.Prelude.{IfOk}
use Rattle.std.proofs.lemmas.Result.{IfOk-weaker}
use Rattle.basis_names.specs.declared.bases.BasisId.TheVariants.{FqsymF}
use Rattle.index_rules.specs.Rules.{IsAnswerWithin}
use Rattle.linear_combos.specs.Combos.{IsSumOfTerms}
use Rattle.product_laws.specs.Products.{terms_of_codes}
use Rattle.realisations.specs.Codes.{Code}
use Rattle.realisations.specs.Readings.{element, product}
use Rattle.realisations.specs.Words.{shifted_shuffles}
use Rattle.fqsym.proofs.Products.{shuffles_within}
use Rattle.fqsym.proofs.fundamental.FqsymFAlgebra.product.Goals as goal

pub returns : goal.returns
returns c =
    let s : Code = c.args.left.now in
    let t : Code = c.args.right.now in
    let codes : c.in_ok-shuffles.shuffles ≡ shifted_shuffles s t = c.in_ok-shuffles.ensures ∙ (λ i. shifted_shuffles (c.permutation.ensures i) (c.permutation-2.ensures i)) in
    let is : IfOk c.signed_sum.result (IsSumOfTerms 1 (terms_of_codes c.in_ok-shuffles.shuffles)) = c.signed_sum.ensures in
    IfOk-weaker c.signed_sum.result (IsSumOfTerms 1 (terms_of_codes c.in_ok-shuffles.shuffles)) (IsAnswerWithin 1 (FqsymF ∷ []) (length s + length t) (product (element FqsymF s) (element FqsymF t)))
    (λ out sum. shuffles_within s t out c.requires.left c.requires.right (subst (λ (ws : List Code). IsSumOfTerms 1 (terms_of_codes ws) out) codes sum))
    is
