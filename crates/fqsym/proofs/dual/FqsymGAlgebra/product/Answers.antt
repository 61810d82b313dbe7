use Rattle.std.proofs.Common.{◌+◌, [], ◌∷◌, length, subst, arith}
use Rattle.std.specs.Prelude.{IfOk}
use Rattle.std.proofs.lemmas.Result.{IfOk-weaker}
use Rattle.basis_names.specs.declared.bases.BasisId.TheVariants.{FqsymG}
use Rattle.index_rules.specs.Rules.{IsAnswerWithin}
use Rattle.linear_combos.specs.CodeLists.{ListsEach}
use Rattle.linear_combos.specs.Combos.{IsSumOfTerms}
use Rattle.product_laws.specs.Products.{terms_of_codes}
use Rattle.realisations.specs.Codes.{Code}
use Rattle.realisations.specs.Readings.{element, product}
use Rattle.word_laws.specs.Merges.{IsConvolution}
use Rattle.fqsym.proofs.Products.{convolutions_within}
use Rattle.fqsym.proofs.dual.FqsymGAlgebra.product.Goals as goal

pub returns : goal.returns
returns c =
    let s : Code = c.args.left.now in
    let t : Code = c.args.right.now in
    let lists : ListsEach (IsConvolution s t) c.in_ok-codes.codes =
    subst (λ (u : Code). ListsEach (IsConvolution u t) c.in_ok-codes.codes) c.permutation.ensures
    (subst (λ (v : Code). ListsEach (IsConvolution c.permutation.result v) c.in_ok-codes.codes) c.permutation-2.ensures c.in_ok-codes.ensures) in
    let is : IfOk c.signed_sum.result (IsSumOfTerms 1 (terms_of_codes c.in_ok-codes.codes)) = c.signed_sum.ensures in
    IfOk-weaker c.signed_sum.result (IsSumOfTerms 1 (terms_of_codes c.in_ok-codes.codes)) (IsAnswerWithin 1 (FqsymG ∷ []) (length s + length t) (product (element FqsymG s) (element FqsymG t)))
    (λ out sum. convolutions_within s t c.in_ok-codes.codes out c.requires.left c.requires.right (omega (arith, c.requires.degree)) lists sum)
    is
