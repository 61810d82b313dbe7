use Rattle.std.proofs.Common.{◌+◌, [], ◌∷◌, length, subst, arith}
use Rattle.std.specs.Prelude.{IfOk}
use Rattle.std.proofs.lemmas.Result.{IfOk-weaker}
use Rattle.basis_names.specs.declared.bases.BasisId.TheVariants.{WqsymM}
use Rattle.index_rules.specs.Rules.{IsAnswerWithin}
use Rattle.linear_combos.specs.CodeLists.{ListsEach}
use Rattle.linear_combos.specs.Combos.{IsSumOfTerms}
use Rattle.product_laws.specs.Products.{terms_of_codes}
use Rattle.realisations.specs.Codes.{Code}
use Rattle.realisations.specs.Readings.{element, product}
use Rattle.word_laws.specs.Merges.{IsMerge}
use Rattle.wqsym.proofs.Products.{merges_within}
use Rattle.wqsym.proofs.monomial.WqsymMAlgebra.product.Goals as goal

pub returns : goal.returns
returns c =
    let u : Code = c.args.left.now in
    let v : Code = c.args.right.now in
    let lists : ListsEach (IsMerge u v) c.in_ok-merges.merges =
    subst (λ (s : Code). ListsEach (IsMerge s v) c.in_ok-merges.merges) c.packed_word.ensures
    (subst (λ (t : Code). ListsEach (IsMerge c.packed_word.result t) c.in_ok-merges.merges) c.packed_word-2.ensures c.in_ok-merges.ensures) in
    let is : IfOk c.signed_sum.result (IsSumOfTerms 1 (terms_of_codes c.in_ok-merges.merges)) = c.signed_sum.ensures in
    IfOk-weaker c.signed_sum.result (IsSumOfTerms 1 (terms_of_codes c.in_ok-merges.merges)) (IsAnswerWithin 2 (WqsymM ∷ []) (length u + length v) (product (element WqsymM u) (element WqsymM v)))
    (λ out sum. merges_within u v c.in_ok-merges.merges out c.requires.left c.requires.right (omega (arith, c.requires.degree)) lists sum)
    is
