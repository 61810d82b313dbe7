use Rattle.std.proofs.Common.{subst}
use Rattle.std.proofs.lemmas.Result.{IfOk-weaker}
use Rattle.compositions.specs.QuasiShuffles.{IsProduct}
use Rattle.compositions.proofs.Readings.{product_answer}
use Rattle.compositions.proofs.products.quasi_shuffle.Goals as goal

pub returns : goal.returns
returns c =
    let a = c.code.ensures.value in
    let b = c.code-2.ensures.value in
    IfOk-weaker c.product_of_codes.result (IsProduct c.code.result.now c.code-2.result.now) _
    (λ product is. product_answer c.args.a.now c.args.b.now product c.code.ensures.small.positive c.code-2.ensures.small.positive
    (subst (λ j. IsProduct j c.args.b.now product) a (subst (λ k. IsProduct c.code.result.now k product) b is)))
    c.product_of_codes.ensures
