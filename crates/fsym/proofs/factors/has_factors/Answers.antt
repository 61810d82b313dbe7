use Rattle.std.proofs.Common.{◌≡◌, ◌+◌, suc, length, take, ◌∙◌, ap, arith}
use Rattle.product_laws.specs.TableauCuts.{back_tableau}
use Rattle.realisations.specs.Tableaux.{tableau_code}
use Rattle.tableau_laws.specs.Intervals.{restricted}
use Rattle.fsym.proofs.Products.{back_decides}
use Rattle.fsym.proofs.factors.has_factors.Goals as goal

pub returns : goal.returns
returns c =
    let from : c.len-2.result + 1 ≡ suc (length c.args.left.now) = omega (arith, c.len-2.ensures.value) in
    let front : c.prefix.result ≡ take (length c.args.left.now) c.args.code.now = c.prefix.ensures ∙ ap (λ n. take n c.args.code.now) c.len.ensures.value in
    let back : c.code.result ≡ back_tableau (length c.args.left.now) c.args.code.now =
    c.code.ensures ∙ ap tableau_code c.restrict-back.ensures.own ∙ (λ i. tableau_code (restricted (from i) (c.len-3.ensures.value i) (c.tableau-whole.ensures.value i))) in
    back_decides c.args.left.now c.args.right.now c.args.code.now c.prefix.result c.code.result c.ne.result c.eq.result front c.ne.ensures c.if-ne.false back c.eq.ensures
