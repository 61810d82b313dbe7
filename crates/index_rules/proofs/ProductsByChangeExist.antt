-- Products by change exist: each of their steps does.
use Rattle.std.proofs.Common.{◌≡◌, ℕ, ◌+◌, ◌*◌, ◌≤◌, [], ◌∷◌, sym, ap, arith, min}
use Rattle.index_rules.specs.Changes.{change_facts}
use Rattle.index_rules.specs.Laws.{ProductsByChangeExistLaw}
use Rattle.index_rules.specs.Spaces.{limit_for}
use Rattle.index_rules.proofs.LiftsExist.{lifts_exist, products_exist}
use Rattle.index_rules.proofs.ProductsByChange.{limit-small, growths, can_multiply, multiplied_answer, can_change, changed_answer}
use Rattle.index_rules.proofs.TensorsExist.{tensor_exists}
use Rattle.realisations.specs.Indices.{degree_of}
use Rattle.realisations.specs.Readings.{Reading, product, element}

pub products_by_change_exist : ProductsByChangeExistLaw
products_by_change_exist from to out growth back kinds limits five there products home left right hl hr within =
    let n : ℕ = degree_of from left in
    let m : ℕ = degree_of from right in
    let limit = limit-small from in
    let small : n + m ≤ 12 = omega (arith, within, limit) in
    let r : Reading = element from left in
    let s : Reading = element from right in
    let (c, hc) = there left (record { index = hl; degree = omega (arith, within, limits) }) in
    let (d, hd) = there right (record { index = hr; degree = omega (arith, within, limits) }) in
    let dens : c.den * d.den ≡ 1 = λ i. hc.answer.whole i * hd.answer.whole i in
    let room = growths _ _ n m hc.answer.small hd.answer.small (omega (arith, small)) (omega (arith, small)) in
    let (t, made) = tensor_exists c d hc.answer.canonical hd.answer.canonical room (omega (arith, dens)) in
    let (p, multiplied) = products_exist to growth products 0 t made.canonical (can_multiply to out n m small r s c d t hc hd made.canonical made.tensor (omega (arith, within, limits))) in
    let is = multiplied_answer to out n m small r s c d t hc hd made.canonical made.tensor growth (omega (arith, five)) (ap (λ k. k ∷ []) (sym kinds)) p multiplied in
    let most : ℕ = min (limit_for to) (limit_for from) in
    let (q, lifted) = lifts_exist (change_facts to from most back) home 0 p is.answer.canonical
    (can_change to from most back (out + growth) (n + m) (product r s) p is (omega (arith, within, limits)) small) in
    (q, changed_answer to from most back (out + growth) (n + m) (product r s) p is five kinds q lifted)
