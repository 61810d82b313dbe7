use Rattle.std.proofs.Common.{◌≡◌, ◌-◌, ◌<◌, drop, length, subst, sym, ◌∙◌, ap, arith}
use Rattle.compositions.specs.QuasiShuffles.{AreFactors, IsProduct}
use Rattle.compositions.proofs.Rows.{factors_last, last_rest, read_cell}
use Rattle.compositions.proofs.products.next_in_row.Goals as goal

pub product_of-requires-clause-factors : goal.product_of-requires-clause-factors
product_of-requires-clause-factors c =
    let last : c.suffix-last.result ≡ drop (length c.args.b.now - c.args.len) c.args.b.now = c.suffix-last.ensures ∙ ap (λ m. drop (m - c.args.len) c.args.b.now) c.len.ensures.value in
    subst (AreFactors c.args.a.now) (sym last) (factors_last c.args.a.now c.args.b.now c.args.len c.requires.in_range c.requires.factors)

pub product_of-requires-clause-second : goal.product_of-requires-clause-second
product_of-requires-clause-second c =
    let last : c.suffix-last.result ≡ drop (length c.args.b.now - c.args.len) c.args.b.now = c.suffix-last.ensures ∙ ap (λ m. drop (m - c.args.len) c.args.b.now) c.len.ensures.value in
    let rest = ap (drop 1) last ∙ last_rest c.args.b.now c.args.len c.requires.in_range c.requires.others in
    let here : c.args.len - 1 < length c.args.row.now = omega (arith, c.requires.row.long, c.requires.others) in
    subst (λ k. IsProduct c.args.a.now k c.index-row-len.result) (sym rest)
    (subst (IsProduct c.args.a.now (drop (length c.args.b.now - (c.args.len - 1)) c.args.b.now)) (read_cell c.args.row.now (c.args.len - 1) c.index-row-len.result here c.index-row-len.is)
    (c.requires.row.each (c.args.len - 1) (omega (arith, c.requires.others))))

pub product_of-requires-clause-both : goal.product_of-requires-clause-both
product_of-requires-clause-both c =
    let last : c.suffix-last.result ≡ drop (length c.args.b.now - c.args.len) c.args.b.now = c.suffix-last.ensures ∙ ap (λ m. drop (m - c.args.len) c.args.b.now) c.len.ensures.value in
    let rest = ap (drop 1) last ∙ last_rest c.args.b.now c.args.len c.requires.in_range c.requires.others in
    let here : c.args.len - 1 < length c.args.below.now = omega (arith, c.requires.below.long, c.requires.others, c.requires.in_range) in
    subst (λ k. IsProduct (drop 1 c.args.a.now) k c.index-below-len-2.result) (sym rest)
    (subst (IsProduct (drop 1 c.args.a.now) (drop (length c.args.b.now - (c.args.len - 1)) c.args.b.now)) (read_cell c.args.below.now (c.args.len - 1) c.index-below-len-2.result here c.index-below-len-2.is)
    (c.requires.below.each (c.args.len - 1) (omega (arith, c.requires.others, c.requires.in_range))))
