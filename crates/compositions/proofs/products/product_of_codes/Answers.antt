use Rattle.std.proofs.Common.{◌≡◌, ◌+◌, ◌-◌, ◌<◌, ◌≤◌, drop, get_or, length, subst, sym, ◌∙◌, ap, arith}
use Rattle.std.specs.Vec.{vec_len}
use Rattle.std.specs.declared.option.Option.TheVariants.{Some}
use Rattle.compositions.specs.QuasiShuffles.{AreFactors, AreProducts}
use Rattle.compositions.proofs.Rows.{factors_first, last_rest, last_cell}
use Rattle.compositions.proofs.products.product_of_codes.Goals as goal

pub next_row-requires-clause-factors : goal.next_row-requires-clause-factors
next_row-requires-clause-factors c =
    let last : c.suffix.result ≡ drop (length c.args.a.now - (c.loop-len.len + 1)) c.args.a.now = c.suffix.ensures ∙ ap (λ m. drop (m - (c.loop-len.len + 1)) c.args.a.now) c.len.ensures.value in
    let le : c.loop-len.len + 1 ≤ length c.args.a.now = omega (arith, c.len-len-end.ensures.value, c.loop-len-test.true) in
    subst (λ j. AreFactors j c.args.b.now) (sym last) (factors_first c.args.a.now c.args.b.now (c.loop-len.len + 1) le c.requires)

pub next_row-requires-clause-below : goal.next_row-requires-clause-below
next_row-requires-clause-below c =
    let a = c.args.a.now in
    let b = c.args.b.now in
    let last : c.suffix.result ≡ drop (length a - (c.loop-len.len + 1)) a = c.suffix.ensures ∙ ap (λ m. drop (m - (c.loop-len.len + 1)) a) c.len.ensures.value in
    let le : c.loop-len.len + 1 ≤ length a = omega (arith, c.len-len-end.ensures.value, c.loop-len-test.true) in
    let back : c.loop-len.len + 1 - 1 ≡ c.loop-len.len = omega arith in
    let rest : drop 1 c.suffix.result ≡ drop (length a - c.loop-len.len) a = ap (drop 1) last ∙ last_rest a (c.loop-len.len + 1) le (omega arith) ∙ ap (λ n. drop (length a - n) a) back in
    subst (λ j. AreProducts j b (length b + 1) c.deref.result.now) (sym rest)
    (subst (AreProducts (drop (length a - c.loop-len.len) a) b (length b + 1)) (sym c.deref.ensures.value) c.loop-len.invariant)

pub returns : goal.returns
returns c =
    let all : c.loop-len.len ≡ length c.args.a.now = omega (arith, c.len-len-end.ensures.value, c.loop-len-test.false) in
    let row = c.loop-len.row.items in
    let len : vec_len c.loop-len.row ≡ length row = c.loop-len.row.ok.0 in
    let some : 0 < vec_len c.loop-len.row = omega (arith, c.loop-len.invariant.long, len) in
    let last : Some c.unwrap.result ≡ Some (get_or row (length row - 1) c.unwrap.result) = sym c.unwrap.ensures ∙ c.pop.ensures.value c.unwrap.result some ∙ ap (λ n. Some (get_or row (n - 1) c.unwrap.result)) len in
    let read : c.unwrap.result ≡ get_or row (length row - 1) c.unwrap.result = cc last in
    last_cell c.args.a.now c.args.b.now c.loop-len.len row c.unwrap.result all c.loop-len.invariant read
