use Rattle.std.proofs.Common.{◌≡◌, ◌≤◌, ◌<◌, [], ◌++◌, length, arith, append_assoc, append-nil, subst, sym, ◌∙◌, ap}
use Rattle.std.specs.Int.{w128}
use Rattle.std.proofs.lemmas.Int.{to_z-of_z}
use Rattle.realisations.specs.Combinations.{term_at}
use Rattle.value_texts.specs.Text.{IsTextOf, term_text, later_sign}
use Rattle.value_texts.proofs.TextsOfValues.{first_term, next_term, no_term, zero_text_of, scalar_text_of}
use Rattle.value_texts.proofs.values.text_of.Goals as goal

pub returns-then-len-eq0 : goal.returns-then-len-eq0
returns-then-len-eq0 c =
    let none : length c.args.value.now.combination.terms ≡ 0 = ap (λ x. length x.terms) (sym c.combo.ensures.combination) ∙ sym c.len.ensures.value ∙ c.if-len-eq0.true in
    rw (c.in_ok-push_all.ensures.ok, c.new-text.ensures) (zero_text_of c.args.value.now none)

pub returns-then-rank-eq0 : goal.returns-then-rank-eq0
returns-then-rank-eq0 c =
    let some : 0 < length c.args.value.now.combination.terms = omega (arith, c.if-len-eq0.false, c.len.ensures.value, ap (λ x. length x.terms) c.combo.ensures.combination) in
    rw (c.in_ok-append_fraction.ensures, c.new-text.ensures)
    (scalar_text_of c.args.value.now c.coefficient-first.result c.rank.ensures.value (sym c.rank.ensures.rank ∙ c.if-rank-eq0.true) some c.coefficient-first.ensures)

pub loop-place-init : goal.loop-place-init
loop-place-init c = λ later h.
    let v = c.args.value.now in
    let some : 0 < length v.combination.terms = omega (arith, c.if-len-eq0.false, c.len.ensures.value, ap (λ x. length x.terms) c.combo.ensures.combination) in
    let bases : 1 ≤ length v.bases = omega (arith, c.rank.ensures.rank, c.if-rank-eq0.false) in
    rw (c.in_ok-append_term.ensures, c.in_ok-push_all-2.ensures.ok, c.new-text.ensures, c.leading_sign.ensures, to_z-of_z w128 c.num.result (record { sfits = c.num.type_inv }), c.num.ensures.value)
    (first_term v.bases v.combination.den v.combination.terms c.coefficient-first.result later bases some c.coefficient-first.ensures h)

pub loop-place-preserved : goal.loop-place-preserved
loop-place-preserved c = λ later h.
    let v = c.args.value.now in
    let here : c.loop-place.place < length v.combination.terms = omega (arith, c.loop-place-test.true, c.len-place-end.ensures.value, ap (λ x. length x.terms) c.combo-2.ensures.combination) in
    let r = c.coefficient-next.result in
    let step = c.loop-place.invariant _ (next_term v.bases v.combination.den v.combination.terms c.loop-place.place r later here c.coefficient-next.ensures h) in
    let term = term_text v.bases r (term_at v.combination.terms c.loop-place.place).1 in
    rw (c.in_ok-append_term-2.ensures, c.in_ok-push_all-3.ensures.ok, c.joining_sign.ensures, to_z-of_z w128 c.num-in-loop-place.result (record { sfits = c.num-in-loop-place.type_inv }), c.num-in-loop-place.ensures.value)
    (subst (IsTextOf v) (sym (append_assoc c.loop-place.text (later_sign r.num ++ term) later) ∙ ap (λ text. text ++ later) (sym (append_assoc c.loop-place.text (later_sign r.num) term))) step)

pub returns : goal.returns
returns c =
    let v = c.args.value.now in
    let end : length v.combination.terms ≤ c.loop-place.place = omega (arith, c.loop-place-test.false, c.len-place-end.ensures.value, ap (λ x. length x.terms) c.combo-2.ensures.combination) in
    subst (IsTextOf v) (append-nil c.loop-place.text) (c.loop-place.invariant [] (no_term v.bases v.combination.den v.combination.terms c.loop-place.place end))
