use Rattle.std.proofs.Common.{◌≡◌, ◌<◌, ◌^◌, [], pos, take, unsigned_abs, subst, sym, ◌∙◌, ap, arith}
use Rattle.std.specs.Int.{IsGcd}
use Rattle.std.proofs.lemmas.Int.{to_z-of_z, fits_signed_from_abs}
use Rattle.std.proofs.lemmas.List.{get_or_read, take_more}
use Rattle.std.proofs.lemmas.List.Sums.{get_or-le-sum_by}
use Rattle.realisations.specs.Combinations.{term_at}
use Rattle.linear_combos.specs.Merges.{IsCommon}
use Rattle.linear_combos.proofs.LowestCombos.{IsCommon-push, IsCommon-front}
use mir.Syntax.{w128}
use Rattle.linear_combos.proofs.unreduced.common_divisor.Goals as goal

pub loop-term-preserved : goal.loop-term-preserved
loop-term-preserved c =
    let terms = c.args.terms.now in
    let at = c.loop-term.term-index in
    let t = term_at terms at in
    let read : c.term-item.result ≡ t = get_or_read terms at c.term-item.result c.loop-term-test.true c.term-item.is (pos 0, []) in
    let num : c.term-item.result.0 ≡ t.0 = ap (λ u. u.0) read in
    let size : unsigned_abs c.term-item.result.0 < 2 ^ 127 =
    omega (arith, ap unsigned_abs num, get_or-le-sum_by (λ u. unsigned_abs u.0) terms at (pos 0, []) c.loop-term-test.true, c.requires) in
    let value : c.unsigned_abs.result ≡ unsigned_abs t.0 = c.unsigned_abs.ensures.value
    ∙ ap unsigned_abs (to_z-of_z w128 c.term-item.result.0 (fits_signed_from_abs w128 _ size) ∙ num) in
    let common : IsGcd (unsigned_abs t.0) c.loop-term.common c.gcd-common.result = subst (λ n. IsGcd n c.loop-term.common c.gcd-common.result) value c.gcd-common.ensures in
    subst (λ us. IsCommon c.args.den us c.gcd-common.result) (sym (take_more terms at (pos 0, []) c.loop-term-test.true))
    (IsCommon-push c.args.den (take at terms) t.0 t.1 c.loop-term.common c.gcd-common.result c.loop-term.invariant common)

pub returns-then-common-eq1 : goal.returns-then-common-eq1
returns-then-common-eq1 c =
    IsCommon-front c.args.den c.args.terms.now c.loop-term.term-index c.loop-term-test.true
    (subst (IsCommon c.args.den (take c.loop-term.term-index c.args.terms.now)) c.if-common-eq1.true c.loop-term.invariant)
