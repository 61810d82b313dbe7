use Rattle.std.proofs.Common.{◌≡◌, ℕ, ◌*◌, ◌/◌, length, sym, ap, subst, ◌∙◌}
use Rattle.std.proofs.Math.Nat.{div-mul_cancel}
use Rattle.std.specs.Prelude.{IfOk}
use Rattle.std.proofs.lemmas.Result.{IfOk-weaker}
use Rattle.hopf_num.specs.Divisors.{IsLcm}
use Rattle.hopf_num.specs.Room.{sum_rule}
use Rattle.linear_combos.specs.Faults.{TestsRoom}
use Rattle.realisations.specs.Combinations.{Combination, norm_of}
use Rattle.hopf_laws.specs.Values.{reading_of}
use Rattle.hopf_ops.specs.Answers.{IsOver, IsAnswerOver, IsSumOrDifference}
use Rattle.hopf_ops.specs.ReadingOperations.{sum_or_difference}
use Rattle.hopf_ops.proofs.Rooms.{answer_tests_room, answer_expands}
use Rattle.hopf_ops.proofs.SumsOfValues.{sum_over, sum_reads}
use Rattle.hopf_ops.proofs.sums.with_terms.Goals as goal

pub with_terms_of-requires-clause-rank : goal.with_terms_of-requires-clause-rank
with_terms_of-requires-clause-rank c =
    ap (λ (x : Combination). x.rank) c.into_parts-bases.ensures.combination ∙ c.into_parts-bases.ensures.value.rank
    ∙ ap length c.requires.same
    ∙ sym c.combo.ensures.value.rank ∙ ap (λ (x : Combination). x.rank) (sym c.combo.ensures.combination)

pub with_terms_of-requires-clause-factor : goal.with_terms_of-requires-clause-factor
with_terms_of-requires-clause-factor c =
    let a = c.args.a.combination.den in
    let b = c.args.b.now.combination.den in
    let factor : c.den_of.result / c.den_of-2.result ≡ a / b = (λ i. c.den_of.ensures.den i / c.den_of-2.ensures.den i) in
    let whole : a / b * b ≡ a = div-mul_cancel b c.requires.multiple in
    rw (factor, c.into_parts-bases.ensures.combination, c.combo.ensures.combination) (sym whole)

pub over_bases-requires : goal.over_bases-requires
over_bases-requires c =
    let a = c.args.a in
    let b = c.args.b.now in
    let sum : IfOk c.with_terms_of.result (IsSumOrDifference c.args.minus a.combination b.combination) = rw (← c.into_parts-bases.ensures.combination, ← c.combo.ensures.combination) c.with_terms_of.ensures.sum in
    rw c.into_parts-bases.ensures.bases (IfOk-weaker c.with_terms_of.result (IsSumOrDifference c.args.minus a.combination b.combination) (IsOver a.bases)
    (λ s is. sum_over c.args.minus a b s c.into_parts-bases.ensures.value c.combo.ensures.value c.requires.same is) sum)

pub returns-clause-checks : goal.returns-clause-checks
returns-clause-checks c = λ m is.
    let a = c.args.a in
    let b = c.args.b.now in
    let needs = sum_rule m a.combination.den b.combination.den (norm_of a.combination.terms) (norm_of b.combination.terms) in
    let left = c.into_parts-bases.result.1 in
    let room =
    subst (λ (x : Combination). (n : ℕ) → IsLcm x.den b.combination.den n → TestsRoom (sum_rule n x.den b.combination.den (norm_of x.terms) (norm_of b.combination.terms)) c.with_terms_of.result) c.into_parts-bases.ensures.combination
    (subst (λ (y : Combination). (n : ℕ) → IsLcm left.den y.den n → TestsRoom (sum_rule n left.den y.den (norm_of left.terms) (norm_of y.terms)) c.with_terms_of.result) c.combo.ensures.combination c.with_terms_of.ensures.room) in
    answer_tests_room c.into_parts-bases.result.0 needs c.with_terms_of.result c.over_bases.result (room m is) c.over_bases.ensures.answer

pub returns-clause-value : goal.returns-clause-value
returns-clause-value c =
    let a = c.args.a in
    let b = c.args.b.now in
    let sum : IfOk c.with_terms_of.result (IsSumOrDifference c.args.minus a.combination b.combination) = rw (← c.into_parts-bases.ensures.combination, ← c.combo.ensures.combination) c.with_terms_of.ensures.sum in
    answer_expands (IsSumOrDifference c.args.minus a.combination b.combination) a.bases (sum_or_difference c.args.minus (reading_of a) (reading_of b)) c.with_terms_of.result c.over_bases.result
    (subst (λ bases. IsAnswerOver bases c.with_terms_of.result c.over_bases.result) c.into_parts-bases.ensures.bases c.over_bases.ensures.answer) sum c.over_bases.ensures.value
    (λ s is ps points. sum_reads c.args.minus a b s c.requires.same is ps)
