use Rattle.std.proofs.Common.{ℕ, length, sym, ap, subst, ◌∙◌}
use Rattle.std.specs.Prelude.{IfOk}
use Rattle.std.proofs.lemmas.Result.{IfOk-weaker}
use Rattle.hopf_num.specs.Divisors.{IsLcm}
use Rattle.hopf_num.specs.Room.{sum_rule}
use Rattle.linear_combos.specs.Faults.{TestsRoom}
use Rattle.realisations.specs.Combinations.{Combination, norm_of}
use Rattle.hopf_laws.specs.Values.{reading_of}
use Rattle.hopf_ops.specs.Answers.{IsOver, IsAnswerOver, IsSumOrDifference}
use Rattle.hopf_ops.specs.ReadingOperations.{sum_or_difference}
use Rattle.hopf_ops.proofs.Rooms.{answer_tests_room, answer_expands}
use Rattle.hopf_ops.proofs.SumsOfValues.{sum_over, sum_reads}
use Rattle.hopf_ops.proofs.sums.sum_of_same.Goals as goal

pub plus_or_minus-requires : goal.plus_or_minus-requires
plus_or_minus-requires c = record {
  rank = ap (λ (x : Combination). x.rank) c.combo.ensures.combination ∙ c.combo.ensures.value.rank ∙ ap length c.requires.same
      ∙ sym c.combo-2.ensures.value.rank ∙ ap (λ (x : Combination). x.rank) (sym c.combo-2.ensures.combination);
}

pub over_bases-requires : goal.over_bases-requires
over_bases-requires c =
    let a = c.args.a.now in
    let b = c.args.b.now in
    let sum : IfOk c.plus_or_minus.result (IsSumOrDifference c.args.minus a.combination b.combination) = rw (← c.combo.ensures.combination, ← c.combo-2.ensures.combination) c.plus_or_minus.ensures.sum in
    rw (c.copy.ensures, c.bases.ensures.bases) (IfOk-weaker c.plus_or_minus.result (IsSumOrDifference c.args.minus a.combination b.combination) (IsOver a.bases)
    (λ s is. sum_over c.args.minus a b s c.combo.ensures.value c.combo-2.ensures.value c.requires.same is) sum)

pub returns-clause-checks : goal.returns-clause-checks
returns-clause-checks c = λ m is.
    let a = c.args.a.now in
    let b = c.args.b.now in
    let needs = sum_rule m a.combination.den b.combination.den (norm_of a.combination.terms) (norm_of b.combination.terms) in
    let left = c.combo.result.now in
    let room =
    subst (λ (x : Combination). (n : ℕ) → IsLcm x.den b.combination.den n → TestsRoom (sum_rule n x.den b.combination.den (norm_of x.terms) (norm_of b.combination.terms)) c.plus_or_minus.result) c.combo.ensures.combination
    (subst (λ (y : Combination). (n : ℕ) → IsLcm left.den y.den n → TestsRoom (sum_rule n left.den y.den (norm_of left.terms) (norm_of y.terms)) c.plus_or_minus.result) c.combo-2.ensures.combination c.plus_or_minus.ensures.room) in
    answer_tests_room c.copy.result needs c.plus_or_minus.result c.over_bases.result (room m is) c.over_bases.ensures.answer

pub returns-clause-value : goal.returns-clause-value
returns-clause-value c =
    let a = c.args.a.now in
    let b = c.args.b.now in
    let sum : IfOk c.plus_or_minus.result (IsSumOrDifference c.args.minus a.combination b.combination) = rw (← c.combo.ensures.combination, ← c.combo-2.ensures.combination) c.plus_or_minus.ensures.sum in
    answer_expands (IsSumOrDifference c.args.minus a.combination b.combination) a.bases (sum_or_difference c.args.minus (reading_of a) (reading_of b)) c.plus_or_minus.result c.over_bases.result
    (subst (λ bases. IsAnswerOver bases c.plus_or_minus.result c.over_bases.result) (c.copy.ensures ∙ c.bases.ensures.bases) c.over_bases.ensures.answer) sum c.over_bases.ensures.value
    (λ s is ps points. sum_reads c.args.minus a b s c.requires.same is ps)
