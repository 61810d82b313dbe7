use Rattle.std.proofs.Common.{◌++◌, subst}
use Rattle.std.specs.Prelude.{IfOk}
use Rattle.std.proofs.lemmas.Result.{IfOk-weaker}
use Rattle.hopf_num.specs.Room.{product_rule}
use Rattle.realisations.specs.Combinations.{Combination, norm_of}
use Rattle.linear_combos.specs.Combos.{IsTensor}
use Rattle.linear_combos.specs.Faults.{TestsRoom}
use Rattle.realisations.specs.Readings.{tensor}
use Rattle.hopf_laws.specs.Values.{reading_of}
use Rattle.hopf_ops.specs.Answers.{IsOver, IsAnswerOver}
use Rattle.hopf_ops.proofs.Rooms.{answer_expands, answer_tests_room}
use Rattle.hopf_ops.proofs.TensorsOfValues.{tensor_over, tensor_reads}
use Rattle.hopf_ops.proofs.products.tensor_over.Goals as goal

pub over_bases-requires : goal.over_bases-requires
over_bases-requires c =
    let a = c.args.a.now in
    let b = c.args.b.now in
    let is : IfOk c.tensor.result (IsTensor a.combination b.combination) = rw (← c.combo.ensures.combination, ← c.combo-2.ensures.combination) c.tensor.ensures.tensor in
    rw c.requires.bases (IfOk-weaker c.tensor.result (IsTensor a.combination b.combination) (IsOver (a.bases ++ b.bases))
    (λ t h. tensor_over a b t c.combo.ensures.value c.combo-2.ensures.value c.requires.rank c.requires.degree h) is)

pub returns-clause-checks : goal.returns-clause-checks
returns-clause-checks c =
    let a = c.args.a.now in
    let b = c.args.b.now in
    let left = c.combo.result.now in
    let needs = product_rule a.combination.den b.combination.den (norm_of a.combination.terms) (norm_of b.combination.terms) 0 in
    let room : TestsRoom needs c.tensor.result =
    subst (λ (x : Combination). TestsRoom (product_rule x.den b.combination.den (norm_of x.terms) (norm_of b.combination.terms) 0) c.tensor.result) c.combo.ensures.combination
    (subst (λ (y : Combination). TestsRoom (product_rule left.den y.den (norm_of left.terms) (norm_of y.terms) 0) c.tensor.result) c.combo-2.ensures.combination c.tensor.ensures.room) in
    answer_tests_room c.args.bases needs c.tensor.result c.over_bases.result room c.over_bases.ensures.answer

pub returns-clause-value : goal.returns-clause-value
returns-clause-value c =
    let a = c.args.a.now in
    let b = c.args.b.now in
    let is : IfOk c.tensor.result (IsTensor a.combination b.combination) = rw (← c.combo.ensures.combination, ← c.combo-2.ensures.combination) c.tensor.ensures.tensor in
    answer_expands (IsTensor a.combination b.combination) (a.bases ++ b.bases) (tensor (reading_of a) (reading_of b)) c.tensor.result c.over_bases.result
    (subst (λ bases. IsAnswerOver bases c.tensor.result c.over_bases.result) c.requires.bases c.over_bases.ensures.answer) is c.over_bases.ensures.value
    (λ t h ps points. tensor_reads a b t c.combo.ensures.value h.weighs ps points)
