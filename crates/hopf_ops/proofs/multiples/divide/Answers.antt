use Rattle.std.proofs.Common.{◌≡◌, ◌≢◌, ℕ, pos, [], ◌∷◌, length, ap, subst, ◌∙◌, arith}
use Rattle.std.specs.Prelude.{All, IfOk, unsigned_abs}
use Rattle.std.specs.Int.{w128}
use Rattle.std.proofs.lemmas.Int.{to_z-of_z, fits_signed_from_abs}
use Rattle.std.proofs.lemmas.List.Elements.{All-cons}
use Rattle.std.proofs.lemmas.Result.{IfOk-weaker}
use Rattle.hopf_num.specs.Fractions.{Ratio, reciprocal}
use Rattle.hopf_num.specs.Room.{product_rule}
use Rattle.realisations.specs.Combinations.{Combination, norm_of}
use Rattle.linear_combos.specs.Combos.{IsMultiple}
use Rattle.linear_combos.specs.Faults.{TestsRoom}
use Rattle.hopf_laws.specs.Values.{ratio_of, reading_of}
use Rattle.basis_routes.specs.declared.checks.Check.TheVariants.{Scalar, Nonzero}
use Rattle.basis_routes.specs.Checks.{Passes, Tests, room_checks}
use Rattle.basis_routes.proofs.Rows.{tests_back}
use Rattle.hopf_ops.specs.Answers.{IsOver, IsAnswerOver}
use Rattle.hopf_ops.specs.Operations.{quotient_checks}
use Rattle.hopf_ops.proofs.RowsInSteps.{tests_row}
use Rattle.hopf_ops.proofs.Rooms.{answer_expands, answer_tests_room}
use Rattle.hopf_ops.proofs.MultiplesOfValues.{multiple_over, multiple_reads, abs-with_sign_of}
use Rattle.hopf_ops.proofs.multiples.divide.Goals as goal
use Rattle.hopf_ops.specs.ReadingOperations.{quotient}

pub over_bases-requires : goal.over_bases-requires
over_bases-requires c =
    let a = c.args.a.now in
    let multiple : IfOk c.scale.result (IsMultiple a.combination c.recip.result) = rw (← c.combo.ensures.combination) c.scale.ensures.multiple in
    rw (c.copy.ensures, c.bases.ensures.bases)
    (IfOk-weaker c.scale.result (IsMultiple a.combination c.recip.result) (IsOver a.bases) (λ s is. multiple_over a c.recip.result s c.bases.ensures.value is) multiple)

-- the divisor is a scalar other than 0
pub returns : goal.returns
returns c =
    let a = c.args.a.now in
    let b = c.args.b.now in
    let ratio = ratio_of b in
    let by : c.recip.result ≡ reciprocal ratio = c.recip.ensures ∙ ap (λ r. reciprocal r) c.in-Some.ensures.1 in
    let scalar : Passes (Scalar (length b.bases)) = c.in-Some.ensures.0 in
    let nonzero : Passes (Nonzero ratio.num) = subst (λ (r : Ratio). r.num ≢ pos 0) c.in-Some.ensures.1 (rw (c.num.ensures.value, to_z-of_z w128 c.in-Some.divisor.num (fits_signed_from_abs w128 c.in-Some.divisor.num c.num.ensures.lowest.num_small)) at (c.in_ok-test.ensures.checks 0 (Nonzero (pos 0)) (omega arith))) in
    let pass : All Passes (Scalar (length b.bases) ∷ Nonzero ratio.num ∷ []) =
    All-cons Passes (Scalar (length b.bases)) (Nonzero ratio.num ∷ []) scalar (All-cons Passes (Nonzero ratio.num) [] nonzero (λ k d lt. absurd (omega arith))) in
    let needs = product_rule a.combination.den (unsigned_abs ratio.num) (norm_of a.combination.terms) b.combination.den 0 in
    let room : TestsRoom needs c.scale.result =
    subst (λ (n : ℕ). TestsRoom (product_rule a.combination.den (unsigned_abs ratio.num) (norm_of a.combination.terms) n 0) c.scale.result) (abs-with_sign_of ratio.num b.combination.den)
    (subst (λ (r : Ratio). TestsRoom (product_rule a.combination.den r.den (norm_of a.combination.terms) (unsigned_abs r.num) 0) c.scale.result) by
    (subst (λ (x : Combination). TestsRoom (product_rule x.den c.recip.result.den (norm_of x.terms) (unsigned_abs c.recip.result.num) 0) c.scale.result) c.combo.ensures.combination c.scale.ensures.room)) in
    let tests : Tests (quotient_checks a b) c.over_bases.result =
    tests_back (Scalar (length b.bases) ∷ Nonzero ratio.num ∷ []) (room_checks needs) c.over_bases.result pass
    (answer_tests_room c.copy.result needs c.scale.result c.over_bases.result room c.over_bases.ensures.answer) in
    let multiple : IfOk c.scale.result (IsMultiple a.combination (reciprocal (ratio_of b))) =
    subst (λ (r : Ratio). IfOk c.scale.result (IsMultiple a.combination r)) by (rw (← c.combo.ensures.combination) c.scale.ensures.multiple) in
    tests_row (quotient_checks a b) a.bases (quotient (reading_of a) (reading_of b)) c.over_bases.result tests
    (answer_expands (IsMultiple a.combination (reciprocal (ratio_of b))) a.bases (quotient (reading_of a) (reading_of b)) c.scale.result c.over_bases.result
    (subst (λ bases. IsAnswerOver bases c.scale.result c.over_bases.result) (c.copy.ensures ∙ c.bases.ensures.bases) c.over_bases.ensures.answer) multiple c.over_bases.ensures.value
    (λ s is ps points. multiple_reads a (reciprocal (ratio_of b)) s is ps))
