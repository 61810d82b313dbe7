use Rattle.std.proofs.Common.{◌≡◌, ◌<◌, length, [], ◌∷◌, sym, ◌∙◌, ap, arith, pos, unsigned_abs}
use mir.Syntax.{w128}
use Rattle.std.specs.Prelude.{slice_index_or}
use Rattle.std.proofs.lemmas.Int.{to_z-of_z}
use Rattle.std.proofs.lemmas.List.{get_or_default}
use Rattle.change_laws.specs.Changes.{signed_terms}
use Rattle.change_laws.proofs.ChangeAnswers.{norm_of-signed}
use Rattle.change_laws.proofs.SignedEntries.{abs-with_sign}
use Rattle.index_rules.specs.SignedSums.{signs_of}
use Rattle.index_rules.proofs.PushedTerms.{holds_next}
use Rattle.index_rules.proofs.SignedTerms.{term_at-signed, length-signed}
use Rattle.linear_combos.proofs.Weights.{norm-part}
use Rattle.realisations.specs.Combinations.{term_at}
use Rattle.realisations.specs.Lists.{with_sign}
use Rattle.realisations.specs.Readings.{Terms}
use Rattle.index_rules.proofs.sums.push_signed.Goals as goal

pub push-requires-clause-room : goal.push-requires-clause-room
push-requires-clause-room c =
    let ts : Terms = signed_terms (signs_of c.args.signs) c.args.codes.now in
    let num = to_z-of_z w128 c.sign.result (record { sfits = c.sign.type_inv }) ∙ c.sign.ensures in
    omega (
      arith,
      ap (λ z. unsigned_abs z) num,
      abs-with_sign c.signs_at.result,
      c.loop-at.invariant.holds.norm,
      norm-part ts c.loop-at.at,
      norm_of-signed (signs_of c.args.signs) c.args.codes.now,
      c.len-at-end.ensures,
      c.len-at-end.type_inv,
    )

pub loop-at-preserved : goal.loop-at-preserved
loop-at-preserved c =
    let ts : Terms = signed_terms (signs_of c.args.signs) c.args.codes.now in
    let lt : c.loop-at.at < length c.args.codes.now = omega (arith, c.len-at-end.ensures, c.loop-at-test.true) in
    let here : c.loop-at.at < length ts = omega (arith, lt, length-signed (signs_of c.args.signs) c.args.codes.now) in
    let term = term_at-signed (signs_of c.args.signs) c.args.codes.now c.loop-at.at lt in
    let code : c.at-code.result.now ≡ slice_index_or c.args.codes.now c.loop-at.at [] = c.at-code.ensures ∙ get_or_default c.args.codes.now c.loop-at.at c.at-code.result.now [] lt in
    let num = to_z-of_z w128 c.sign.result (record { sfits = c.sign.type_inv }) ∙ c.sign.ensures ∙ ap (λ k. with_sign k (pos 1)) (c.signs_at.ensures ∙ ap (signs_of c.args.signs) code) ∙ sym (ap (λ t. t.0) term) in
    let key : c.one.result ≡ (term_at ts c.loop-at.at).1 = c.one.ensures ∙ ap (λ v. v ∷ []) code ∙ sym (ap (λ t. t.1) term) in
    record {
      holds = holds_next ts c.loop-at.at c.loop-at.out c.push.new.self _ c.one.result here num key c.loop-at.invariant.holds c.in_ok-push.ensures.adds c.in_ok-push.ensures.norm;
      rank = c.in_ok-push.ensures.same_rank ∙ c.loop-at.invariant.rank;
    }
