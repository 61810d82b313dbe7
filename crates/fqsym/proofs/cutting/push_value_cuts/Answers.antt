use Rattle.std.proofs.Common.{◌≡◌, ◌<◌, suc, length, [], ◌∷◌, sym, ◌∙◌, ap, subst, arith}
use Rattle.coproduct_laws.specs.Coproducts.{terms_of_pairs}
use Rattle.coproduct_laws.specs.ValueCuts.{value_cuts}
use Rattle.index_rules.specs.PushedTerms.{HoldsFirst}
use Rattle.index_rules.proofs.PushedTerms.{holds_next}
use Rattle.realisations.specs.Codes.{Code}
use Rattle.realisations.specs.Combinations.{term_at}
use Rattle.realisations.specs.Readings.{Terms}
use Rattle.realisations.specs.Words.{greatest}
use Rattle.fqsym.proofs.Coproducts.{length-value_cuts}
use Rattle.fqsym.proofs.PushedCuts.{cuts_room, length-value_terms, value_term_at}
use Rattle.fqsym.proofs.cutting.push_value_cuts.Goals as goal

pub push-requires-clause-room : goal.push-requires-clause-room
push-requires-clause-room c =
    let w : Code = c.args.word.now in
    let same : greatest c.code.result.now ≡ greatest w = ap greatest c.code.ensures.value in
    cuts_room (value_cuts w) c.loop-most.most (greatest w) c.loop-most.out (length-value_cuts w)
    (omega (arith, same, c.greatest_letter-most-end.ensures.value, c.greatest_letter-most-end.ensures.small)) c.loop-most.invariant.holds

pub loop-most-preserved : goal.loop-most-preserved
loop-most-preserved c =
    let w : Code = c.args.word.now in
    let ts : Terms = terms_of_pairs (value_cuts w) in
    let same : greatest c.code.result.now ≡ greatest w = ap greatest c.code.ensures.value in
    let k : c.loop-most.most < suc (greatest w) = omega (arith, same, c.greatest_letter-most-end.ensures.value, c.loop-most-test.true) in
    let here : c.loop-most.most < length ts = omega (arith, k, length-value_terms w) in
    let term = value_term_at w c.loop-most.most k in
    let key : c.two.result ≡ (term_at ts c.loop-most.most).1 = c.two.ensures ∙ (λ i. c.low.ensures i ∷ c.high.ensures i ∷ []) ∙ sym (ap (λ t. t.1) term) in
    record {
      holds = holds_next ts c.loop-most.most c.loop-most.out c.push.new.self _ c.two.result here (sym (ap (λ t. t.0) term)) key c.loop-most.invariant.holds c.in_ok-push.ensures.adds c.in_ok-push.ensures.norm;
      rank = c.in_ok-push.ensures.same_rank ∙ c.loop-most.invariant.rank;
    }

pub returns-clause-pushes : goal.returns-clause-pushes
returns-clause-pushes c =
    let w : Code = c.args.word.now in
    let same : greatest c.code.result.now ≡ greatest w = ap greatest c.code.ensures.value in
    let all : c.loop-most.most ≡ length (terms_of_pairs (value_cuts w)) = omega (arith, same, c.greatest_letter-most-end.ensures.value, length-value_terms w) in
    subst (λ k. HoldsFirst (terms_of_pairs (value_cuts w)) k c.loop-most.out) all c.loop-most.invariant.holds
