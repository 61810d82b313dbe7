use Rattle.std.proofs.Common.{◌≡◌, ◌<◌, suc, length, [], ◌∷◌, sym, ◌∙◌, ap, subst, arith}
use Rattle.coproduct_laws.specs.Coproducts.{terms_of_pairs}
use Rattle.coproduct_rules.specs.PlaceCuts.{place_cuts}
use Rattle.index_rules.specs.PushedTerms.{HoldsFirst}
use Rattle.index_rules.proofs.PushedTerms.{holds_next}
use Rattle.realisations.specs.Codes.{Code}
use Rattle.realisations.specs.Combinations.{term_at}
use Rattle.realisations.specs.Readings.{Terms}
use Rattle.fqsym.proofs.Coproducts.{length-place_cuts}
use Rattle.fqsym.proofs.PushedCuts.{cuts_room, length-place_terms, place_term_at}
use Rattle.fqsym.proofs.cutting.push_place_cuts.Goals as goal

pub push-requires-clause-room : goal.push-requires-clause-room
push-requires-clause-room c =
    let w : Code = c.args.word.now in
    cuts_room (place_cuts w) c.loop-count.count (length w) c.loop-count.out (length-place_cuts w) c.len-count-end.ensures.is_code.short c.loop-count.invariant.holds

pub loop-count-preserved : goal.loop-count-preserved
loop-count-preserved c =
    let w : Code = c.args.word.now in
    let ts : Terms = terms_of_pairs (place_cuts w) in
    let k : c.loop-count.count < suc (length w) = omega (arith, c.len-count-end.ensures.value, c.loop-count-test.true) in
    let here : c.loop-count.count < length ts = omega (arith, k, length-place_terms w) in
    let term = place_term_at w c.loop-count.count k in
    let key : c.two.result ≡ (term_at ts c.loop-count.count).1 = c.two.ensures ∙ (λ i. c.front.ensures i ∷ c.back.ensures i ∷ []) ∙ sym (ap (λ t. t.1) term) in
    record {
      holds = holds_next ts c.loop-count.count c.loop-count.out c.push.new.self _ c.two.result here (sym (ap (λ t. t.0) term)) key c.loop-count.invariant.holds c.in_ok-push.ensures.adds c.in_ok-push.ensures.norm;
      rank = c.in_ok-push.ensures.same_rank ∙ c.loop-count.invariant.rank;
    }

pub returns-clause-pushes : goal.returns-clause-pushes
returns-clause-pushes c =
    let w : Code = c.args.word.now in
    let all : c.loop-count.count ≡ length (terms_of_pairs (place_cuts w)) = omega (arith, c.len-count-end.ensures.value, length-place_terms w) in
    subst (λ k. HoldsFirst (terms_of_pairs (place_cuts w)) k c.loop-count.out) all c.loop-count.invariant.holds
