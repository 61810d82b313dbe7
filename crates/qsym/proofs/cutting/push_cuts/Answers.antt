use Rattle.std.proofs.Common.{◌≡◌, ◌<◌, suc, length, [], ◌∷◌, sym, ◌∙◌, ap, subst, arith}
use Rattle.std.specs.List.{sum}
use Rattle.coproduct_laws.specs.Coproducts.{terms_of_pairs}
use Rattle.coproduct_rules.specs.DegreeCuts.{degree_cuts}
use Rattle.index_rules.specs.PushedTerms.{HoldsFirst}
use Rattle.index_rules.proofs.PushedTerms.{holds_next}
use Rattle.realisations.specs.Combinations.{term_at}
use Rattle.realisations.specs.Readings.{Terms}
use Rattle.qsym.proofs.CutCodes.{cuts_room, length-degree_cuts, term_at-degree_cuts}
use Rattle.qsym.proofs.cutting.push_cuts.Goals as goal

pub push-requires-clause-room : goal.push-requires-clause-room
push-requires-clause-room c = cuts_room c.args.parts.now c.loop-degree.degree c.loop-degree.out c.requires.small c.loop-degree.invariant.holds

pub loop-degree-preserved : goal.loop-degree-preserved
loop-degree-preserved c =
    let ts : Terms = terms_of_pairs (degree_cuts c.args.parts.now) in
    let k : c.loop-degree.degree < suc (sum c.args.parts.now) = omega (arith, c.sum-degree-end.ensures.value, c.loop-degree-test.true) in
    let here : c.loop-degree.degree < length ts = omega (arith, k, length-degree_cuts c.args.parts.now) in
    let term = term_at-degree_cuts c.args.parts.now c.loop-degree.degree k in
    let key : c.two.result ≡ (term_at ts c.loop-degree.degree).1 = c.two.ensures ∙ (λ i. c.front.ensures i ∷ c.rest.ensures i ∷ []) ∙ sym (ap (λ t. t.1) term) in
    record {
      holds = holds_next ts c.loop-degree.degree c.loop-degree.out c.push.new.self _ c.two.result here (sym (ap (λ t. t.0) term)) key c.loop-degree.invariant.holds c.in_ok-push.ensures.adds c.in_ok-push.ensures.norm;
      rank = c.in_ok-push.ensures.same_rank ∙ c.loop-degree.invariant.rank;
    }

pub returns-clause-pushes : goal.returns-clause-pushes
returns-clause-pushes c =
    let all : c.loop-degree.degree ≡ length (terms_of_pairs (degree_cuts c.args.parts.now)) = omega (arith, c.sum-degree-end.ensures.value, length-degree_cuts c.args.parts.now) in
    subst (λ k. HoldsFirst (terms_of_pairs (degree_cuts c.args.parts.now)) k c.loop-degree.out) all c.loop-degree.invariant.holds
