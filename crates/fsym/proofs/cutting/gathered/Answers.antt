use Rattle.std.proofs.Common.{◌<◌, List, length, sym, ◌∙◌, ap, arith}
use Rattle.coproduct_laws.specs.Coproducts.{terms_of_pairs}
use Rattle.index_rules.proofs.PushedTerms.{holds_next}
use Rattle.realisations.specs.Codes.{Code}
use Rattle.realisations.specs.Readings.{Terms}
use Rattle.fsym.proofs.PushedCuts.{length-terms, term_of_pair}
use Rattle.fsym.proofs.cutting.gathered.Goals as goal

pub loop-pair-preserved : goal.loop-pair-preserved
loop-pair-preserved c =
    let pairs : List (Code × Code) = c.args.pairs.now in
    let ts : Terms = terms_of_pairs pairs in
    let here : c.loop-pair.pair-index < length pairs = omega arith in
    let term = term_of_pair pairs c.loop-pair.pair-index c.pair-item.result here c.pair-item.is in
    record {
      holds = holds_next ts c.loop-pair.pair-index c.loop-pair.out c.push.new.self _ c.two.result (omega (arith, here, length-terms pairs)) (sym (ap (λ t. t.0) term)) (c.two.ensures ∙ sym (ap (λ t. t.1) term))
          c.loop-pair.invariant.holds c.in_ok-push.ensures.adds c.in_ok-push.ensures.norm;
      norm = omega (arith, c.loop-pair.invariant.norm, c.in_ok-push.ensures.norm);
      rank = c.in_ok-push.ensures.same_rank ∙ c.loop-pair.invariant.rank;
    }
