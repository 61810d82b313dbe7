use Rattle.std.proofs.Common.{◌≡◌, ◌<◌, length, get_or, [], ◌∷◌, List, sym, ◌∙◌, ap, arith}
use Rattle.std.proofs.lemmas.List.{get_or_default}
use Rattle.coproduct_laws.specs.Coproducts.{terms_of_pairs}
use Rattle.index_rules.proofs.PairAnswers.{norm_of-pairs}
use Rattle.index_rules.proofs.PushedTerms.{holds_next}
use Rattle.linear_combos.proofs.Weights.{norm-part}
use Rattle.realisations.specs.Codes.{Code}
use Rattle.realisations.specs.Combinations.{term_at}
use Rattle.realisations.specs.Readings.{Terms}
use Rattle.ncsf.proofs.PairLists.{term_at-pairs, length-tensors}
use Rattle.ncsf.proofs.pairs.push_tensors.Goals as goal

pub push-requires-clause-room : goal.push-requires-clause-room
push-requires-clause-room c =
    let ts : Terms = terms_of_pairs c.args.pairs.now.items in
    omega (arith, c.loop-at.invariant.holds.norm, norm-part ts c.loop-at.at, norm_of-pairs c.args.pairs.now.items, c.len-at-end.ensures, c.len-at-end.type_inv)

pub loop-at-preserved : goal.loop-at-preserved
loop-at-preserved c =
    let pairs : List (Code × Code) = c.args.pairs.now.items in
    let ts : Terms = terms_of_pairs pairs in
    let lt : c.loop-at.at < length pairs = omega (arith, c.len-at-end.ensures, c.loop-at-test.true) in
    let here : c.loop-at.at < length ts = omega (arith, lt, length-tensors pairs) in
    let term = term_at-pairs pairs c.loop-at.at lt in
    let pair : c.index-pair.result.now ≡ get_or pairs c.loop-at.at ([], []) = c.index-pair.ensures ∙ get_or_default pairs c.loop-at.at c.index-pair.result.now ([], []) lt in
    let key : c.two.result ≡ (term_at ts c.loop-at.at).1 = c.two.ensures ∙ ap (λ (e : Code × Code). e.0 ∷ e.1 ∷ []) pair ∙ sym (ap (λ t. t.1) term) in
    record {
      holds = holds_next ts c.loop-at.at c.loop-at.out c.push.new.self _ c.two.result here (sym (ap (λ t. t.0) term)) key c.loop-at.invariant.holds c.in_ok-push.ensures.adds c.in_ok-push.ensures.norm;
      rank = c.in_ok-push.ensures.same_rank ∙ c.loop-at.invariant.rank;
    }
