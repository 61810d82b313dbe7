use Rattle.std.proofs.Common.{ℕ, List, [], map, take, get_or, sym, ◌∙◌, ◌≡◌, ◌++◌, ap, arith}
use Rattle.std.proofs.lemmas.List.{append_assoc, get_or_default}
use Rattle.ncsf.specs.PairLists.{before_other}
use Rattle.ncsf.proofs.PairLists.{flat_map-more}
use Rattle.realisations.specs.Codes.{Code}
use Rattle.realisations.specs.Pairings.{longer_compositions}
use Rattle.ncsf.proofs.ribbon_cuts.push_before_other.Goals as goal

pub loop-at-preserved : goal.loop-at-preserved
loop-at-preserved c =
    let other : List (Code × Code) = c.args.other.now.items in
    let at : ℕ = c.loop-at.at in
    let f : Code × Code → List (Code × Code) = λ e. map (λ parts. (parts, e.0)) (longer_compositions e.1) in
    let pair : c.index.result.now ≡ get_or other at ([], []) = c.index.ensures ∙ get_or_default other at c.index.result.now ([], []) (omega arith) in
    c.in_ok-push_both_ways.ensures
    ∙ (λ i. c.loop-at.invariant i ++ f (pair i))
    ∙ append_assoc c.args.longer.now.items (before_other (take at other)) (f (get_or other at ([], [])))
    ∙ ap (λ v. c.args.longer.now.items ++ v) (sym (flat_map-more f other at ([], []) (omega arith)))
