use Rattle.std.proofs.Common.{◌-◌, ◌++◌, ℕ, List, map, sym, ◌∙◌, ap, arith}
use Rattle.std.specs.List.{flat_map}
use Rattle.std.proofs.lemmas.List.{take_all}
use Rattle.realisations.specs.Codes.{Code}
use Rattle.realisations.specs.Exponents.{number_cuts}
use Rattle.ncsf.specs.PairLists.{with_parts}
use Rattle.ncsf.proofs.PairLists.{flat_map-more, length-number_cuts, number_cuts-at}
use Rattle.ncsf.proofs.part_cuts.with_part_cut.Goals as goal

pub loop-left-preserved : goal.loop-left-preserved
loop-left-preserved c =
    let pairs : List (Code × Code) = c.args.pairs.now.items in
    let at : ℕ = c.loop-left.left in
    let f : ℕ × ℕ → List (Code × Code) = λ n. map (λ e. with_parts n.0 n.1 e) pairs in
    let size = length-number_cuts c.args.part in
    c.in_ok-push_with_parts.ensures
    ∙ (λ i. c.loop-left.invariant i ++ f ((sym (number_cuts-at c.args.part at (c.args.part - at) (omega arith))) i))
    ∙ sym (flat_map-more f (number_cuts c.args.part) at (0, 0) (omega arith))

pub returns : goal.returns
returns c =
    let pairs : List (Code × Code) = c.args.pairs.now.items in
    let size = length-number_cuts c.args.part in
    c.loop-left.invariant ∙ ap (flat_map (λ (n : ℕ × ℕ). map (λ e. with_parts n.0 n.1 e) pairs)) (take_all c.loop-left.left (number_cuts c.args.part) (omega arith))
