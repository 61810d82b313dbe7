use Rattle.std.proofs.Common.{[], ◌∷◌, ◌++◌, ◌≡◌, ◌∙◌, sym, subst, arith}
use Rattle.word_laws.specs.AddedCodes.{AddsEach}
use Rattle.permutation_words.proofs.CanonicalOrder.{sorted_lists}
use Rattle.binary_trees.specs.Sizes.{IsTreeCodeOf}
use Rattle.binary_trees.proofs.GrownTrees.{no_nodes}
use Rattle.binary_trees.proofs.listing.list.Goals as goal

pub loop-size-init : goal.loop-size-init
loop-size-init c =
    let is : c.push.new.self ≡ [] ∷ [] = c.in_ok-push.ensures.ok ∙ (λ i. c.new-codes.ensures i ++ c.empty.ensures i ∷ []) in
    subst (AddsEach (IsTreeCodeOf 0) []) (sym is) no_nodes

pub returns : goal.returns
returns c =
    let last : c.loop-size.size ≡ c.args.n = omega arith in
    sorted_lists (IsTreeCodeOf c.args.n) c.loop-size.codes c.sort.new.self (subst (λ n. AddsEach (IsTreeCodeOf n) [] c.loop-size.codes) last c.loop-size.invariant)
    c.sort.ensures.permutation c.sort.ensures.sorted
