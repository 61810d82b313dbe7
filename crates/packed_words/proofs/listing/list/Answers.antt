use Rattle.std.proofs.Common.{ℕ, List, [], ◌∷◌, ◌++◌, ◌≡◌, ◌∙◌, ap, sym, subst, arith}
use Rattle.word_laws.specs.AddedCodes.{AddsEach}
use Rattle.packed_words.specs.Sizes.{IsPackedWordOf}
use Rattle.permutation_words.proofs.CanonicalOrder.{sorted_lists}
use Rattle.packed_words.proofs.GrownWords.{no_letters}
use Rattle.packed_words.proofs.listing.list.Goals as goal

pub loop-size-init : goal.loop-size-init
loop-size-init c =
    let is : c.push.new.self ≡ [] ∷ [] = c.in_ok-push.ensures.ok ∙ (λ i. c.new-codes.ensures i ++ c.empty.ensures i ∷ []) in
    subst (AddsEach (IsPackedWordOf 0) []) (sym is) no_letters

pub returns : goal.returns
returns c =
    let last : c.loop-size.size ≡ c.args.n = omega arith in
    sorted_lists (IsPackedWordOf c.args.n) c.loop-size.codes c.sort.new.self (subst (λ n. AddsEach (IsPackedWordOf n) [] c.loop-size.codes) last c.loop-size.invariant)
    c.sort.ensures.permutation c.sort.ensures.sorted
