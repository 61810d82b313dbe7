use Rattle.std.proofs.Common.{◌+◌, List, ℕ, [], ◌∷◌, ◌++◌, take, sym, ◌∙◌, subst, arith}
use Rattle.std.specs.List.{flat_map}
use Rattle.tableau_coproducts.specs.ClassCuts.{ListsClass}
use Rattle.fsym.specs.Classes.{longer_words}
use Rattle.fsym.proofs.ClassLists.{empty_class, next_class, shorter_words}
use Rattle.fsym.proofs.classes.class_words.Goals as goal

pub loop-size-init : goal.loop-size-init
loop-size-init c =
    subst (λ (ws : List (List ℕ)). ListsClass [] ws) (sym (c.in_ok-push.ensures.ok ∙ (λ i. c.new-words.ensures i ++ (c.empty.ensures i ∷ [])))) empty_class

pub longer-requires : goal.longer-requires
longer-requires c = shorter_words c.args.class.now c.loop-size.size c.loop-size.words (omega (arith, c.requires, c.len-size-end.ensures.value, c.loop-size-test.true)) c.loop-size.invariant

pub loop-size-preserved : goal.loop-size-preserved
loop-size-preserved c =
    subst (λ (ws : List (List ℕ)). ListsClass (take (c.loop-size.size + 1) c.args.class.now) ws)
    (sym (c.in_ok-words.ensures ∙ (λ i. flat_map (longer_words (c.prefix.ensures i)) c.loop-size.words)))
    (next_class c.args.class.now c.loop-size.size c.loop-size.words (omega (arith, c.len-size-end.ensures.value, c.loop-size-test.true)) c.loop-size.invariant)
