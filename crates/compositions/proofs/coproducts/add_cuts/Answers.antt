use Rattle.std.proofs.Common.{◌≡◌, ◌+◌, ℕ, List, [], ◌∷◌, ◌++◌, take, drop, sym, ◌∙◌, ap, subst, arith, add-one, pos}
use Rattle.std.proofs.lemmas.List.{take_all}
use Rattle.realisations.specs.Combinations.{AddsTerm}
use Rattle.realisations.specs.Words.{word_cuts}
use Rattle.coproduct_laws.specs.AddedPairs.{AddsPairs}
use Rattle.coproduct_laws.proofs.AddingPairs.{adds_next}
use Rattle.coproduct_laws.proofs.WordCuts.{length-word_cuts, word_cuts-next}
use Rattle.compositions.proofs.coproducts.add_cuts.Goals as goal

pub add_with_room-requires-clause-room : goal.add_with_room-requires-clause-room
add_with_room-requires-clause-room c = omega (arith, c.loop-at.invariant.norm, c.requires.room, length-word_cuts c.args.code.now)

pub loop-at-preserved : goal.loop-at-preserved
loop-at-preserved c =
    let w : List ℕ = c.args.code.now in
    let at : ℕ = c.loop-at.at in
    let cut : List ℕ × List ℕ = (take at w, drop at w) in
    let front = c.prefix.ensures in
    let back = c.suffix.ensures in
    let key : c.two-cut.result ≡ take at w ∷ drop at w ∷ [] = c.two-cut.ensures ∙ (λ i. front i ∷ back i ∷ []) in
    let next : take (at + 1) (word_cuts w) ≡ take at (word_cuts w) ++ cut ∷ [] = ap (λ n. take n (word_cuts w)) (add-one at) ∙ word_cuts-next at w (omega arith) in
    record {
      adds = subst (AddsPairs c.args.out.now.terms c.add_with_room.new.self.terms) (sym next)
          (adds_next c.args.out.now.terms c.loop-at.out.terms c.add_with_room.new.self.terms (take at (word_cuts w)) cut c.loop-at.invariant.adds
          (subst (AddsTerm c.loop-at.out.terms c.add_with_room.new.self.terms (pos 1)) key c.in_ok-add_with_room.ensures.adds));
      norm = omega (arith, c.loop-at.invariant.norm, c.add_with_room.ensures.norm);
      rank = c.add_with_room.ensures.same_rank ∙ c.loop-at.invariant.rank;
      whole = c.add_with_room.ensures.same_den ∙ c.loop-at.invariant.whole;
    }

pub returns-clause-adds : goal.returns-clause-adds
returns-clause-adds c =
    subst (AddsPairs c.args.out.now.terms c.loop-at.out.terms) (take_all c.loop-at.at (word_cuts c.args.code.now) (omega (arith, length-word_cuts c.args.code.now))) c.loop-at.invariant.adds

pub returns-clause-norm : goal.returns-clause-norm
returns-clause-norm c = omega (arith, c.loop-at.invariant.norm, length-word_cuts c.args.code.now)
