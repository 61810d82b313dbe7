use Rattle.std.proofs.Common.{◌<◌, ◌∷◌, [], ◌++◌, ◌∙◌, ap, length, take, pos, sym, subst, arith}
use Rattle.std.proofs.lemmas.List.{take_more}
use Rattle.realisations.specs.Combinations.{AddsTerm}
use Rattle.coproduct_laws.specs.AddedPairs.{AddsPairs}
use Rattle.coproduct_laws.proofs.AddingPairs.{adds_next}
use Rattle.binary_trees.proofs.upper_parts.gathered.Goals as goal

pub loop-pair-preserved : goal.loop-pair-preserved
loop-pair-preserved c =
    let pairs = c.args.pairs.now in
    let at = c.loop-pair.pair-index in
    let lt : c.loop-pair.pair-index < length c.args.pairs.now = omega arith in
    let next = take_more pairs at c.pair-item.result lt ∙ ap (λ e. take at pairs ++ e ∷ []) (sym c.pair-item.is) in
    record {
      adds = subst (AddsPairs [] c.push.new.self.terms) (sym next)
          (adds_next [] c.loop-pair.out.terms c.push.new.self.terms (take at pairs) c.pair-item.result c.loop-pair.invariant.adds
          (subst (AddsTerm c.loop-pair.out.terms c.push.new.self.terms (pos 1)) c.two.ensures c.in_ok-push.ensures.adds));
      norm = omega (arith, c.loop-pair.invariant.norm, c.in_ok-push.ensures.norm);
      rank = c.in_ok-push.ensures.same_rank ∙ c.loop-pair.invariant.rank;
    }
