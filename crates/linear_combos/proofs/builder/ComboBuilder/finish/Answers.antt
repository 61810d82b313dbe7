use Rattle.std.proofs.Common.{subst, sym, ap}
use Rattle.realisations.specs.Combinations.{Combination}
use Rattle.linear_combos.specs.Combos.{IsSumOfTerms, Gathers}
use Rattle.linear_combos.proofs.builder.ComboBuilder.finish.Goals as goal

pub returns : goal.returns
returns c =
    let g : Gathers c.self.inside.rank c.self.inside.terms.items c.gather.new.terms.items = c.gather.ensures c.self.inside.rank c.self.invariant.ranks in
    subst (λ (b : Combination). IsSumOfTerms b.rank b.terms c.whole.result) c.self.view_is
    (record {
      rank_is = ap (λ (b : Combination). b.rank) c.whole.ensures;
      whole = ap (λ (b : Combination). b.den) c.whole.ensures;
      gathers = subst (λ (b : Combination). Gathers c.self.inside.rank c.self.inside.terms.items b.terms) (sym c.whole.ensures) g;
    })
