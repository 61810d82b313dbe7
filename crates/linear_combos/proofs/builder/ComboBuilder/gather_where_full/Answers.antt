use Rattle.std.proofs.Common.{subst, refl}
use Rattle.realisations.specs.Combinations.{Combination}
use Rattle.linear_combos.specs.Combos.{Gathers}
use Rattle.linear_combos.specs.Gathering.{WeighsTheSame}
use Rattle.linear_combos.proofs.builder.ComboBuilder.gather_where_full.Goals as goal

pub returns : goal.returns
returns c =
    let g : Gathers c.self.inside.rank c.self.inside.terms.items c.gather.new.terms.items = c.gather.ensures c.self.inside.rank c.self.invariant.ranks in
    subst (λ (b : Combination). WeighsTheSame b (record { rank = c.self.inside.rank; den = 1; terms = c.gather.new.terms.items })) c.self.view_is
    (record { rank = refl; den = refl; weighs = g.weighs; norm = g.norm; keys = g.keys })
