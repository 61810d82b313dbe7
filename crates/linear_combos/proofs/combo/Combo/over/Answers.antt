use Rattle.std.proofs.Common.{subst, pos}
use Rattle.realisations.specs.Combinations.{Combination}
use Rattle.linear_combos.specs.Combos.{IsMultiple}
use Rattle.linear_combos.proofs.SumsOfCombos.{IsMultiple-over}
use Rattle.linear_combos.proofs.combo.Combo.over.Goals as goal

pub returns : goal.returns
returns c =
    subst (λ (s : Combination). IsMultiple s (record { num = pos 1; den = c.args.den }) c.lowest.result) c.self.view_is
    (IsMultiple-over (record { rank = c.self.inside.rank; den = c.self.inside.den; terms = c.self.inside.terms.items }) c.lowest.result c.args.den c.lowest.ensures)
