use Rattle.std.proofs.Common.{◌≡◌, ◌*◌, ◌<◌, ◌^◌, subst, sym, ◌∙◌, ap, unsigned_abs}
use Rattle.std.proofs.lemmas.Int.{to_z-of_z}
use mir.Syntax.{w128}
use Rattle.realisations.specs.Readings.{Terms}
use Rattle.realisations.specs.Combinations.{Combination}
use Rattle.linear_combos.specs.Combos.{IsMultiple}
use Rattle.linear_combos.specs.Merges.{AreMultiples, IsCommon}
use Rattle.linear_combos.proofs.Multiples.{IsMultiple-multiples, IsUnreduced-multiples}
use Rattle.linear_combos.proofs.combo.Combo.multiplied.Goals as goal

pub invariant_of-lowest : goal.invariant_of-lowest
invariant_of-lowest c =
    let num = to_z-of_z w128 c.args.num c.ranges.num in
    let size : c.unsigned_abs.result ≡ unsigned_abs c.args.num = c.unsigned_abs.ensures.value ∙ ap unsigned_abs num in
    let times : AreMultiples c.args.num c.self.inside.terms.items c.multiply.new.terms.items = subst (λ n. AreMultiples n c.self.inside.terms.items c.multiply.new.terms.items) num c.multiply.ensures in
    let den : c.self.inside.den * c.args.den < 2 ^ 127 = subst (λ (s : Combination). s.den * c.args.den < 2 ^ 127) (sym c.self.view_is) c.requires.den in
    let common : IsCommon (c.self.inside.den * c.args.den) c.multiply.new.terms.items c.common_divisor-common.result =
    subst (λ (l : Terms). IsCommon (c.self.inside.den * c.args.den) l c.common_divisor-common.result) c.deref.ensures.value c.common_divisor-common.ensures in
    rw size (IsUnreduced-multiples c.self.inside.rank c.self.inside.den c.args.den c.args.num c.self.inside.terms.items c.multiply.new.terms.items c.self.inside.norm c.common_divisor-common.result
    c.self.invariant.0 c.self.invariant.1 c.requires.positive den times common)

pub returns : goal.returns
returns c =
    let num = to_z-of_z w128 c.args.num c.ranges.num in
    let times : AreMultiples c.args.num c.self.inside.terms.items c.multiply.new.terms.items = subst (λ n. AreMultiples n c.self.inside.terms.items c.multiply.new.terms.items) num c.multiply.ensures in
    subst (λ (s : Combination). IsMultiple s (record { num = c.args.num; den = c.args.den }) c.lowest.result) c.self.view_is
    (IsMultiple-multiples (record { rank = c.self.inside.rank; den = c.self.inside.den; terms = c.self.inside.terms.items }) c.lowest.result (record { num = c.args.num; den = c.args.den }) c.multiply.new.terms.items times c.lowest.ensures)
