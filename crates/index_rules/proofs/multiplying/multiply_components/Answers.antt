use Rattle.std.proofs.Common.{◌-◌, rules}
use Rattle.index_rules.specs.Lifts.{two_codes}
use Rattle.index_rules.proofs.LiftedAnswers.{lift_over}
use Rattle.realisations.specs.Combinations.{IsCanonical}
use Rattle.index_rules.proofs.multiplying.multiply_components.Goals as goal

pub returns : goal.returns
returns g c =
    let canonical : IsCanonical c.over.result.rank c.over.result.den c.over.result.terms = search rules in
    lift_over (two_codes g.A.Space.basis g.A.Algebra.product_growth (c.args.component - 1)) (c.args.component - 1) (c.args.value.now.rank - 1) c.args.value.now c.in_ok-whole.whole c.over.result
    c.den_of.result c.den_of.ensures.value c.den_of.ensures.canonical c.in_ok-whole.ensures canonical c.over.ensures
