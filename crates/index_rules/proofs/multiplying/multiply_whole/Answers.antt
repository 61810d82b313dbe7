use Rattle.std.proofs.Common.{◌-◌}
use Rattle.index_rules.specs.Lifts.{two_codes}
use Rattle.index_rules.proofs.LiftedAnswers.{all_gathered}
use Rattle.index_rules.proofs.multiplying.multiply_whole.Goals as goal

pub returns : goal.returns
returns g c =
    all_gathered (two_codes g.A.Space.basis g.A.Algebra.product_growth (c.args.component - 1)) (c.args.component - 1) (c.args.value.now.rank - 1) c.args.value.now
    c.add_products.new.out c.finish.result c.in_ok-add_products.ensures c.finish.ensures
