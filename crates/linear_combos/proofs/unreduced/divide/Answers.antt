use Rattle.std.proofs.Common.{sym, ◌∙◌, ap, arith}
use Rattle.linear_combos.specs.Merges.{quotients}
use Rattle.linear_combos.proofs.LowestCombos.{quotients-one, quotient_step}
use Rattle.linear_combos.proofs.unreduced.divide.Goals as goal

pub returns-then-by-eq1 : goal.returns-then-by-eq1
returns-then-by-eq1 c = sym (ap (λ g. quotients g c.args.terms.now.items) c.if-by-eq1.true ∙ quotients-one c.args.terms.now.items)

pub loop-at-preserved : goal.loop-at-preserved
loop-at-preserved c = quotient_step c.args.by c.args.terms.now.items c.loop-at.terms.items _ c.loop-at.at (omega arith) c.loop-at.invariant c.divide_term.ensures
