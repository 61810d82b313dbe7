use Rattle.std.proofs.Common.{sym, subst}
use Rattle.session_grammar.specs.declared.expression.Statement.{Statement}
use Rattle.hopf.specs.declared.statement.Outcome.TheVariants.{Empty}
use Rattle.hopf.specs.Outcomes.{IsOutcomeOf, empty}
use Rattle.hopf.proofs.statement.outcome_of.Goals as goal

pub returns-in-Empty-clause-outcome : goal.returns-in-Empty-clause-outcome
returns-in-Empty-clause-outcome c = subst (λ (st : Statement). IsOutcomeOf c.args.names.now st Empty c.args.names.now) (sym c.in-Empty.is) empty
