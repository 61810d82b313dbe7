use Rattle.std.proofs.Common.{Ok, sym, subst}
use Rattle.session_evaluation.specs.Evaluation.{Compares}
use Rattle.session_evaluation.proofs.Comparisons.{Comparison, equality_meant}
use Rattle.hopf.specs.declared.refusal.StatementRefusal.{StatementRefusal}
use Rattle.hopf.specs.declared.statement.Outcome.TheVariants.{Refused}
use Rattle.hopf.specs.Outcomes.{IsOutcomeOf, compared, not_compared}
use Rattle.hopf.specs.Sessions.{IsTold}
use Rattle.hopf.proofs.Told.{comparison_told}
use Rattle.session_grammar.specs.declared.expression.Statement.TheVariants as s
use Rattle.hopf.proofs.statement.outcome_of_equality.Goals as goal

pub returns-in-Ok-clause-outcome : goal.returns-in-Ok-clause-outcome
returns-in-Ok-clause-outcome c =
    let h : Compares c.args.names.now c.args.x.now c.args.y.now (Ok c.in-Ok.same) = subst (λ (a : Comparison). Compares c.args.names.now c.args.x.now c.args.y.now a) c.in-Ok.is c.in_ok-same.ensures in
    compared h (equality_meant c.args.names.now c.args.x.now c.args.y.now c.in-Ok.same c.requires.values h)

pub returns-in-Err-clause-outcome : goal.returns-in-Err-clause-outcome
returns-in-Err-clause-outcome c =
    subst (λ (q : StatementRefusal). IsOutcomeOf c.args.names.now (s.Equal c.args.x.now c.args.y.now) (Refused q) c.args.names.now) (sym c.refusal_of.ensures)
    (not_compared (subst (λ (a : Comparison). Compares c.args.names.now c.args.x.now c.args.y.now a) c.in-Err.is c.in_ok-same.ensures))

pub returns-in-Err-clause-told : goal.returns-in-Err-clause-told
returns-in-Err-clause-told c =
    subst (λ (q : StatementRefusal). IsTold (Refused q)) (sym c.refusal_of.ensures)
    (comparison_told c.args.names.now c.args.x.now c.args.y.now c.in-Err.refusal (subst (λ (a : Comparison). Compares c.args.names.now c.args.x.now c.args.y.now a) c.in-Err.is c.in_ok-same.ensures))
