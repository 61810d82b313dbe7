use Rattle.std.proofs.Common.{Ok, sym, subst}
use Rattle.std.proofs.lemmas.Result.{IfOk-weaker}
use Rattle.hopf.specs.declared.statement.Outcome.{Outcome}
use Rattle.session_evaluation.specs.Evaluation.{Answer, Evaluates}
use Rattle.hopf.specs.Outcomes.{Keeps, IsOutcomeOf, kept, not_kept}
use Rattle.session_evaluation.proofs.Meanings.{meant}
use Rattle.hopf.specs.declared.refusal.StatementRefusal.{StatementRefusal}
use Rattle.hopf.specs.declared.statement.Outcome.TheVariants.{Refused}
use Rattle.hopf.specs.Sessions.{IsTold}
use Rattle.hopf.proofs.Told.{refusal_told}
use Rattle.session_grammar.specs.declared.expression.Statement.TheVariants as s
use Rattle.hopf.proofs.statement.outcome_of_assignment.Goals as goal

pub returns-in-Ok-clause-outcome : goal.returns-in-Ok-clause-outcome
returns-in-Ok-clause-outcome c =
    let h : Evaluates c.args.names.now c.args.x.now (Ok c.in-Ok.value) = subst (λ (a : Answer). Evaluates c.args.names.now c.args.x.now a) c.in-Ok.is c.in_ok-value.ensures in
    IfOk-weaker c.keep.result (λ (o : Outcome). Keeps c.args.names.now c.args.name c.in-Ok.value o c.keep.new.names) (λ (o : Outcome). IsOutcomeOf c.args.names.now (s.Assign c.args.name c.args.x.now) o c.keep.new.names)
    (λ o keeps. kept h (meant c.args.names.now c.args.x.now c.in-Ok.value c.requires.values h) keeps) c.keep.ensures.ok

pub returns-in-Err-clause-outcome : goal.returns-in-Err-clause-outcome
returns-in-Err-clause-outcome c =
    subst (λ (q : StatementRefusal). IsOutcomeOf c.args.names.now (s.Assign c.args.name c.args.x.now) (Refused q) c.args.names.now) (sym c.refusal_of.ensures)
    (not_kept (subst (λ (a : Answer). Evaluates c.args.names.now c.args.x.now a) c.in-Err.is c.in_ok-value.ensures))

pub returns-in-Err-clause-told : goal.returns-in-Err-clause-told
returns-in-Err-clause-told c =
    subst (λ (q : StatementRefusal). IsTold (Refused q)) (sym c.refusal_of.ensures)
    (refusal_told c.args.names.now c.args.x.now c.in-Err.refusal (subst (λ (a : Answer). Evaluates c.args.names.now c.args.x.now a) c.in-Err.is c.in_ok-value.ensures))
