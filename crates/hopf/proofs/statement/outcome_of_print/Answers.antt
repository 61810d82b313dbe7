use Rattle.std.proofs.Common.{◌≡◌, ℕ, List, ◌++◌, Ok, sym, ◌∙◌, ap, subst}
use Rattle.value_texts.specs.Text.{IsTextOf}
use Rattle.session_evaluation.specs.Evaluation.{Answer, Evaluates}
use Rattle.hopf.specs.Outcomes.{IsOutcomeOf, printed, not_printed}
use Rattle.session_evaluation.proofs.Meanings.{meant}
use Rattle.hopf.specs.declared.refusal.StatementRefusal.{StatementRefusal}
use Rattle.hopf.specs.declared.statement.Outcome.TheVariants.{Refused}
use Rattle.hopf.specs.Sessions.{IsTold}
use Rattle.hopf.proofs.Told.{refusal_told}
use Rattle.session_grammar.specs.declared.expression.Statement.TheVariants as s
use Rattle.hopf.proofs.statement.outcome_of_print.Goals as goal

pub returns-in_ok-print_value-in-Ok-clause-outcome : goal.returns-in_ok-print_value-in-Ok-clause-outcome
returns-in_ok-print_value-in-Ok-clause-outcome c =
    let h : Evaluates c.args.names.now c.args.x.now (Ok c.in-Ok.value) = subst (λ (a : Answer). Evaluates c.args.names.now c.args.x.now a) c.in-Ok.is c.in_ok-value.ensures in
    let (text, is_text, appended) = c.in_ok-print_value-in-Ok.ensures.ok in
    let same : c.print_value.new.out ≡ text = appended ∙ ap (λ (front : List ℕ). front ++ text) c.new-text.ensures in
    printed h (meant c.args.names.now c.args.x.now c.in-Ok.value c.requires.values h) (subst (λ (t : List ℕ). IsTextOf c.in-Ok.value t) (sym same) is_text)

pub returns-in-Err-clause-outcome : goal.returns-in-Err-clause-outcome
returns-in-Err-clause-outcome c =
    subst (λ (q : StatementRefusal). IsOutcomeOf c.args.names.now (s.Print c.args.x.now) (Refused q) c.args.names.now) (sym c.refusal_of.ensures)
    (not_printed (subst (λ (a : Answer). Evaluates c.args.names.now c.args.x.now a) c.in-Err.is c.in_ok-value.ensures))

pub returns-in-Err-clause-told : goal.returns-in-Err-clause-told
returns-in-Err-clause-told c =
    subst (λ (q : StatementRefusal). IsTold (Refused q)) (sym c.refusal_of.ensures)
    (refusal_told c.args.names.now c.args.x.now c.in-Err.refusal (subst (λ (a : Answer). Evaluates c.args.names.now c.args.x.now a) c.in-Err.is c.in_ok-value.ensures))
