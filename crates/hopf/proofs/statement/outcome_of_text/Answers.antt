use Rattle.std.proofs.Common.{arith}
use Rattle.std.proofs.lemmas.Result.{IfOk-weaker}
use Rattle.hopf.specs.declared.statement.Outcome.{Outcome}
use Rattle.hopf.specs.Outcomes.{IsOutcomeOf, IsOutcome, too_long, read}
use Rattle.hopf.proofs.ReadStatements.{parsed_answer, parsed_built, misread_outcome}
use Rattle.hopf.proofs.statement.outcome_of_text.Goals as goal

pub returns-then-text-gt-TEXT_LIMIT-clause-outcome : goal.returns-then-text-gt-TEXT_LIMIT-clause-outcome
returns-then-text-gt-TEXT_LIMIT-clause-outcome c = too_long (omega (arith, c.if-text-gt-TEXT_LIMIT.true))

pub outcome_of-requires-clause-built : goal.outcome_of-requires-clause-built
outcome_of-requires-clause-built c = parsed_built c.args.text.now c.in-Ok.statement c.in-Ok.ensures

pub returns-in-Ok-clause-outcome : goal.returns-in-Ok-clause-outcome
returns-in-Ok-clause-outcome c =
    IfOk-weaker c.outcome_of.result (λ (o : Outcome). IsOutcomeOf c.args.names.now c.in-Ok.statement o c.outcome_of.new.names) (λ (o : Outcome). IsOutcome c.args.names.now c.args.text.now o c.outcome_of.new.names)
    (λ o is. read (omega (arith, c.if-text-gt-TEXT_LIMIT.false)) (parsed_answer c.args.text.now c.in-Ok.statement c.in-Ok.ensures) is) c.outcome_of.ensures.outcome

pub returns-in-Err-clause-outcome : goal.returns-in-Err-clause-outcome
returns-in-Err-clause-outcome c =
    misread_outcome c.args.names.now c.args.text.now c.in-Err.fault c.outcome_of_fault.result (omega (arith, c.if-text-gt-TEXT_LIMIT.false)) c.in-Err.ensures c.outcome_of_fault.ensures.fault c.outcome_of_fault.ensures.told
