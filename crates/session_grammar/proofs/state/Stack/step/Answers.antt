use Rattle.session_grammar.specs.ParserSteps.{state_with}
use Rattle.session_grammar.proofs.StepsByState.{step_in-in_sum}
use Rattle.session_grammar.proofs.state.Stack.step.Goals as goal

pub returns-in_default : goal.returns-in_default
returns-in_default c =
    rw (step_in-in_sum c.args.mode (state_with c.args.self.now c.args.mode) c.args.lexeme c.in_default.not-First c.in_default.not-Word) c.step_in_sum.ensures
