use Rattle.std.proofs.Common.{subst}
use Rattle.session_evaluation.specs.Names.{Names, AreValues}
use Rattle.session_evaluation.proofs.names.Names.are_values.Goals as goal

pub returns : goal.returns
returns c = subst (λ (names : Names). AreValues names) c.self.view_is c.self.invariant
