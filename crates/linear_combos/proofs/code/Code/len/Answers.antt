use Rattle.linear_combos.proofs.Words.{len_of}
use Rattle.linear_combos.proofs.code.Code.len.Goals as goal

pub returns-clause-value : goal.returns-clause-value
returns-clause-value c = len_of c.self.inside.word c.args.self.now c.self.invariant c.self.view_is
