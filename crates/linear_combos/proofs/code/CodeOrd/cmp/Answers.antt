use Rattle.std.proofs.Common.{◌∙◌}
use Rattle.linear_combos.proofs.Words.{cmp_of}
use Rattle.linear_combos.proofs.code.CodeOrd.cmp.Goals as goal

pub returns : goal.returns
returns c = c.cmp.ensures ∙ cmp_of c.self.inside.word c.other.inside.word c.args.self.now c.args.other.now c.self.invariant c.self.view_is c.other.invariant c.other.view_is
