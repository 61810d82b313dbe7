use Rattle.linear_combos.proofs.Words.{digit_of}
use Rattle.linear_combos.proofs.code.Code.letter.Goals as goal

pub returns : goal.returns
returns c = digit_of c.self.inside.word c.args.at c.args.self.now c.self.invariant c.self.view_is c.requires
