use Rattle.std.proofs.Common.{arith}
use Rattle.qsym.proofs.CutCodes.{front_code}
use Rattle.qsym.proofs.cutting.parts_and.Goals as goal

pub with-requires : goal.with-requires
with-requires c = rw c.prefix-front.ensures (front_code c.args.parts.now c.args.count c.requires.in_range c.requires.small c.args.last c.requires.below (omega (arith, c.if-last-eq0.false)))
