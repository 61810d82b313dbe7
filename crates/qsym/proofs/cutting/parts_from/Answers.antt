use Rattle.std.proofs.Common.{arith}
use Rattle.compositions.proofs.Parts.{length-le-sum}
use Rattle.qsym.proofs.CutCodes.{rest_code}
use Rattle.qsym.proofs.cutting.parts_from.Goals as goal

pub overflow_add-at : goal.overflow_add-at
overflow_add-at c = let short = length-le-sum c.args.parts.now c.requires.small.positive in omega (arith, short, c.requires.small.small, c.requires.in_range)

pub followed_by-requires : goal.followed_by-requires
followed_by-requires c = rw (c.with-first.ensures, c.suffix.ensures, c.letter.ensures, c.empty-none.ensures) (rest_code c.args.parts.now c.args.at c.requires.in_range c.requires.small c.args.less c.requires.below)
