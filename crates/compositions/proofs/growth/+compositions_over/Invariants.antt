use Rattle.std.proofs.Common.{length}
use Rattle.compositions.proofs.growth.+compositions_over.Given as goal

abbrev pub decreases-compositions_over : goal.decreases-compositions_over
decreases-compositions_over l = length l.parts.now
