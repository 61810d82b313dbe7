use Rattle.std.proofs.Common.{length}
use Rattle.compositions.proofs.conjugation.+complement.Given as goal

abbrev pub decreases-complement : goal.decreases-complement
decreases-complement l = length l.parts.now
