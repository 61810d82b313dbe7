use Rattle.std.proofs.Common.{length}
use Rattle.ncsf.proofs.ribbon_cuts.+sides_of.Given as goal

abbrev pub decreases-sides_of : goal.decreases-sides_of
decreases-sides_of l = length l.parts.now
