use Rattle.std.proofs.Common.{length}
use Rattle.ncsf.proofs.part_cuts.+part_cuts.Given as goal

abbrev pub decreases-part_cuts : goal.decreases-part_cuts
decreases-part_cuts l = length l.parts.now
