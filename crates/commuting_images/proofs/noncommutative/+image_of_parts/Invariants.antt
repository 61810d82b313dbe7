use Rattle.std.proofs.Common.{length}
use Rattle.commuting_images.proofs.noncommutative.+image_of_parts.Given as goal

abbrev pub decreases-image_of_parts : goal.decreases-image_of_parts
decreases-image_of_parts g l = length l.code.now
