use Rattle.inclusion_laws.proofs.CommutingLaws.{packed_images_law}
use Rattle.inclusion_laws.proofs.commuting_laws.packed_image_law.Goals as goal

pub returns : goal.returns
returns c = packed_images_law
