use Rattle.inclusion_laws.proofs.CommutingLaws.{fundamental_images_law}
use Rattle.inclusion_laws.proofs.commuting_laws.fundamental_image_law.Goals as goal

pub returns : goal.returns
returns c = fundamental_images_law
