use Rattle.commuting_images.proofs.ImagesExist.{images_exist}
use Rattle.commuting_images.proofs.laws.images_exist_law.Goals as goal

pub returns : goal.returns
returns c = images_exist
