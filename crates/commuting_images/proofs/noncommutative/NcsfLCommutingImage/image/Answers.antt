use Rattle.commuting_images.proofs.NoncommutativeImages.{elementaries_multiply}
use Rattle.commuting_images.proofs.noncommutative.NcsfLCommutingImage.image.Goals as goal

pub image_of_parts-requires-clause-multiplies : goal.image_of_parts-requires-clause-multiplies
image_of_parts-requires-clause-multiplies c = elementaries_multiply
