use Rattle.commuting_images.proofs.NoncommutativeImages.{completes_multiply}
use Rattle.commuting_images.proofs.noncommutative.NcsfSCommutingImage.image.Goals as goal

pub image_of_parts-requires-clause-multiplies : goal.image_of_parts-requires-clause-multiplies
image_of_parts-requires-clause-multiplies c = completes_multiply
