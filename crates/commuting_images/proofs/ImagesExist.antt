-- The elements of each built basis have commuting images.
use Rattle.commuting_images.specs.Images.{ImagesExistLaw}
use Rattle.commuting_images.proofs.NoncommutativeImages.{complete_images, elementary_images, ribbon_images}
use Rattle.commuting_images.proofs.WordImagesExist.{dual_images, fundamental_images, monomial_images, packed_images, permutation_images, tableau_images, tree_images}

pub images_exist : ImagesExistLaw
images_exist = record {
  qsym_m = monomial_images;
  qsym_f = fundamental_images;
  ncsf_s = complete_images;
  ncsf_l = elementary_images;
  ncsf_r = ribbon_images;
  fqsym_f = permutation_images;
  fqsym_g = dual_images;
  wqsym_m = packed_images;
  fsym_s = tableau_images;
  pbt_p = tree_images;
}
