-- The elements of QSym, FQSym, WQSym, FSym and PBT have commuting images.
use Rattle.std.proofs.Common.{◌≡◌, ◌≤◌, [], ◌∷◌, refl, ap, arith}
use Rattle.basis_names.specs.declared.bases.BasisId.{BasisId}
use Rattle.basis_names.specs.declared.bases.BasisId.TheVariants.{FqsymF, FqsymG, FsymS, PbtP, QsymF, QsymM, WqsymM}
use Rattle.commuting_images.specs.Images.{HasImages, image_facts}
use Rattle.inclusion_laws.specs.CommutingImages.{evaluation}
use Rattle.inclusion_laws.proofs.FundamentalImages.{descents_keep}
use Rattle.inclusion_laws.proofs.SumsOfElements.{gathered_code}
use Rattle.inclusion_rules.proofs.InclusionsExist.{all_inclusions_exist as included}
use Rattle.inclusion_rules.specs.Laws.{HasInclusions}
use Rattle.index_rules.specs.Laws.{HasAnswers}
use Rattle.index_rules.specs.Spaces.{limit_for}
use Rattle.index_rules.proofs.LiftsExist.{lifts_exist}
use Rattle.qsym.proofs.RulesExist.{changes_exist as in_qsym}
use Rattle.realisations.specs.Bases.{kind_of}
use Rattle.realisations.specs.Codes.{Code}
use Rattle.realisations.specs.Descents.{descent_composition}
use Rattle.realisations.specs.Points.{word}
use Rattle.realisations.specs.Readings.{element}
use Rattle.realisations.specs.Standardisation.{inverse}
use Rattle.commuting_images.proofs.ImageAnswers.{dual_image, fundamental_image, inverse_keeps, monomial_image, packed_image, permutation_image}
use Rattle.commuting_images.proofs.LiftedImages.{can_take_images, images_answer}

pub monomial_images : HasImages QsymM
monomial_images = record {
  growth = 0;
  most = omega arith;
  images = λ code h. let (c, one) = gathered_code code in (c, monomial_image code c h.index one);
}

pub fundamental_images : HasImages QsymF
fundamental_images = record {
  growth = 1;
  most = omega arith;
  images = λ code h. let (c, is) = in_qsym.fundamental_in_monomial code (record { index = h.index; degree = h.degree }) in (c, fundamental_image code c is);
}

permutation_answers : HasAnswers (image_facts FqsymF 1)
permutation_answers code h =
    let k = descents_keep code h.index in
    let (c, is) = in_qsym.fundamental_in_monomial (descent_composition code) (record { index = k.0; degree = omega (arith, k.1, h.degree) }) in
    (c, permutation_image code h.index c is)

pub permutation_images : HasImages FqsymF
permutation_images = record { growth = 1; most = omega arith; images = permutation_answers }

pub dual_images : HasImages FqsymG
dual_images = record {
  growth = 1;
  most = omega arith;
  images = λ code h.
      let k = inverse_keeps code h.index in
      let (c, is) = in_qsym.fundamental_in_monomial (descent_composition (inverse code)) (record { index = k.0; degree = omega (arith, k.1, h.degree) }) in
      (c, dual_image code h.index c is);
}

pub packed_images : HasImages WqsymM
packed_images = record {
  growth = 0;
  most = omega arith;
  images = λ code h. let (c, one) = gathered_code (evaluation code) in (c, packed_image code c h.index one);
}

-- by the permutations over a tree or a tableau
by_permutations : (basis : BasisId) → kind_of basis ≡ word → limit_for basis ≤ 7 → HasInclusions basis FqsymF → HasImages basis
by_permutations basis words low over = record {
  growth = 4;
  most = omega arith;
  images = λ code h.
      let (p, is) = over code (record { index = h.index; degree = omega (arith, h.degree, low) }) in
      let can = can_take_images FqsymF refl 3 1 _ (element basis code) p is (omega (arith, h.degree, low)) (omega (arith, h.degree, low)) in
      let (out, lifted) = lifts_exist (image_facts FqsymF 1) permutation_answers 0 p is.answer.canonical can in
      (out, images_answer FqsymF refl 3 1 _ (element basis code) p is (omega arith) (ap (λ k. k ∷ []) words) refl out lifted);
}

pub tree_images : HasImages PbtP
tree_images = by_permutations PbtP refl (omega arith) included.trees_in_fqsym_f

pub tableau_images : HasImages FsymS
tableau_images = by_permutations FsymS refl (omega arith) included.tableaux_in_fqsym_f
