-- The elements of the three bases of NCSF have commuting images: the ribbons by packed words, and both other bases by the ribbons.
use Rattle.std.proofs.Common.{◌≡◌, ℕ, zero, suc, ◌*◌, ◌≤◌, [], ◌∷◌, replicate, refl, sym, ◌∙◌, ap, arith}
use Rattle.std.specs.List.{sum}
use Rattle.std.proofs.Math.IntN.{pos, ◌*ℤ◌}
use Rattle.std.proofs.Math.Nat.{one-le-pow}
use Rattle.basis_names.specs.declared.bases.BasisId.{BasisId}
use Rattle.basis_names.specs.declared.bases.BasisId.TheVariants.{NcsfS, NcsfL, NcsfR, QsymM, QsymF}
use Rattle.inclusion_laws.specs.CommutingImages.{IsImage}
use Rattle.inclusion_laws.proofs.CommutingImages.{imaged}
use Rattle.inclusion_laws.proofs.CommutingLaws.{packed_images_law}
use Rattle.inclusion_laws.proofs.CountsOfWords.{words_at}
use Rattle.index_rules.specs.Changes.{change_facts}
use Rattle.index_rules.specs.Laws.{HasAnswers}
use Rattle.index_rules.specs.Rules.{IsAnswerWithin}
use Rattle.index_rules.specs.Spaces.{IsIndexWithin, limit_for}
use Rattle.index_rules.proofs.LiftsExist.{lifts_exist}
use Rattle.linear_combos.specs.Combos.{IsSumOfTerms}
use Rattle.ncsf.proofs.RulesExist.{changes_exist}
use Rattle.product_laws.specs.Products.{terms_of_codes}
use Rattle.product_laws.proofs.ElementProducts.{element_at}
use Rattle.product_laws.proofs.MultiplicativeBases.{complete_read, elementary_read}
use Rattle.product_laws.proofs.Parts.{sum-cons}
use Rattle.realisations.specs.Answers.{IsAnswer}
use Rattle.realisations.specs.Bases.{kind_of}
use Rattle.realisations.specs.Codes.{Code}
use Rattle.realisations.specs.Combinations.{Combination}
use Rattle.realisations.specs.IndexKinds.{IsComposition}
use Rattle.realisations.specs.Indices.{degree_of}
use Rattle.realisations.specs.Lists.{one_if}
use Rattle.realisations.specs.Occurrence.{occurs}
use Rattle.realisations.specs.Points.{Point, word}
use Rattle.realisations.specs.Readings.{element}
use Rattle.commuting_images.specs.Images.{HasImages, image_facts}
use Rattle.commuting_images.specs.ImagesOfParts.{IsMultiplicative, IsOfAnyNorm, image_of}
use Rattle.commuting_images.proofs.AnswersOfAnyNorm.{can_image, lifted_image, lifted_norm, read_as, the_answer, within_five}
use Rattle.commuting_images.proofs.ImagesOfOnePart.{complete_at_none, complete_at_one_part, elementary_at_none, elementary_at_one_part}
use Rattle.commuting_images.proofs.ProductsOfImages.{image_at}

-- a ribbon of n by the packed words of n, at most n^n
ribbons_have_images : HasAnswers (image_facts NcsfR 4)
ribbons_have_images code h =
    let (c, is) = packed_images_law.ribbons.exists code (omega (arith, h.degree)) in
    (c, record { answer = is.answer; norm = is.norm 4 (omega (arith, h.degree)) })

-- an element of n by at most 2^n ribbons
images_by_ribbons : (basis : BasisId) → kind_of basis ≡ word → limit_for basis ≤ limit_for NcsfR → HasAnswers (change_facts basis NcsfR (limit_for basis) 1) → HasAnswers (image_facts basis 5)
images_by_ribbons basis words limits change code h =
    let n : ℕ = degree_of basis code in
    let (c, hc) = change code (record { index = h.index; degree = h.degree }) in
    let can = can_image NcsfR basis refl words 1 4 n code c hc (omega (arith, h.degree, limits)) in
    let (d, lifted) = lifts_exist (image_facts NcsfR 4) ribbons_have_images 0 c hc.answer.canonical can in
    let is = lifted_image NcsfR basis refl words 1 4 n code c hc d lifted in
    let norm = lifted_norm NcsfR basis refl words 1 4 n code c hc d lifted in (
      d,
      record {
        answer = record { canonical = is.canonical; rank = is.rank; whole = is.whole; small = norm; indices = is.indices; degrees = is.degrees; reads = is.reads };
        norm = norm;
      },
    )

pub complete_images : HasImages NcsfS
complete_images = record { growth = 5; most = omega arith; images = images_by_ribbons NcsfS refl (omega arith) changes_exist.complete_in_ribbon }

pub elementary_images : HasImages NcsfL
elementary_images = record { growth = 5; most = omega arith; images = images_by_ribbons NcsfL refl (omega arith) changes_exist.elementary_in_ribbon }

pub ribbon_images : HasImages NcsfR
ribbon_images = record { growth = 4; most = omega arith; images = ribbons_have_images }

-- what reads as the image of a ribbon is it
pub ribbon_image : (code : Code) → IsIndexWithin NcsfR code → (c : Combination) → IsOfAnyNorm (sum code) (image_of NcsfR code) c → IsAnswerWithin 4 (QsymM ∷ []) (sum code) (image_of NcsfR code) c
ribbon_image code h c is =
    let (d, known) = ribbons_have_images code (record { index = h.index; degree = h.degree }) in
    the_answer 4 (sum code) (image_of NcsfR code) c d (omega arith) is known

-- ones are a composition
ones_composed : (i : ℕ) → IsComposition (replicate i 1) × (sum (replicate i 1) ≡ i)
ones_composed zero = (tt, refl)
ones_composed (suc i) = let rest = ones_composed i in ((omega arith, rest.0), omega (arith, rest.1, sum-cons 1 (replicate i 1)))

-- an element whose image is one element
alone : (basis : BasisId) → kind_of basis ≡ word → (code image : Code) → IsComposition image → sum image ≡ degree_of basis code → ((p : Point) → words_at basis code p ≡ one_if (occurs QsymM image p))
    → (c : Combination) → IsSumOfTerms 1 (terms_of_codes (image ∷ [])) c → IsImage basis QsymM code c
alone basis words code image composed degree counts c is =
    imaged basis QsymM code (image ∷ []) c
    (record {
      words = words;
      indices = ((composed, degree), tt);
      small = one-le-pow (5 * degree_of basis code) 2 (omega arith);
      few = λ k le. one-le-pow (k * degree_of basis code) 2 (omega arith);
      occur = λ p. omega (arith, counts p);
    }) is

-- S of one part
pub complete_part : (i : ℕ) (c : Combination) → IsAnswerWithin 1 (QsymM ∷ []) (sum (i ∷ [])) (element QsymF (i ∷ [])) c → IsAnswerWithin 5 (QsymM ∷ []) (sum (i ∷ [])) (image_of NcsfS (i ∷ [])) c
complete_part i c is =
    read_as 5 (sum (i ∷ [])) (element QsymF (i ∷ [])) (image_of NcsfS (i ∷ [])) c refl
    (λ p. ap (λ z. z *ℤ pos 1) (element_at QsymF (i ∷ []) p ∙ ap pos (sym (complete_at_one_part i p)) ∙ sym (image_at NcsfS refl (i ∷ []) p)))
    (within_five 1 (sum (i ∷ [])) (element QsymF (i ∷ [])) c is)

-- L of one part
pub elementary_part : (i : ℕ) (c : Combination) → IsSumOfTerms 1 (terms_of_codes (replicate i 1 ∷ [])) c → IsAnswerWithin 5 (QsymM ∷ []) (sum (i ∷ [])) (image_of NcsfL (i ∷ [])) c
elementary_part i c is =
    let ones = ones_composed i in
    let image = alone NcsfL refl (i ∷ []) (replicate i 1) ones.0 (omega (arith, ones.1, sum-cons i [])) (elementary_at_one_part i) c is in
    record { answer = image.answer; norm = image.answer.small }

complete_nothing : (c : Combination) → IsSumOfTerms 1 (terms_of_codes ([] ∷ [])) c → IsAnswer (QsymM ∷ []) 0 (image_of NcsfS []) c
complete_nothing c is = (alone NcsfS refl [] [] tt refl (λ p. complete_at_none p ∙ elementary_at_one_part 0 p) c is).answer

elementary_nothing : (c : Combination) → IsSumOfTerms 1 (terms_of_codes ([] ∷ [])) c → IsAnswer (QsymM ∷ []) 0 (image_of NcsfL []) c
elementary_nothing c is = (alone NcsfL refl [] [] tt refl (λ p. elementary_at_none p ∙ elementary_at_one_part 0 p) c is).answer

pub completes_multiply : IsMultiplicative NcsfS
completes_multiply = record { words = refl; composed = refl; limit = refl; products = complete_read; nothing = complete_nothing; images = images_by_ribbons NcsfS refl (omega arith) changes_exist.complete_in_ribbon }

pub elementaries_multiply : IsMultiplicative NcsfL
elementaries_multiply = record { words = refl; composed = refl; limit = refl; products = elementary_read; nothing = elementary_nothing; images = images_by_ribbons NcsfL refl (omega arith) changes_exist.elementary_in_ribbon }
