-- The image of a composition by those of its first part and of the others.
use Rattle.std.proofs.Common.{length, get_or, drop, ◌≡◌, ℕ, ◌+◌, ◌*◌, ◌^◌, ◌<◌, ◌≤◌, [], ◌∷◌, refl, sym, ◌∙◌, ap, subst, arith}
use Rattle.std.specs.List.{sum}
use Rattle.basis_names.specs.declared.bases.BasisId.{BasisId}
use Rattle.basis_names.specs.declared.bases.BasisId.TheVariants.{QsymM}
use Rattle.compositions.proofs.Parts.{parts}
use Rattle.index_rules.specs.Lifts.{AreMultiplied, CanMultiply}
use Rattle.index_rules.specs.Rules.{IsAnswerWithin}
use Rattle.index_rules.specs.Spaces.{IsIndexWithin}
use Rattle.index_rules.proofs.ProductsByChange.{can_multiply, growths}
use Rattle.linear_combos.specs.Combos.{IsTensor}
use Rattle.product_laws.proofs.Parts.{sum-cons}
use Rattle.realisations.specs.Codes.{Code}
use Rattle.realisations.specs.Combinations.{Combination, IsCanonical, norm_of}
use Rattle.realisations.specs.IndexKinds.{degree_by}
use Rattle.realisations.specs.Indices.{degree_of}
use Rattle.realisations.specs.Readings.{Reading, kinds_after_at, commute, product}
use Rattle.commuting_images.specs.ImagesOfParts.{IsMultiplicative, IsOfAnyNorm, image_of}
use Rattle.commuting_images.proofs.AnswersOfAnyNorm.{any_read_as, multiplied_image, of_any_norm, the_answer}
use Rattle.commuting_images.proofs.ProductsOfImages.{images_multiply}

-- the first part and the others
pub first_and_later : (code behind : Code) (i : ℕ) → 1 ≤ length code → i ≡ get_or code 0 0 → behind ≡ drop 1 code → code ≡ i ∷ behind
first_and_later code behind i some letter rest = parts code some ∙ (λ k. sym letter k ∷ sym rest k)

-- the degree is the sum of the parts
degree_by_parts : (basis : BasisId) → IsMultiplicative basis → (code : Code) → degree_of basis code ≡ sum code
degree_by_parts basis multiplies code = ap (λ k. degree_by k code) multiplies.composed

module _ (basis : BasisId) (multiplies : IsMultiplicative basis) (code behind : Code) (i : ℕ) (is : code ≡ i ∷ behind) (h : IsIndexWithin basis code) (first rest : Combination)
    (hf : IsAnswerWithin 5 (QsymM ∷ []) (degree_of basis (i ∷ [])) (image_of basis (i ∷ [])) first) (hr : IsAnswerWithin 5 (QsymM ∷ []) (degree_of basis behind) (image_of basis behind) rest) where
  degrees : degree_of basis (i ∷ []) + degree_of basis behind ≡ degree_of basis code
  degrees =
      omega (
        arith,
        degree_by_parts basis multiplies code,
        degree_by_parts basis multiplies (i ∷ []),
        degree_by_parts basis multiplies behind,
        ap (λ (v : Code). sum v) is,
        sum-cons i behind,
        sum-cons i [],
      )

  within : degree_of basis (i ∷ []) + degree_of basis behind ≤ 10
  within = omega (arith, degrees, h.degree, multiplies.limit)

  small : degree_of basis (i ∷ []) + degree_of basis behind ≤ 12
  small = omega (arith, within)

  -- there is room for the products of their terms
  pub parts_room : norm_of first.terms * norm_of rest.terms < 2 ^ 127
  parts_room = growths _ _ (degree_of basis (i ∷ [])) (degree_of basis behind) hf.answer.small hr.answer.small (omega (arith, small)) (omega (arith, small))

  module _ (pairs : Combination) (canonical : IsCanonical pairs.rank pairs.den pairs.terms) (tensor : IsTensor first rest pairs) where
    pub parts_can_multiply : CanMultiply QsymM 0 pairs
    parts_can_multiply =
        can_multiply QsymM 5 (degree_of basis (i ∷ [])) (degree_of basis behind) small (image_of basis (i ∷ [])) (image_of basis behind) first rest pairs hf hr canonical tensor (omega (arith, within))

    -- and the product is the image
    pub parts_image : (growth : ℕ) (out : Combination) → AreMultiplied QsymM growth 0 pairs out → IsAnswerWithin 5 (QsymM ∷ []) (degree_of basis code) (image_of basis code) out
    parts_image growth out multiplied =
        let n : ℕ = degree_of basis (i ∷ []) + degree_of basis behind in
        let reading : Reading = product (image_of basis (i ∷ [])) (image_of basis behind) in
        let read =
        multiplied_image (degree_of basis (i ∷ [])) (degree_of basis behind) growth (image_of basis (i ∷ [])) (image_of basis behind) first rest pairs out (of_any_norm _ _ first hf.answer) (of_any_norm _ _ rest hr.answer)
        canonical tensor multiplied (ap (λ k. kinds_after_at 0 commute (k ∷ [])) (sym multiplies.words)) in
        let image = any_read_as n reading (image_of basis (i ∷ behind)) out refl (images_multiply basis multiplies.words (i ∷ []) behind (multiplies.products (i ∷ []) behind)) read in
        let (answer, known) = multiplies.images code (record { index = h.index; degree = h.degree }) in
        the_answer 5 (degree_of basis code) (image_of basis code) out answer (omega arith)
        (subst (λ m. IsOfAnyNorm m (image_of basis code) out) degrees (subst (λ (v : Code). IsOfAnyNorm n (image_of basis v) out) (sym is) image)) known
