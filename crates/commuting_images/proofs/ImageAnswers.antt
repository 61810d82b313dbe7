-- The commuting images of elements of QSym, FQSym and WQSym, as answers over the monomial basis of QSym.
use Rattle.std.proofs.Common.{◌≡◌, ℕ, ◌*◌, ◌^◌, ◌≤◌, List, [], ◌∷◌, map, length, refl, sym, ◌∙◌, ap, subst, arith}
use Rattle.std.specs.List.{sum}
use Rattle.std.proofs.Math.IntN.{pos, ◌*ℤ◌}
use Rattle.std.proofs.Math.Nat.{one-le-pow}
use Rattle.std.proofs.lemmas.Int.{ints}
use Rattle.basis_names.specs.declared.bases.BasisId.{BasisId}
use Rattle.basis_names.specs.declared.bases.BasisId.TheVariants.{FqsymF, FqsymG, QsymF, QsymM, WqsymM}
use Rattle.basis_representatives.proofs.Inverses.{length-inverse}
use Rattle.inclusion_laws.specs.CommutingImages.{CommutesAs, evaluation}
use Rattle.inclusion_laws.proofs.CommutingImages.{KeepsDegrees}
use Rattle.inclusion_laws.proofs.CommutingLaws.{fundamental_images_law, packed_images_law}
use Rattle.inclusion_laws.proofs.FundamentalImages.{descents_keep}
use Rattle.inclusion_laws.proofs.InclusionsOfClasses.{inverse_index}
use Rattle.inclusion_laws.proofs.SumsOfElements.{answered, gathered_code, norm_of-codes}
use Rattle.index_rules.specs.Rules.{IsAnswerWithin}
use Rattle.linear_combos.specs.Combos.{IsSumOfTerms}
use Rattle.product_laws.specs.Products.{terms_of_codes}
use Rattle.product_laws.proofs.ElementProducts.{occurrences, terms_of_codes_at}
use Rattle.realisations.specs.Bases.{kind_of}
use Rattle.realisations.specs.Codes.{Code}
use Rattle.realisations.specs.Combinations.{Combination}
use Rattle.realisations.specs.Descents.{descent_composition}
use Rattle.realisations.specs.Indices.{IsIndex, degree_of}
use Rattle.realisations.specs.Lists.{int_sum, with_sign}
use Rattle.realisations.specs.Points.{Kind, Point, Points, ArePoints, exponents}
use Rattle.realisations.specs.Readings.{Reading, AgreeAt, applied, commute, denominator, element, leaf, numerator, occurrence, reads_at}
use Rattle.realisations.specs.Standardisation.{inverse}
use Rattle.realisations.proofs.Agreement.{agree_trans}
use Rattle.realisations.proofs.TuplesOfPoints.{at_one_point}

-- an answer to a reading is one to each reading that agrees with it
pub other_reading : (growth : ℕ) (bases : List BasisId) (m n : ℕ) (r s : Reading) (c : Combination) → m ≡ n → 1 ≤ denominator r → ((ps : Points) → ArePoints (map kind_of bases) ps → AgreeAt r s ps)
    → IsAnswerWithin growth bases m r c → IsAnswerWithin growth bases n s c
other_reading growth bases m n r s c same positive agree is = subst (λ k. IsAnswerWithin growth bases k s c) same (record {
  answer = record {
    canonical = is.answer.canonical;
    rank = is.answer.rank;
    whole = is.answer.whole;
    small = is.answer.small;
    indices = is.answer.indices;
    degrees = is.answer.degrees;
    reads = λ ps points. agree_trans (leaf bases 1 c.terms) r s ps positive (is.answer.reads ps points) (agree ps points);
  };
  norm = is.norm;
})

-- letters of exponents commute: an element of QSym reads as its commuting image
itself : (basis : BasisId) → kind_of basis ≡ exponents → (code : Code) (p : Point) → numerator (element basis code) (p ∷ []) ≡ numerator (applied commute 0 (element basis code)) (p ∷ [])
itself basis same code p =
    omega (arith, ints)
    ∙ sym (ap (λ (kind : Kind). int_sum (map (λ (r : ℕ × Points). with_sign r.0 (numerator (element basis code) r.1)) (reads_at 0 commute (kind ∷ []) (p ∷ [])))) same)

itself_agrees : (basis : BasisId) → kind_of basis ≡ exponents → (code : Code) (ps : Points) → ArePoints (exponents ∷ []) ps → AgreeAt (element basis code) (applied commute 0 (element basis code)) ps
itself_agrees basis same code = at_one_point exponents (AgreeAt (element basis code) (applied commute 0 (element basis code))) (λ p point. ap (λ z. z *ℤ pos 1) (itself basis same code p))

-- M of a composition, alone
pub monomial_image : (parts : Code) (c : Combination) → IsIndex QsymM parts → IsSumOfTerms 1 (terms_of_codes (parts ∷ [])) c → IsAnswerWithin 0 (QsymM ∷ []) (sum parts) (applied commute 0 (element QsymM parts)) c
monomial_image parts c is one = record {
  answer = answered QsymM (sum parts) (applied commute 0 (element QsymM parts)) (parts ∷ []) c
      (record {
        whole = refl;
        indices = ((is, refl), tt);
        small = one-le-pow (5 * sum parts) 2 (omega arith);
        reads = λ p point. terms_at p ∙ itself QsymM refl parts p;
      }) one;
  norm = omega (arith, norm_of-codes (parts ∷ []), one.gathers.norm, one-le-pow (0 * sum parts) 2 (omega arith));
}
  where
    terms_at : (p : Point) → pos (occurrences QsymM (parts ∷ []) p) ≡ numerator (element QsymM parts) (p ∷ [])
    terms_at p = sym (terms_of_codes_at QsymM (parts ∷ []) p)

-- F of a composition, by its change to M
pub fundamental_image : (parts : Code) (c : Combination) → IsAnswerWithin 1 (QsymM ∷ []) (sum parts) (element QsymF parts) c → IsAnswerWithin 1 (QsymM ∷ []) (sum parts) (applied commute 0 (element QsymF parts)) c
fundamental_image parts c is = other_reading 1 (QsymM ∷ []) (sum parts) (sum parts) (element QsymF parts) (applied commute 0 (element QsymF parts)) c refl (omega arith) (itself_agrees QsymF refl parts) is

-- an element whose image is an element over another basis reads as that one
as_image : (from to : BasisId) (image : Code → Code) → CommutesAs from to image → (index : Code) → IsIndex from index → (ps : Points) → ArePoints (map kind_of (to ∷ [])) ps
    → AgreeAt (element to (image index)) (applied commute 0 (element from index)) ps
as_image from to image law index is ps points =
    let one = gathered_code (image index) in
    let alone = law.sums index one.0 is one.1 in
    ap (λ z. z *ℤ pos 1) (sym (one.1.gathers.weighs (λ key. pos (occurrence (to ∷ []) key ps)))) ∙ alone.image.answer.reads ps points

-- what changes F of its image to M is the image
image_over_monomials : (from : BasisId) (image : Code → Code) → CommutesAs from QsymF image → KeepsDegrees from QsymF image → (index : Code) → IsIndex from index → (c : Combination)
    → IsAnswerWithin 1 (QsymM ∷ []) (sum (image index)) (element QsymF (image index)) c → IsAnswerWithin 1 (QsymM ∷ []) (degree_of from index) (applied commute 0 (element from index)) c
image_over_monomials from image law keeps index is c =
    other_reading 1 (QsymM ∷ []) (sum (image index)) (degree_of from index) (element QsymF (image index)) (applied commute 0 (element from index)) c (keeps index is).1 (omega arith)
    (as_image from QsymF image law index is)

-- F of a permutation, by its descents
pub permutation_image : (s : Code) → IsIndex FqsymF s → (c : Combination) → IsAnswerWithin 1 (QsymM ∷ []) (sum (descent_composition s)) (element QsymF (descent_composition s)) c
    → IsAnswerWithin 1 (QsymM ∷ []) (length s) (applied commute 0 (element FqsymF s)) c
permutation_image = image_over_monomials FqsymF (λ s. descent_composition s) fundamental_images_law.permutations_f descents_keep

-- the descents of the inverse are a composition of the length
pub inverse_keeps : KeepsDegrees FqsymG QsymF (λ s. descent_composition (inverse s))
inverse_keeps s is = let k = descents_keep (inverse s) (inverse_index s is) in (k.0, k.1 ∙ length-inverse s)

-- G of a permutation, by the descents of its inverse
pub dual_image : (s : Code) → IsIndex FqsymG s → (c : Combination) → IsAnswerWithin 1 (QsymM ∷ []) (sum (descent_composition (inverse s))) (element QsymF (descent_composition (inverse s))) c
    → IsAnswerWithin 1 (QsymM ∷ []) (length s) (applied commute 0 (element FqsymG s)) c
dual_image = image_over_monomials FqsymG (λ s. descent_composition (inverse s)) fundamental_images_law.permutations_g inverse_keeps

-- M of a packed word, by its evaluation
pub packed_image : (u : Code) (c : Combination) → IsIndex WqsymM u → IsSumOfTerms 1 (terms_of_codes (evaluation u ∷ [])) c → IsAnswerWithin 0 (QsymM ∷ []) (length u) (applied commute 0 (element WqsymM u)) c
packed_image u c is one =
    let alone = packed_images_law.packed_words.sums u c is one in
    record { answer = alone.image.answer; norm = omega (arith, alone.norm, one-le-pow (0 * length u) 2 (omega arith)) }
