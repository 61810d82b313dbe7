-- Commuting images of products: where elements of a basis multiply by concatenation of indices, the commuting image of a concatenation is the product of both images.
use Rattle.std.proofs.Common.{◌≡◌, ℕ, ◌*◌, List, [], ◌∷◌, ◌++◌, map, refl, sym, ◌∙◌, ap, subst, arith}
use Rattle.std.specs.List.{flat_map}
use Rattle.std.proofs.Math.IntN.{pos, ◌*ℤ◌}
use Rattle.std.proofs.lemmas.Int.{ints}
use Rattle.basis_names.specs.declared.bases.BasisId.{BasisId}
use Rattle.realisations.specs.Bases.{kind_of}
use Rattle.realisations.specs.Codes.{Code}
use Rattle.realisations.specs.Exponents.{exponent_cuts}
use Rattle.realisations.specs.Lists.{int_sum, one_if, with_sign}
use Rattle.realisations.specs.Occurrence.{occurs}
use Rattle.realisations.specs.Points.{Kind, word, Point, Points, IsPoint}
use Rattle.realisations.specs.Readings.{AgreeAt, all_cuts, applied, commute, element, kinds_after_at, leaf, numerator, product, reads_at}
use Rattle.realisations.specs.Words.{words_of}
use Rattle.realisations.proofs.Sums.{sums, sums_same}
use Rattle.coproduct_rules.proofs.DoubleSums.{sums_times}
use Rattle.coproduct_rules.proofs.ShuffleCuts.{over_word_cuts}
use Rattle.inclusion_laws.proofs.CountsOfWords.{sums_every, words_are_points, words_at}
use Rattle.product_laws.specs.Products.{IsProduct, terms_of_codes}
use Rattle.product_laws.proofs.ElementProducts.{cut_sum, element_at, product_at, terms_of_codes_at}
use Rattle.commuting_images.proofs.WordsOfExponents.{cuts_of_words}

sum_at_words : (basis : BasisId) (code : Code) (ws : List Point)
    → int_sum (map (λ (r : ℕ × Points). with_sign r.0 (numerator (element basis code) r.1)) (map (λ (q : Point). (0, q ∷ [])) ws)) ≡ pos (sums (λ w. one_if (occurs basis code w)) ws)
sum_at_words basis code [] = refl
sum_at_words basis code (w ∷ ws) = omega (arith, ints, element_at basis code w, sum_at_words basis code ws)

-- the commuting image of an element over words is read as the number of words at which it occurs
pub image_at : (basis : BasisId) → kind_of basis ≡ word → (code : Code) (p : Point) → numerator (applied commute 0 (element basis code)) (p ∷ []) ≡ pos (words_at basis code p)
image_at basis words code p =
    ap (λ (kind : Kind). int_sum (map (λ (r : ℕ × Points). with_sign r.0 (numerator (element basis code) r.1)) (reads_at 0 commute (kind ∷ []) (p ∷ [])))) words
    ∙ sum_at_words basis code (words_of p)

-- a product that is one element, counted at a word
product_counts : (basis : BasisId) → kind_of basis ≡ word → (i j : Code) → IsProduct basis i j ((i ++ j) ∷ []) → (w : Point) → IsPoint word w → one_if (occurs basis (i ++ j) w) ≡ cut_sum basis i j w
product_counts basis words i j is w point =
    let same : AgreeAt (leaf (basis ∷ []) 1 (terms_of_codes ((i ++ j) ∷ []))) (product (element basis i) (element basis j)) (w ∷ []) = is w (subst (λ kind. IsPoint kind w) (sym words) point) in
    omega (arith, ints, terms_of_codes_at basis ((i ++ j) ∷ []) w, product_at basis i j w words, same)

-- the words of a monomial at which a concatenation occurs are counted by the cuts of the monomial
pub concatenation_counts : (basis : BasisId) → kind_of basis ≡ word → (i j : Code) → IsProduct basis i j ((i ++ j) ∷ []) → (p : Point)
    → words_at basis (i ++ j) p ≡ sums (λ (c : Point × Point). words_at basis i c.0 * words_at basis j c.1) (exponent_cuts p)
concatenation_counts basis words i j is p =
    let h : Point → Point → ℕ = λ u v. one_if (occurs basis i u) * one_if (occurs basis j v) in
    sums_every (IsPoint word) (λ w. one_if (occurs basis (i ++ j) w)) (λ w. over_word_cuts h w) (λ w point. product_counts basis words i j is w point) (words_of p) (words_are_points p)
    ∙ cuts_of_words h p
    ∙ sums_same (λ (c : Point × Point). sums (λ u. sums (λ v. h u v) (words_of c.1)) (words_of c.0)) (λ (c : Point × Point). words_at basis i c.0 * words_at basis j c.1)
    (λ c. sym (sums_times (λ u. one_if (occurs basis i u)) (λ v. one_if (occurs basis j v)) (words_of c.0) (words_of c.1))) (exponent_cuts p)

-- the product of two images at exponents
product_of_images : (basis : BasisId) → kind_of basis ≡ word → (i j : Code) (cs : List (Point × Point))
    → int_sum (map (λ (c : Points × Points). numerator (applied commute 0 (element basis i)) c.0 *ℤ numerator (applied commute 0 (element basis j)) c.1)
    (flat_map (λ (c : Point × Point). map (λ (d : Points × Points). (c.0 ∷ d.0, c.1 ∷ d.1)) (all_cuts [] [])) cs))
    ≡ pos (sums (λ (c : Point × Point). words_at basis i c.0 * words_at basis j c.1) cs)
product_of_images basis words i j [] = refl
product_of_images basis words i j (c ∷ cs) =
    let head : numerator (applied commute 0 (element basis i)) (c.0 ∷ []) *ℤ numerator (applied commute 0 (element basis j)) (c.1 ∷ []) ≡ pos (words_at basis i c.0 * words_at basis j c.1) =
    (λ k. image_at basis words i c.0 k *ℤ image_at basis words j c.1 k) in
    omega (arith, ints, head, product_of_images basis words i j cs)

-- the image of a concatenation is the product of the images
pub images_multiply : (basis : BasisId) → kind_of basis ≡ word → (i j : Code) → IsProduct basis i j ((i ++ j) ∷ []) → (p : Point)
    → AgreeAt (product (applied commute 0 (element basis i)) (applied commute 0 (element basis j))) (applied commute 0 (element basis (i ++ j))) (p ∷ [])
images_multiply basis words i j is p =
    ap (λ z. z *ℤ pos 1)
    (ap (λ (kind : Kind). int_sum (map (λ (c : Points × Points). numerator (applied commute 0 (element basis i)) c.0 *ℤ numerator (applied commute 0 (element basis j)) c.1)
    (all_cuts (kinds_after_at 0 commute (kind ∷ [])) (p ∷ [])))) words
    ∙ product_of_images basis words i j (exponent_cuts p)
    ∙ ap pos (sym (concatenation_counts basis words i j is p))
    ∙ sym (image_at basis words (i ++ j) p))
