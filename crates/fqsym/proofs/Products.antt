-- The norms of the products of both bases.
use Rattle.std.proofs.Common.{◌≡◌, ℕ, ◌+◌, ◌*◌, ◌^◌, ◌<◌, ◌≤◌, List, [], ◌∷◌, length, refl, ap, arith}
use Rattle.std.proofs.Math.IntN.{ℤ, pos}
use Rattle.std.proofs.Math.Pow.{pow_mono}
use Rattle.std.proofs.lemmas.List.{length-map}
use Rattle.std.proofs.lemmas.List.Elements.{All-map}
use Rattle.basis_names.specs.declared.bases.BasisId.{BasisId}
use Rattle.basis_names.specs.declared.bases.BasisId.TheVariants.{FqsymF, FqsymG}
use Rattle.change_laws.proofs.ChangeAnswers.{norm_of-signed}
use Rattle.index_rules.specs.Changes.{change_facts}
use Rattle.index_rules.specs.Laws.{HasAnswers, HasProducts}
use Rattle.index_rules.specs.Rules.{IsAnswerWithin}
use Rattle.index_rules.specs.Spaces.{limit_for}
use Rattle.index_rules.proofs.ProductsByChangeExist.{products_by_change_exist}
use Rattle.index_rules.proofs.UniqueAnswers.{same_answers}
use Rattle.linear_combos.specs.CodeLists.{ListsEach}
use Rattle.linear_combos.specs.Combos.{IsSumOfTerms}
use Rattle.linear_combos.proofs.Gathering.{gathered}
use Rattle.product_laws.specs.Products.{IsProductRule, terms_of_codes}
use Rattle.product_laws.proofs.CutRules.{convolution_rule}
use Rattle.product_laws.proofs.EveryShuffle.{few_shuffles}
use Rattle.product_laws.proofs.GatheredElements.{sums_answer}
use Rattle.product_laws.proofs.ShuffleRule.{shuffle_rule}
use Rattle.realisations.specs.Answers.{IsAnswer}
use Rattle.realisations.specs.Codes.{Code, Key}
use Rattle.realisations.specs.Combinations.{Combination, norm_of, term_at}
use Rattle.realisations.specs.Indices.{IsIndex, degree_of}
use Rattle.realisations.specs.Readings.{Reading, denominator, element, product}
use Rattle.realisations.specs.Words.{greatest, raise, shifted_shuffles}
use Rattle.word_laws.specs.Merges.{IsConvolution}
use Rattle.fqsym.proofs.Changes.{dual_in_fundamental, fundamental_in_dual, one_element}
use Rattle.realisations.specs.Standardisation.{inverse}

-- each key has one code
length-codes : (codes : List Code) (i : ℕ) → i < length (terms_of_codes codes) → length ((term_at (terms_of_codes codes) i).1) ≡ 1
length-codes codes i lt = All-map (λ (t : ℤ × Key). length t.1 ≡ 1) (λ code. (pos 1, code ∷ [])) codes (λ k d le. refl) i (pos 0, []) lt

-- the sum of the elements of a product rule is within the number of its codes, and exists
module _ (basis : BasisId) (s t : Code) (codes : List Code) (rule : IsProductRule basis s t codes) (growth : ℕ)
    (few : length codes ≤ 2 ^ (growth * (degree_of basis s + degree_of basis t))) where
  codes_within : (c : Combination) → IsSumOfTerms 1 (terms_of_codes codes) c
      → IsAnswerWithin growth (basis ∷ []) (degree_of basis s + degree_of basis t) (product (element basis s) (element basis t)) c
  codes_within c is = record { answer = sums_answer basis s t codes c rule is; norm = omega (arith, is.gathers.norm, norm_of-signed (λ code. 0) codes, few) }

  pub codes_exist : growth * (degree_of basis s + degree_of basis t) ≤ 126
      → (c : Combination) × IsAnswerWithin growth (basis ∷ []) (degree_of basis s + degree_of basis t) (product (element basis s) (element basis t)) c
  codes_exist small =
      let most : 2 ^ (growth * (degree_of basis s + degree_of basis t)) ≤ 2 ^ 126 = pow_mono {j = 126} (omega (arith, small)) in
      let g = gathered 1 (terms_of_codes codes) (length-codes codes) (omega (arith, norm_of-signed (λ code. 0) codes, few, most)) in
      let c : Combination = record { rank = 1; den = 1; terms = g.0 } in
      (c, codes_within c (record { rank_is = refl; whole = refl; gathers = g.1 }))

-- no other combination has the reading of an answer, so a bound of its norm is one of each
pub bounded_as : (growth : ℕ) (bases : List BasisId) (n : ℕ) (reading : Reading) (c d : Combination) → 1 ≤ denominator reading → IsAnswer bases n reading c
    → IsAnswerWithin growth bases n reading d → IsAnswerWithin growth bases n reading c
bounded_as growth bases n reading c d positive answer other =
    let same : c ≡ d = same_answers bases n reading c d positive answer other.answer in
    record { answer = answer; norm = omega (arith, ap (λ (v : Combination). norm_of v.terms) same, other.norm) }

-- there are at most 2^n shuffles of n letters
few_shifted : (s t : Code) → length (shifted_shuffles s t) ≤ 2 ^ (1 * (length s + length t))
few_shifted s t =
    let n : ℕ = length s + length t in
    let e : 1 * n ≡ n = omega arith in
    omega (arith, few_shuffles n s (raise (greatest s) t) (omega (arith, length-map t (λ x. greatest s + x))), ap (λ k. 2 ^ k) e)

-- a product over F is the sum of the shuffles
pub shuffles_within : (s t : Code) (c : Combination) → IsIndex FqsymF s → IsIndex FqsymF t → IsSumOfTerms 1 (terms_of_codes (shifted_shuffles s t)) c
    → IsAnswerWithin 1 (FqsymF ∷ []) (length s + length t) (product (element FqsymF s) (element FqsymF t)) c
shuffles_within s t c hs ht is = codes_within FqsymF s t (shifted_shuffles s t) (shuffle_rule s t hs ht) 1 (few_shifted s t) c is

-- and there is such a sum
pub fundamental_products : HasProducts FqsymF 1
fundamental_products s t hs ht within =
    codes_exist FqsymF s t (shifted_shuffles s t) (shuffle_rule s t hs ht) 1 (few_shifted s t) (omega (arith, within))

-- each element of either basis is one of the other
pub fundamental_changes : HasAnswers (change_facts FqsymF FqsymG (limit_for FqsymF) 0)
fundamental_changes s h = (one_element (inverse s), fundamental_in_dual s h.index)

pub dual_changes : HasAnswers (change_facts FqsymG FqsymF (limit_for FqsymG) 0)
dual_changes s h = (one_element (inverse s), dual_in_fundamental s h.index)

-- so G has the products of F
pub dual_products : HasProducts FqsymG 1
dual_products = products_by_change_exist FqsymG FqsymF 0 1 0 refl (omega arith) (omega arith) dual_changes fundamental_products fundamental_changes

-- a product over G is the sum of the convolutions: no other combination has its reading, so its norm is that of a product of F
pub convolutions_within : (s t : Code) (codes : List Code) (c : Combination) → IsIndex FqsymG s → IsIndex FqsymG t → length s + length t ≤ 7 → ListsEach (IsConvolution s t) codes
    → IsSumOfTerms 1 (terms_of_codes codes) c → IsAnswerWithin 1 (FqsymG ∷ []) (length s + length t) (product (element FqsymG s) (element FqsymG t)) c
convolutions_within s t codes c hs ht small lists is =
    let (d, other) = dual_products s t hs ht (omega (arith, small)) in
    bounded_as 1 (FqsymG ∷ []) (length s + length t) (product (element FqsymG s) (element FqsymG t)) c d (omega arith)
    (sums_answer FqsymG s t codes c (convolution_rule s t codes (omega (arith, small)) lists) is) other
