-- The norms of products and of coproducts over the bases of NCSF.
use Rattle.std.proofs.Common.{◌≡◌, ℕ, ◌+◌, ◌*◌, ◌^◌, ◌<◌, ◌≤◌, List, [], ◌∷◌, ◌++◌, length, refl, ap, arith}
use Rattle.std.proofs.Math.Pow.{pow_mono}
use Rattle.std.specs.List.{sum}
use Rattle.std.proofs.Math.IntN.{ℤ, pos}
use Rattle.std.proofs.lemmas.List.Elements.{All-map}
use Rattle.std.proofs.lemmas.List.Sums.{sum_by-cons}
use Rattle.basis_names.specs.declared.bases.BasisId.{BasisId}
use Rattle.basis_names.specs.declared.bases.BasisId.TheVariants.{NcsfS, NcsfL, NcsfR}
use Rattle.change_laws.proofs.ChangeAnswers.{norm_of-signed}
use Rattle.coproduct_laws.specs.Coproducts.{terms_of_pairs}
use Rattle.coproduct_rules.specs.PartCuts.{part_cuts}
use Rattle.coproduct_rules.proofs.PartPairs.{complete_rule, elementary_rule, few_parts}
use Rattle.index_rules.specs.Rules.{IsAnswerWithin}
use Rattle.index_rules.proofs.PairAnswers.{pairs_within}
use Rattle.linear_combos.specs.Combos.{IsSumOfTerms}
use Rattle.linear_combos.proofs.Gathering.{gathered}
use Rattle.product_laws.specs.Products.{IsProductRule, terms_of_codes}
use Rattle.product_laws.specs.Ribbons.{ribbon_products}
use Rattle.product_laws.proofs.ConcatenationRules.{concatenation_rules}
use Rattle.product_laws.proofs.GatheredElements.{sums_answer}
use Rattle.product_laws.proofs.RibbonRule.{ribbon_rule as ribbon_product_rule}
use Rattle.realisations.specs.Codes.{Code, Key}
use Rattle.realisations.specs.Combinations.{Combination, term_at}
use Rattle.realisations.specs.IndexKinds.{IsComposition}
use Rattle.realisations.specs.Indices.{degree_of}
use Rattle.realisations.specs.Readings.{applied, coproduct, product, element}

-- the answers of a product rule of so few codes
module _ (basis : BasisId) (j k : Code) (codes : List Code) (growth : ℕ) (rule : IsProductRule basis j k codes) (few : length codes ≤ 2 ^ (growth * (degree_of basis j + degree_of basis k))) where
  pub product_within : (c : Combination) → IsSumOfTerms 1 (terms_of_codes codes) c
      → IsAnswerWithin growth (basis ∷ []) (degree_of basis j + degree_of basis k) (product (element basis j) (element basis k)) c
  product_within c is = record { answer = sums_answer basis j k codes c rule is; norm = omega (arith, is.gathers.norm, norm_of-signed (λ code. 0) codes, few) }

  pub product_found : length codes < 2 ^ 127 → (c : Combination) × IsAnswerWithin growth (basis ∷ []) (degree_of basis j + degree_of basis k) (product (element basis j) (element basis k)) c
  product_found small =
      let ranks : (i : ℕ) → i < length (terms_of_codes codes) → length ((term_at (terms_of_codes codes) i).1) ≡ 1 =
      λ i lt. All-map (λ (t : ℤ × Key). length t.1 ≡ 1) (λ code. (pos 1, code ∷ [])) codes (λ k d le. refl) i (pos 0, []) lt in
      let g = gathered 1 (terms_of_codes codes) ranks (omega (arith, norm_of-signed (λ code. 0) codes, small)) in
      let c : Combination = record { rank = 1; den = 1; terms = g.0 } in
      (c, product_within c (record { rank_is = refl; whole = refl; gathers = g.1 }))

-- one code is few, and so are two of a degree that is not 0
pub one_is_few : (n : ℕ) → 1 ≤ 2 ^ (0 * n)
one_is_few n = let e : 0 * n ≡ 0 = omega arith in omega (arith, ap (λ m. 2 ^ m) e)

pub power_from : (m n : ℕ) → m ≤ n → 2 ^ m ≤ 2 ^ n
power_from m n le = pow_mono le

pub few_ribbons_of_two : (j k : Code) → IsComposition j → length (ribbon_products j k) ≤ 2 ^ (1 * (sum j + sum k))
few_ribbons_of_two [] k h = power_from 0 (1 * (sum [] + sum k)) (omega arith)
few_ribbons_of_two (i ∷ j) [] h = power_from 0 (1 * (sum (i ∷ j) + sum [])) (omega arith)
few_ribbons_of_two (i ∷ j) (m ∷ k) h = power_from 1 (1 * (sum (i ∷ j) + sum (m ∷ k))) (omega (arith, h.0, sum_by-cons (λ (n : ℕ). n) i j))

-- the products
pub complete_product : (j k : Code) (c : Combination) → IsComposition j → IsComposition k → IsSumOfTerms 1 (terms_of_codes ((j ++ k) ∷ [])) c
    → IsAnswerWithin 0 (NcsfS ∷ []) (sum j + sum k) (product (element NcsfS j) (element NcsfS k)) c
complete_product j k c hj hk is = product_within NcsfS j k ((j ++ k) ∷ []) 0 (concatenation_rules.complete j k hj hk) (one_is_few (sum j + sum k)) c is

pub elementary_product : (j k : Code) (c : Combination) → IsComposition j → IsComposition k → IsSumOfTerms 1 (terms_of_codes ((j ++ k) ∷ [])) c
    → IsAnswerWithin 0 (NcsfL ∷ []) (sum j + sum k) (product (element NcsfL j) (element NcsfL k)) c
elementary_product j k c hj hk is = product_within NcsfL j k ((j ++ k) ∷ []) 0 (concatenation_rules.elementary j k hj hk) (one_is_few (sum j + sum k)) c is

pub ribbon_product : (j k : Code) (c : Combination) → IsComposition j → IsComposition k → IsSumOfTerms 1 (terms_of_codes (ribbon_products j k)) c
    → IsAnswerWithin 1 (NcsfR ∷ []) (sum j + sum k) (product (element NcsfR j) (element NcsfR k)) c
ribbon_product j k c hj hk is = product_within NcsfR j k (ribbon_products j k) 1 (ribbon_product_rule j k hj hk) (few_ribbons_of_two j k hj) c is

-- the coproducts by cuts of the parts
pub few_cuts : (parts : Code) → length (part_cuts parts) ≤ 2 ^ (1 * sum parts)
few_cuts parts = let e : 1 * sum parts ≡ sum parts = omega arith in omega (arith, few_parts parts, ap (λ m. 2 ^ m) e)

pub complete_cuts : (parts : Code) (c : Combination) → IsComposition parts → IsSumOfTerms 2 (terms_of_pairs (part_cuts parts)) c
    → IsAnswerWithin 1 (NcsfS ∷ NcsfS ∷ []) (sum parts) (applied coproduct 0 (element NcsfS parts)) c
complete_cuts parts c h is = pairs_within NcsfS parts (part_cuts parts) (complete_rule parts h) 1 (few_cuts parts) c is

pub elementary_cuts : (parts : Code) (c : Combination) → IsComposition parts → IsSumOfTerms 2 (terms_of_pairs (part_cuts parts)) c
    → IsAnswerWithin 1 (NcsfL ∷ NcsfL ∷ []) (sum parts) (applied coproduct 0 (element NcsfL parts)) c
elementary_cuts parts c h is = pairs_within NcsfL parts (part_cuts parts) (elementary_rule parts h) 1 (few_cuts parts) c is
