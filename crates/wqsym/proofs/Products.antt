-- Products over M: the sum of the merges, and its norm.
use Rattle.std.proofs.Common.{◌≡◌, ◌+◌, ◌*◌, ◌^◌, ◌≤◌, Bool, true, false, List, [], ◌∷◌, length, take, drop, inl, inr, refl, sym, arith}
use Rattle.std.proofs.Math.Pow.{pow_mono}
use Rattle.std.proofs.lemmas.Bool.{false≢true}
use Rattle.basis_names.specs.declared.bases.BasisId.TheVariants.{WqsymM}
use Rattle.basis_representatives.proofs.AllRepresentatives.{class_laws}
use Rattle.fqsym.proofs.Products.{bounded_as, codes_exist}
use Rattle.index_rules.specs.Laws.{HasProducts}
use Rattle.index_rules.specs.Rules.{IsAnswerWithin}
use Rattle.linear_combos.specs.CodeLists.{ListsEach}
use Rattle.linear_combos.specs.Combos.{IsSumOfTerms}
use Rattle.permutation_words.proofs.CanonicalOrder.{added_has, counted_at}
use Rattle.product_laws.specs.Products.{IsProductRule, terms_of_codes}
use Rattle.product_laws.proofs.ClassProducts.{indices_read}
use Rattle.product_laws.proofs.ClassRules.{both_same, degree_of-split, same_both}
use Rattle.product_laws.proofs.CutRules.{by_packings, merge_rule}
use Rattle.product_laws.proofs.GatheredElements.{sums_answer}
use Rattle.product_laws.proofs.ListedOnce.{each_listed}
use Rattle.realisations.specs.Codes.{Code}
use Rattle.realisations.specs.Combinations.{Combination}
use Rattle.realisations.specs.Indices.{IsIndex}
use Rattle.realisations.specs.Lists.{one_if}
use Rattle.realisations.specs.Readings.{element, product}
use Rattle.realisations.specs.Standardisation.{pack}
use Rattle.word_laws.specs.AddedCodes.{AddsEach, times_in}
use Rattle.word_laws.specs.Merges.{IsMerge}
use Rattle.product_laws.specs.Classes.{splits_into}
use Rattle.wqsym.proofs.MergeLists.{merges}

-- what was added to an empty list holds a code once if a test says that it has the property, and else not
times_in-added : (P : Code → Type 0) (codes : List Code) → AddsEach P [] codes → (code : Code) (test : Bool) → (P code → test ≡ true) → (test ≡ true → P code) → times_in code codes ≡ one_if test
times_in-added P codes adds code true to from = elim (adds code) [
  | inl some ↦ some.1
  | inr none ↦ absurd (none.0 (from refl))
]
times_in-added P codes adds code false to from = elim (adds code) [
  | inl some ↦ absurd (false≢true (to some.0))
  | inr none ↦ none.1
]

module _ (u v : Code) (codes : List Code) (adds : AddsEach (IsMerge u v) [] codes) where
  abbrev splits : Code → Bool
  splits code = splits_into (λ n w. pack (take n w)) (λ n w. pack (drop n w)) (length u) u v code

  has_parts : (code : Code) → IsMerge u v code → splits code ≡ true
  has_parts code h = both_same (pack (take (length u) code)) u (pack (drop (length u) code)) v h.front h.back

  is_merge : (code : Code) → IsIndex WqsymM code → splits code ≡ true → IsMerge u v code
  is_merge code is e = let parts = same_both (pack (take (length u) code)) u (pack (drop (length u) code)) v e in record { packed = is; front = parts.0; back = parts.1 }

  -- a merge is an index of the degree of both
  index_of_degree : (code : Code) → IsMerge u v code → IsIndex WqsymM code × (length code ≡ length u + length v)
  index_of_degree code h =
      (h.packed, degree_of-split WqsymM (λ p. pack p) (λ n w. pack (take n w)) (λ n w. pack (drop n w)) by_packings class_laws.packed_words u v code h.packed (has_parts code h))

  -- a list of the merges in any order is a product rule
  pub merges_rule : length codes ≤ 2 ^ (2 * (length u + length v)) → IsProductRule WqsymM u v codes
  merges_rule few =
      let room : 2 ^ (2 * (length u + length v)) ≤ 2 ^ (5 * (length u + length v)) = pow_mono (omega arith) in
      record {
        reads = λ p point. indices_read WqsymM (λ q. pack q) (λ n w. pack (take n w)) (λ n w. pack (drop n w)) by_packings u v codes
            (λ code is. times_in-added (IsMerge u v) codes adds code (splits code) (has_parts code) (is_merge code is)) p point;
        indices = each_listed (IsMerge u v) _ codes
            (λ code there. added_has (IsMerge u v) codes adds code (counted_at codes there.0 code there.1 (sym there.2))) index_of_degree;
        few = omega (arith, few, room);
      }

-- each product has an answer, of norm at most 4^n
pub monomial_products : HasProducts WqsymM 2
monomial_products u v hu hv within =
    let all = merges u v hu hv (omega (arith, within)) in
    let few : length all.new ≤ 2 ^ (2 * (length u + length v)) = omega (arith, all.few) in
    codes_exist WqsymM u v all.new (merges_rule u v all.new all.adds few) 2 few (omega (arith, within))

-- and it is the sum of the merges
pub merges_within : (u v : Code) (codes : List Code) (c : Combination) → IsIndex WqsymM u → IsIndex WqsymM v → length u + length v ≤ 6 → ListsEach (IsMerge u v) codes
    → IsSumOfTerms 1 (terms_of_codes codes) c → IsAnswerWithin 2 (WqsymM ∷ []) (length u + length v) (product (element WqsymM u) (element WqsymM v)) c
merges_within u v codes c hu hv small lists is =
    let (d, other) = monomial_products u v hu hv (omega (arith, small)) in
    bounded_as 2 (WqsymM ∷ []) (length u + length v) (product (element WqsymM u) (element WqsymM v)) c d (omega arith)
    (sums_answer WqsymM u v codes c (merge_rule u v codes (omega (arith, small)) lists) is) other
