-- The coproduct of an element of FQSym.F: the standardised cuts of its permutation (Malvenuto, Reutenauer 1995).
use Rattle.std.proofs.Common.{◌≡◌, ℕ, suc, ◌+◌, ◌*◌, ◌^◌, ◌≤◌, List, [], ◌∷◌, length, take, drop, refl, sym, ◌∙◌, ap, arith}
use Rattle.std.specs.List.{range_with_len}
use Rattle.std.proofs.Math.IntN.{pos, ◌*ℤ◌}
use Rattle.std.proofs.Math.Pow.{pow_mono}
use Rattle.std.proofs.lemmas.Int.{ints}
use Rattle.std.proofs.lemmas.List.{length-append, length-map}
use Rattle.basis_names.specs.declared.bases.BasisId.TheVariants.{FqsymF, FqsymG}
use Rattle.realisations.specs.Indices.{IsIndex}
use Rattle.realisations.specs.Lists.{same_list, one_if}
use Rattle.realisations.specs.Points.{word, IsPoint}
use Rattle.realisations.specs.Standardisation.{standardise, inverse}
use Rattle.realisations.specs.Words.{word_cuts, greatest, shifted_shuffles}
use Rattle.realisations.proofs.Every.{every-map}
use Rattle.realisations.proofs.Sums.{sums, sums-map, sums_same}
use Rattle.basis_representatives.proofs.Inverses.{inverse-inverse, length-inverse, permutation-inverse}
use Rattle.basis_representatives.proofs.Permutations.{HasEachOnce, each_once, permutation_from, permutation-standardise}
use Rattle.basis_representatives.proofs.SameLists.{same_list-both}
use Rattle.basis_representatives.proofs.SameOrder.{length-standardise}
use Rattle.coproduct_laws.specs.Coproducts.{ArePairs}
use Rattle.coproduct_laws.specs.ValueCuts.{letters_up_to, letters_past, lower, value_cuts}
use Rattle.coproduct_laws.proofs.CoproductCounts.{at_points, at_pair, coproduct_by_counts}
use Rattle.coproduct_laws.proofs.CutLetters.{greatest-permutation}
use Rattle.coproduct_laws.proofs.ValuePairs.{suc-le-pow_two}
use Rattle.coproduct_laws.proofs.ValueRules.{value_rule}
use Rattle.coproduct_laws.proofs.WordCuts.{length-word_cuts, each_cut_of}
use Rattle.coproduct_rules.specs.Laws.{PlaceCoproductLaw}
use Rattle.coproduct_rules.specs.PlaceCuts.{place_cuts}
use Rattle.coproduct_rules.proofs.InverseCuts.{permutation-up_to, permutation-past, inverse_of_front, inverse_of_back}
use Rattle.coproduct_rules.proofs.KeyReadings.{numerator-pairs, numerator-coproduct}
use Rattle.coproduct_rules.proofs.Ranges.{sums_range_alike, sums_range_shift}

-- the cuts of a word are those after each number of letters
word_cuts_at : (f : List ℕ × List ℕ → ℕ) (w : List ℕ) → sums f (word_cuts w) ≡ sums (λ k. f (take k w, drop k w)) (range_with_len 0 (suc (length w)))
word_cuts_at f [] = refl
word_cuts_at f (x ∷ w) =
    ap (λ n. f ([], x ∷ w) + n)
    (sums-map f (λ (c : List ℕ × List ℕ). (x ∷ c.0, c.1)) (word_cuts w)
    ∙ word_cuts_at (λ c. f (x ∷ c.0, c.1)) w ∙ sym (sums_range_shift (λ k. f (take k (x ∷ w), drop k (x ∷ w))) 0 (suc (length w))))

-- two permutations are the same where one and what the other is the inverse of are inverse to one another
inverse_alike : (a t q : List ℕ) → HasEachOnce a → HasEachOnce t → inverse t ≡ q → same_list a t ≡ same_list (inverse a) q
inverse_alike a t q once once' is =
    same_list-both a t (inverse a) q
    (λ e. ap inverse e ∙ is)
    (λ e. sym (inverse-inverse a once) ∙ ap inverse (e ∙ sym is) ∙ inverse-inverse t once')

-- the count of FQSym.G
value_counts : (s u v : List ℕ) → IsIndex FqsymG s → IsPoint word u → IsPoint word v → at_points FqsymG s (shifted_shuffles u v) ≡ at_pair FqsymG u v (value_cuts s)
value_counts s u v h hu hv =
    let read = (value_rule s h).reads u v hu hv in
    let same : pos (at_pair FqsymG u v (value_cuts s)) *ℤ pos 1 ≡ pos (at_points FqsymG s (shifted_shuffles u v)) *ℤ pos 1 =
    ap (λ z. z *ℤ pos 1) (sym (numerator-pairs FqsymG u v (value_cuts s))) ∙ read ∙ ap (λ z. z *ℤ pos 1) (numerator-coproduct FqsymG s u v) in
    omega (arith, ints, same)

module _ (s : List ℕ) (permutation : IsIndex FqsymF s) where
  once : HasEachOnce s
  once = each_once s permutation

  turned_once : HasEachOnce (inverse s)
  turned_once = permutation-inverse s once

  at_place : (u v : List ℕ) (k : ℕ) → k ≤ length s
      → one_if (same_list (standardise u) (letters_up_to k (inverse s))) * one_if (same_list (standardise v) (lower k (letters_past k (inverse s))))
      ≡ one_if (same_list (inverse (standardise u)) (standardise (take k s))) * one_if (same_list (inverse (standardise v)) (standardise (drop k s)))
  at_place u v k le =
      let within : k ≤ length (inverse s) = omega (arith, length-inverse s) in
      let front = inverse_alike (standardise u) (letters_up_to k (inverse s)) (standardise (take k s)) (permutation-standardise u) (permutation-up_to (inverse s) turned_once k within) (inverse_of_front s once k le) in
      let back = inverse_alike (standardise v) (lower k (letters_past k (inverse s))) (standardise (drop k s)) (permutation-standardise v) (permutation-past (inverse s) turned_once k within) (inverse_of_back s once k le) in
      λ i. one_if (front i) * one_if (back i)

  -- a permutation is the inverse of as many standardised shuffles as its cuts are both such inverses
  place_counts : (u v : List ℕ) → IsPoint word u → IsPoint word v → at_points FqsymF s (shifted_shuffles u v) ≡ at_pair FqsymF u v (place_cuts s)
  place_counts u v hu hv =
      sums_same (λ x. one_if (same_list (inverse (standardise x)) s)) (λ x. one_if (same_list (standardise x) (inverse s)))
      (λ x. sym (ap one_if (inverse_alike (standardise x) (inverse s) s (permutation-standardise x) turned_once (inverse-inverse s once)))) (shifted_shuffles u v)
      ∙ value_counts (inverse s) u v (permutation_from (inverse s) turned_once) hu hv
      ∙ sums-map (λ (e : List ℕ × List ℕ). one_if (same_list (standardise u) e.0) * one_if (same_list (standardise v) e.1)) (λ k. (letters_up_to k (inverse s), lower k (letters_past k (inverse s)))) (range_with_len 0 (suc (greatest (inverse s))))
      ∙ ap (λ n. sums (λ k. one_if (same_list (standardise u) (letters_up_to k (inverse s))) * one_if (same_list (standardise v) (lower k (letters_past k (inverse s))))) (range_with_len 0 (suc n)))
      (greatest-permutation (inverse s) turned_once ∙ length-inverse s)
      ∙ sums_range_alike _ (λ k. one_if (same_list (inverse (standardise u)) (standardise (take k s))) * one_if (same_list (inverse (standardise v)) (standardise (drop k s)))) 0 (suc (length s))
      (λ k a b. at_place u v k (omega arith))
      ∙ sym (sums-map (λ (e : List ℕ × List ℕ). one_if (same_list (inverse (standardise u)) e.0) * one_if (same_list (inverse (standardise v)) e.1)) (λ (c : List ℕ × List ℕ). (standardise c.0, standardise c.1)) (word_cuts s)
      ∙ word_cuts_at (λ c. one_if (same_list (inverse (standardise u)) (standardise c.0)) * one_if (same_list (inverse (standardise v)) (standardise c.1))) s)

-- standardised parts are permutations
place_pairs : (s : List ℕ) → ArePairs FqsymF s (place_cuts s)
place_pairs s =
    every-map (λ (c : List ℕ × List ℕ). length c.0 + length c.1 ≡ length s) _ (λ (c : List ℕ × List ℕ). (standardise c.0, standardise c.1))
    (λ c h. (permutation_from (standardise c.0) (permutation-standardise c.0), permutation_from (standardise c.1) (permutation-standardise c.1), omega (arith, h, length-standardise c.0, length-standardise c.1)))
    (word_cuts s)
    (each_cut_of (λ (c : List ℕ × List ℕ). length c.0 + length c.1 ≡ length s) s (λ u v e. sym (length-append u v) ∙ ap length e))

few_places : (s : List ℕ) → length (place_cuts s) ≤ 2 ^ (5 * length s)
few_places s =
    let room : 2 ^ length s ≤ 2 ^ (5 * length s) = pow_mono (omega arith) in
    omega (arith, length-map {B = List ℕ × List ℕ} (word_cuts s) (λ (c : List ℕ × List ℕ). (standardise c.0, standardise c.1)), length-word_cuts s, suc-le-pow_two (length s))

-- the rule of FQSym.F
pub place_rule : PlaceCoproductLaw
place_rule s h = record { reads = coproduct_by_counts FqsymF s (place_cuts s) (λ u v hu hv. place_counts s h u v hu hv); indices = place_pairs s; few = few_places s }
