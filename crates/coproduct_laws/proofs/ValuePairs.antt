-- The cuts by values of a packed word are pairs of packed words, and those of a permutation pairs of permutations; both are few.
use Rattle.std.proofs.Common.{◌≡◌, ℕ, zero, suc, ◌+◌, ◌-◌, ◌*◌, ◌^◌, ◌<◌, ◌≤◌, List, length, ◌∙◌, arith}
use Rattle.std.specs.Prelude.{nat_le, nat_lt}
use Rattle.std.specs.List.{AllByRecursion, range_with_len}
use Rattle.std.proofs.Math.Nat.{pow-suc}
use Rattle.std.proofs.Math.Pow.{pow_mono}
use Rattle.std.proofs.lemmas.List.FromFn.{length-map-range_with_len}
use Rattle.basis_names.specs.declared.bases.BasisId.TheVariants.{FqsymG, WqsymM}
use Rattle.realisations.specs.Words.{greatest}
use Rattle.realisations.specs.Indices.{IsIndex}
use Rattle.realisations.proofs.Every.{every-map}
use Rattle.basis_representatives.proofs.Counts.{among_some}
use Rattle.basis_representatives.proofs.Letters.{Letters-range}
use Rattle.basis_representatives.proofs.PackedWords.{HasAllLetters, all_letters, letters_to_greatest, packed_from}
use Rattle.basis_representatives.proofs.Permutations.{HasEachOnce, count_below-permutation, each_once, permutation_from}
use Rattle.coproduct_laws.specs.Coproducts.{ArePairs}
use Rattle.coproduct_laws.specs.ValueCuts.{letters_up_to, letters_past, lower, value_cuts}
use Rattle.coproduct_laws.proofs.CutLetters.{count_past, count_up_to, counted, greatest-packed, greatest-permutation, greatest_up_to, length_cut, length_up_to}
use Rattle.coproduct_laws.proofs.LowAndHigh.{greatest_from_low, high_past, letters_of_filter}

-- what both words of each cut have, up to the greatest letter, all pairs have
each_cut : (P : List ℕ × List ℕ → Type 0) (w : List ℕ) → ((k : ℕ) → k ≤ greatest w → P (letters_up_to k w, lower k (letters_past k w))) → AllByRecursion P (value_cuts w)
each_cut P w each =
    every-map (λ k. k ≤ greatest w) P (λ k. (letters_up_to k w, lower k (letters_past k w))) each (range_with_len 0 (suc (greatest w)))
    (Letters-range (λ k. k ≤ greatest w) 0 (suc (greatest w)) (λ k from to. omega arith))

module _ (w : List ℕ) (packed : HasAllLetters w) where
  -- the letters up to k are packed
  packed-up_to : (k : ℕ) → k ≤ greatest w → HasAllLetters (letters_up_to k w)
  packed-up_to k le = record {
    positive = letters_of_filter (λ x. 1 ≤ x) (λ x. nat_le x k) w packed.positive;
    each = λ x from to.
        let within : x ≤ k = omega (arith, to, greatest_up_to w packed k le) in
        among_some x (letters_up_to k w) (omega (arith, count_up_to k x w within, counted x w (packed.each x from (omega arith))));
  }

  -- the letters past k, lowered, are at most what is left of the greatest
  greatest-past : (k : ℕ) → greatest (lower k (letters_past k w)) ≤ greatest w - k
  greatest-past k =
      greatest_from_low (greatest w - k) (lower k (letters_past k w))
      (every-map (λ x. x ≤ greatest w) (λ x. x ≤ greatest w - k) (λ x. x - k) (λ x le. omega arith) (letters_past k w)
      (letters_of_filter (λ x. x ≤ greatest w) (λ x. nat_lt k x) w (letters_to_greatest w (greatest w) (omega arith))))

  -- the letters past k, lowered, are packed
  packed-past : (k : ℕ) → HasAllLetters (lower k (letters_past k w))
  packed-past k = record {
    positive = every-map (λ x. k < x) (λ x. 1 ≤ x) (λ x. x - k) (λ x h. omega arith) (letters_past k w) (high_past k w);
    each = λ x from to.
        among_some x (lower k (letters_past k w)) (omega (arith, count_past k x w from, counted (k + x) w (packed.each (k + x) (omega arith) (omega (arith, from, to, greatest-past k)))));
  }

module _ (s : List ℕ) (permutation : HasEachOnce s) (k : ℕ) (le : k ≤ length s) where
  -- of a permutation k values are up to k
  size-up_to : length (letters_up_to k s) ≡ k
  size-up_to = length_up_to k s ∙ count_below-permutation s permutation k le

  -- they are a permutation
  permutation-up_to : HasEachOnce (letters_up_to k s)
  permutation-up_to = record {
    once = λ i from to. count_up_to k i s (omega (arith, to, size-up_to)) ∙ permutation.once i from (omega (arith, to, size-up_to));
  }

  -- and so are those past k, lowered
  permutation-past : HasEachOnce (lower k (letters_past k s))
  permutation-past = record {
    once = λ i from to. count_past k i s from ∙ permutation.once (k + i) (omega arith) (omega (arith, to, size-up_to, length_cut k s));
  }

-- WQSym.M
pub packed_pairs : (w : List ℕ) → IsIndex WqsymM w → ArePairs WqsymM w (value_cuts w)
packed_pairs w h =
    let packed = all_letters w h in
    each_cut _ w (λ k le. (packed_from (letters_up_to k w) (packed-up_to w packed k le), packed_from (lower k (letters_past k w)) (packed-past w packed k), length_cut k w))

-- FQSym.G
pub value_pairs : (s : List ℕ) → IsIndex FqsymG s → ArePairs FqsymG s (value_cuts s)
value_pairs s h =
    let permutation = each_once s h in
    each_cut _ s
    (λ k le.
    let within : k ≤ length s = omega (arith, le, greatest-permutation s permutation) in
    (permutation_from (letters_up_to k s) (permutation-up_to s permutation k within), permutation_from (lower k (letters_past k s)) (permutation-past s permutation k within), length_cut k s))

-- n + 1 is at most 2^n
pub suc-le-pow_two : (n : ℕ) → suc n ≤ 2 ^ n
suc-le-pow_two zero = omega arith
suc-le-pow_two (suc n) = omega (arith, pow-suc 2 n, suc-le-pow_two n)

-- there is one cut for each number up to the greatest letter
pub few_cuts : (w : List ℕ) → HasAllLetters w → length (value_cuts w) ≤ 2 ^ (5 * length w)
few_cuts w packed =
    let cuts : length (value_cuts w) ≡ suc (greatest w) =
    length-map-range_with_len {X = List ℕ × List ℕ} (λ k. (letters_up_to k w, lower k (letters_past k w))) 0 (suc (greatest w)) in
    let room : 2 ^ length w ≤ 2 ^ (5 * length w) = pow_mono (omega arith) in
    omega (arith, cuts, room, greatest-packed w packed, suc-le-pow_two (length w))
