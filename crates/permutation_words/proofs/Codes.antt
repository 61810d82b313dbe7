-- Lists of few small positive letters are codes: permutations, standardisations, inverses, evaluations and descent compositions.
use Rattle.std.proofs.Common.{◌≡◌, ℕ, suc, ◌≤◌, Bool, true, false, List, [], ◌∷◌, length, refl, arith}
use Rattle.std.specs.Prelude.{nat_le, nat_lt, ◌&&◌, IsTrue, if◌then◌else◌}
use Rattle.std.proofs.lemmas.Bool.{and_from}
use Rattle.std.proofs.lemmas.Bool.Decides.{nat_tests}
use Rattle.std.proofs.lemmas.List.FromFn.{length-map-range_with_len}
use Rattle.realisations.specs.Descents.{longer_first, descent_composition}
use Rattle.realisations.specs.Standardisation.{count_same, standardise, inverse}
use Rattle.realisations.specs.Words.{greatest}
use Rattle.realisations.proofs.RisingMaps.{Letters}
use Rattle.basis_representatives.proofs.Counts.{count_within}
use Rattle.basis_representatives.proofs.Inverses.{length-inverse, permutation-inverse}
use Rattle.basis_representatives.proofs.Letters.{Letters-values, Letters-weaker, UpTo, up_to_greatest}
use Rattle.basis_representatives.proofs.PackedWords.{HasAllLetters}
use Rattle.basis_representatives.proofs.Permutations.{HasEachOnce, each_once, letters_that_occur, letters-permutation, permutation_from, permutation-standardise}
use Rattle.basis_representatives.proofs.SameOrder.{length-standardise}
use Rattle.coproduct_laws.proofs.CutLetters.{counted, greatest-packed}
use Rattle.linear_combos.specs.Codes.{IsCode, all_letters as all_code_letters}
use Rattle.permutation_words.specs.Evaluations.{evaluation}
use Rattle.permutation_words.specs.Sizes.{IsSmallPermutation}

small_letters : (n : ℕ) (w : List ℕ) → n ≤ 15 → UpTo n w → IsTrue (all_code_letters w)
small_letters n [] le h = refl
small_letters n (x ∷ w) le h = and_from (nat_le 1 x && nat_le x 15) (all_code_letters w) (letter x h.0.0 (omega (arith, h.0.1, le))) (small_letters n w le h.1)
  where
    letter : (x : ℕ) → 1 ≤ x → x ≤ 15 → (nat_le 1 x && nat_le x 15) ≡ true
    letter x low high = grind (arith, nat_tests)

-- few letters from 1 to a small number
pub IsCode-up_to : (n : ℕ) (w : List ℕ) → n ≤ 15 → length w ≤ 15 → UpTo n w → IsCode w
IsCode-up_to n w le short h = record { short = short; letters = small_letters n w le h }

-- few positive letters, the greatest of them small
pub IsCode-greatest : (w : List ℕ) → Letters (λ x. 1 ≤ x) w → greatest w ≤ 15 → length w ≤ 15 → IsCode w
IsCode-greatest w positive low short = IsCode-up_to 15 w (omega arith) short (up_to_greatest w 15 low positive)

pub IsCode-permutation : (s : List ℕ) → HasEachOnce s → length s ≤ 15 → IsCode s
IsCode-permutation s h short = IsCode-up_to (length s) s short short (letters_that_occur (λ x. (1 ≤ x) × (x ≤ length s)) s (letters-permutation s h))

pub IsCode-standardise : (w : List ℕ) → length w ≤ 15 → IsCode (standardise w)
IsCode-standardise w short = IsCode-permutation (standardise w) (permutation-standardise w) (omega (arith, length-standardise w))

pub small_inverse : (s : List ℕ) → IsSmallPermutation s → IsSmallPermutation (inverse s)
small_inverse s h = record {
  permutation = permutation_from (inverse s) (permutation-inverse s (each_once s h.permutation));
  small = omega (arith, length-inverse s, h.small);
}

pub IsCode-inverse : (s : List ℕ) → IsSmallPermutation s → IsCode (inverse s)
IsCode-inverse s h = IsCode-permutation (inverse s) (permutation-inverse s (each_once s h.permutation)) (omega (arith, length-inverse s, h.small))

pub length-evaluation : (u : List ℕ) → length (evaluation u) ≡ greatest u
length-evaluation u = length-map-range_with_len (λ x. count_same x u) 1 (greatest u)

-- a packed word has each of its letters, so few of them
pub IsCode-evaluation : (u : List ℕ) → HasAllLetters u → length u ≤ 15 → IsCode (evaluation u)
IsCode-evaluation u h short =
    IsCode-up_to (length u) (evaluation u) short (omega (arith, length-evaluation u, greatest-packed u h))
    (Letters-values (λ x. (1 ≤ x) × (x ≤ length u)) (λ x. count_same x u) 1 (greatest u)
    (λ x low high. (counted x u (h.each x low (omega (arith, high))), count_within _ u)))

-- the parts of a descent composition are at most as many, and as large, as the word is long
parts-more : (n m : ℕ) (parts : List ℕ) → n ≤ m → UpTo n parts → UpTo m parts
parts-more n m parts le h = Letters-weaker (λ x. (1 ≤ x) × (x ≤ n)) (λ x. (1 ≤ x) × (x ≤ m)) (λ x k. (k.0, omega (arith, k.1, le))) parts h

descents_step : (n : ℕ) (b : Bool) (parts : List ℕ) → 1 ≤ n → UpTo n parts × (length parts ≤ n)
    → UpTo (suc n) (if b then 1 ∷ parts else longer_first parts) × (length (if b then 1 ∷ parts else longer_first parts) ≤ suc n)
descents_step n true parts some h = (((omega arith, omega arith), parts-more n (suc n) parts (omega arith) h.0), omega (arith, h.1))
descents_step n false [] some h = (((omega arith, omega arith), tt), omega arith)
descents_step n false (i ∷ parts) some h = (((omega arith, omega (arith, h.0.0.1)), parts-more n (suc n) parts (omega arith) h.0.1), omega (arith, h.1))

small_parts : (w : List ℕ) → UpTo (length w) (descent_composition w) × (length (descent_composition w) ≤ length w)
small_parts [] = (tt, omega arith)
small_parts (x ∷ []) = (((omega arith, omega arith), tt), omega arith)
small_parts (x ∷ y ∷ w) = descents_step (length (y ∷ w)) (nat_lt y x) (descent_composition (y ∷ w)) (omega arith) (small_parts (y ∷ w))

pub IsCode-descent_composition : (w : List ℕ) → length w ≤ 15 → IsCode (descent_composition w)
IsCode-descent_composition w short = let small = small_parts w in IsCode-up_to (length w) (descent_composition w) short (omega (arith, small.1)) small.0
