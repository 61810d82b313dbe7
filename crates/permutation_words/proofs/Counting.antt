-- Counts, letter by letter.
use Rattle.std.proofs.Common.{◌≡◌, ◌≢◌, ℕ, zero, suc, ◌+◌, ◌<◌, ◌≤◌, Bool, true, false, List, [], ◌∷◌, length, take, get_or, refl, sym, arith}
use Rattle.std.specs.Prelude.{nat_lt}
use Rattle.std.proofs.lemmas.Bool.Decides.{nat_tests}
use Rattle.realisations.specs.Lists.{one_if}
use Rattle.realisations.specs.IndexKinds.{is_permutation}
use Rattle.basis_representatives.proofs.Permutations.{each_once, permutation_from}
use Rattle.realisations.specs.Standardisation.{count_below, count_same, standardise_after, standardise}

-- a word is a permutation where each number from 1 to its length is counted once, and no permutation where one is not
pub all_once : (s : List ℕ) → ((k : ℕ) → 1 ≤ k → k ≤ length s → count_same k s ≡ 1) → true ≡ is_permutation s
all_once s h = sym (permutation_from s record { once = h })

pub not_once : (s : List ℕ) (i : ℕ) → 1 ≤ i → i ≤ length s → count_same i s ≢ 1 → false ≡ is_permutation s
not_once s i low high other = by_test (is_permutation s) refl
  where
    by_test : (b : Bool) → is_permutation s ≡ b → false ≡ b
    by_test true e = absurd (other ((each_once s e).once i low high))
    by_test false e = refl

not_below : (x : ℕ) → one_if (nat_lt x x) ≡ 0
not_below x = grind (arith, nat_tests)

-- the letter at a place of a standardisation: the smaller letters, the equal ones before it, and itself
letter-standardise_after : (before w : List ℕ) (i : ℕ) → i < length w
    → get_or (standardise_after before w) i 0
    ≡ suc (count_below (get_or w i 0) before + count_same (get_or w i 0) before + count_same (get_or w i 0) (take i w) + count_below (get_or w i 0) w)
letter-standardise_after before [] i lt = absurd (omega arith)
letter-standardise_after before (x ∷ w) zero lt = omega (arith, not_below x)
letter-standardise_after before (x ∷ w) (suc i) lt = omega (arith, letter-standardise_after (x ∷ before) w i (omega arith))

pub letter-standardise : (w : List ℕ) (i : ℕ) → i < length w
    → get_or (standardise w) i 0 ≡ 1 + count_below (get_or w i 0) w + count_same (get_or w i 0) (take i w)
letter-standardise w i lt = omega (arith, letter-standardise_after [] w i lt)
