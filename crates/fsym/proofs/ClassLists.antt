-- Steps of listing the permutations of a class.
use Rattle.std.proofs.Common.{◌≡◌, ℕ, suc, ◌+◌, ◌<◌, ◌≤◌, List, [], ◌∷◌, length, take, take-take, refl, sym, subst, arith}
use Rattle.std.specs.List.{All, flat_map}
use Rattle.std.proofs.lemmas.List.{length-take}
use Rattle.std.proofs.lemmas.List.Elements.{All-from_recursion}
use Rattle.basis_representatives.proofs.Permutations.{each_once, permutation_from}
use Rattle.permutation_words.specs.Sizes.{IsSmallPermutation}
use Rattle.realisations.specs.Words.{shuffles}
use Rattle.realisations.proofs.Every.{every-weaker}
use Rattle.tableau_coproducts.specs.ClassCuts.{IsOfClass, ListsClass}
use Rattle.tableau_coproducts.proofs.ClassSizes.{length-class}
use Rattle.word_laws.specs.AddedCodes.{times_in}
use Rattle.fsym.specs.Classes.{IsShorterPermutation, longer_words}
use Rattle.fsym.proofs.GrownWords.{grown, longer_permutations}

-- the word of no letter is alone in its class
pub empty_class : ListsClass [] ([] ∷ [])
empty_class = record { each = (record { permutation = refl; tableau = refl }, tt); once = λ s h. alone s (length-class [] s h) }
  where
    alone : (s : List ℕ) → length s ≡ 0 → times_in s ([] ∷ []) ≡ 1
    alone [] e = refl
    alone (x ∷ s) e = absurd (omega (arith, e))

-- the class of a letter more of the code
pub next_class : (t : List ℕ) (n : ℕ) (words : List (List ℕ)) → n < length t → ListsClass (take n t) words → ListsClass (take (n + 1) t) (flat_map (longer_words (take (n + 1) t)) words)
next_class t n words lt lists =
    grown n (take (n + 1) t) (omega (arith, length-take (n + 1) t, lt)) words (subst (λ f. ListsClass f words) (sym (take-take n (n + 1) t (omega arith))) lists)

-- words of a class of at most 11 letters
pub shorter_words : (t : List ℕ) (n : ℕ) (words : List (List ℕ)) → n ≤ 11 → ListsClass (take n t) words → All IsShorterPermutation words
shorter_words t n words small lists =
    All-from_recursion IsShorterPermutation words
    (every-weaker (λ s. IsOfClass (take n t) s) IsShorterPermutation
    (λ s h. record { permutation = h.permutation; small = omega (arith, length-class (take n t) s h, length-take n t, small) }) words lists.each)

-- and of at most 12
pub small_words : (t : List ℕ) (words : List (List ℕ)) → length t ≤ 12 → ListsClass t words → All IsSmallPermutation words
small_words t words small lists =
    All-from_recursion IsSmallPermutation words
    (every-weaker (λ s. IsOfClass t s) IsSmallPermutation (λ s h. record { permutation = h.permutation; small = omega (arith, length-class t s h, small) }) words lists.each)

-- what a permutation becomes when the next number is put in
pub put_words : (v : List ℕ) → IsShorterPermutation v → All IsSmallPermutation (shuffles (suc (length v) ∷ []) v)
put_words v h =
    All-from_recursion IsSmallPermutation (shuffles (suc (length v) ∷ []) v)
    (every-weaker _ IsSmallPermutation (λ w k. record { permutation = permutation_from w k.0; small = omega (arith, k.1, h.small) })
    (shuffles (suc (length v) ∷ []) v) (longer_permutations v (each_once v h.permutation)))
