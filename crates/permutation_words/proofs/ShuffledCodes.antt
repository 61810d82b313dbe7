-- Shuffles with a word whose letters are raised.
use Rattle.std.proofs.Common.{◌≡◌, ℕ, ◌+◌, ◌≤◌, List, [], ◌∷◌, length, sym, ◌∙◌, ap, arith}
use Rattle.std.specs.Prelude.{IsTrue}
use Rattle.std.proofs.lemmas.List.{length-map}
use Rattle.realisations.specs.IndexKinds.{is_permutation}
use Rattle.realisations.specs.Words.{greatest, raise, shifted_shuffles, shuffles}
use Rattle.realisations.proofs.RisingMaps.{Letters}
use Rattle.basis_representatives.proofs.Permutations.{HasEachOnce, each_once}
use Rattle.coproduct_laws.proofs.CutLetters.{greatest-permutation, packed-permutation}
use Rattle.linear_combos.specs.Codes.{all_letters}
use Rattle.permutation_words.proofs.Codes.{IsCode-greatest}

-- a permutation raised by so little that no letter is past 15 is made of letters of codes
pub raised_letters : (k : ℕ) (s : List ℕ) → IsTrue (is_permutation s) → k + length s ≤ 15 → IsTrue (all_letters (raise k s))
raised_letters k s h le =
    (IsCode-greatest (raise k s) (positive s (packed-permutation s once).positive) (omega (arith, top s, greatest-permutation s once)) (omega (arith, length-map s (λ x. k + x)))).letters
  where
    once : HasEachOnce s
    once = each_once s h

    positive : (w : List ℕ) → Letters (λ x. 1 ≤ x) w → Letters (λ x. 1 ≤ x) (raise k w)
    positive [] h = tt
    positive (x ∷ w) h = (omega (arith, h.0), positive w h.1)

    top : (w : List ℕ) → greatest (raise k w) ≤ k + greatest w
    top [] = omega arith
    top (x ∷ w) = omega (arith, top w)

-- the second permutation is raised by the greatest letter of the first one, its size
pub shifted_by_size : (s t high : List ℕ) (k : ℕ) → IsTrue (is_permutation s) → k ≡ length s → high ≡ raise k t → shuffles s high ≡ shifted_shuffles s t
shifted_by_size s t high k h is_k is = ap (shuffles s) (is ∙ ap (λ n. raise n t) (is_k ∙ sym (greatest-permutation s (each_once s h))))
