-- The pair of a cut occurs at two words where the cut has the reading words of their recording tableaux.
use Rattle.std.proofs.Common.{◌≡◌, ℕ, ◌*◌, ◌≤◌, Bool, true, false, List, [], ◌∷◌, refl, sym, ◌∙◌, ap, arith}
use Rattle.std.specs.Prelude.{IsTrue, ◌&&◌, if◌then◌else◌}
use Rattle.std.specs.List.{concat}
use Rattle.std.proofs.lemmas.Bool.{and_parts}
use Rattle.basis_names.specs.declared.bases.BasisId.TheVariants.{FsymS}
use Rattle.realisations.specs.IndexKinds.{is_permutation, is_standard_tableau}
use Rattle.realisations.specs.Lists.{one_if, same_list}
use Rattle.realisations.specs.Points.{word, IsPoint}
use Rattle.realisations.specs.Standardisation.{inverse}
use Rattle.realisations.specs.Tableaux.{insertion_tableau, is_increasing, reading_word, recording_tableau, rows_of, tableau_code}
use Rattle.realisations.proofs.Sums.{sums}
use Rattle.basis_representatives.proofs.Inverses.{inverse-inverse, permutation-inverse}
use Rattle.basis_representatives.proofs.Permutations.{HasEachOnce, each_once, letters-permutation, letters_that_occur, permutation_from, standardise-permutation}
use Rattle.basis_representatives.proofs.ReadingWords.{insertion_tableau-reading_word, permutation-reading_word}
use Rattle.basis_representatives.proofs.SameLists.{same_list-true}
use Rattle.basis_representatives.proofs.TableauCodes.{rows_of-code}
use Rattle.coproduct_laws.proofs.CoproductCounts.{at_pair}
use Rattle.product_laws.proofs.SortedPlaces.{permutation-sorted_places, sorted_places}
use Rattle.product_laws.proofs.Tests.{same_list-is}
use Rattle.tableau_laws.proofs.NumberedTableaux.{standard-insertion}
use Rattle.tableau_coproducts.specs.ClassCuts.{is_reading_word, reading_pair}

-- the places of the inverse of a permutation, sorted by their letters, are the permutation
pub sorted_places-inverse : (s : List ℕ) → HasEachOnce s → sorted_places (inverse s) ≡ s
sorted_places-inverse s h = ap inverse (standardise-permutation (inverse s) (permutation-inverse s h)) ∙ inverse-inverse s h

-- the recording tableau of a word is standard
standard-recording : (w : List ℕ) → IsTrue (is_standard_tableau (recording_tableau w))
standard-recording w = standard-insertion (sorted_places w) (permutation_from (sorted_places w) (permutation-sorted_places w))

module _ (a : List (List ℕ)) (standard : IsTrue (is_standard_tableau a)) where
  -- the reading word of a standard tableau is a permutation
  permutation-word : HasEachOnce (reading_word a)
  permutation-word = permutation-reading_word a (each_once (concat a) (and_parts (is_permutation (concat a)) (is_increasing a) standard).0)

  -- with this insertion tableau
  tableau-word : insertion_tableau (reading_word a) ≡ a
  tableau-word = insertion_tableau-reading_word a (and_parts (is_permutation (concat a)) (is_increasing a) standard).1

  -- a permutation is the reading word of the tableau where it is the reading word of its own, and that has the same code
  one_reading_word : (s : List ℕ) → IsTrue (is_permutation s)
      → one_if (is_reading_word s) * one_if (same_list (tableau_code a) (tableau_code (insertion_tableau s))) ≡ one_if (same_list (reading_word a) s)
  one_reading_word s permutation =
      by_tests (is_reading_word s) refl (same_list (tableau_code a) (tableau_code (insertion_tableau s))) refl (same_list (reading_word a) s) refl
    where
      both : (b : Bool) → b ≡ false → b ≡ true → ⊥
      both b f t = absurd (cc)

      back : same_list (reading_word a) s ≡ true → insertion_tableau s ≡ a
      back e = ap insertion_tableau (sym (same_list-true (reading_word a) s e)) ∙ tableau-word

      there : is_reading_word s ≡ true → same_list (tableau_code a) (tableau_code (insertion_tableau s)) ≡ true → same_list (reading_word a) s ≡ true
      there p q =
          let rows : a ≡ insertion_tableau s =
          sym (rows_of-code a standard) ∙ ap rows_of (same_list-true (tableau_code a) (tableau_code (insertion_tableau s)) q)
          ∙ rows_of-code (insertion_tableau s) (standard-insertion s permutation) in
          same_list-is (reading_word a) s (ap reading_word rows ∙ sym (same_list-true s (reading_word (insertion_tableau s)) p))

      reading : same_list (reading_word a) s ≡ true → is_reading_word s ≡ true
      reading e = same_list-is s (reading_word (insertion_tableau s)) (sym (same_list-true (reading_word a) s e) ∙ ap reading_word (sym (back e)))

      coded : same_list (reading_word a) s ≡ true → same_list (tableau_code a) (tableau_code (insertion_tableau s)) ≡ true
      coded e = same_list-is (tableau_code a) (tableau_code (insertion_tableau s)) (ap tableau_code (sym (back e)))

      by_tests : (p : Bool) → is_reading_word s ≡ p → (q : Bool) → same_list (tableau_code a) (tableau_code (insertion_tableau s)) ≡ q → (r : Bool) → same_list (reading_word a) s ≡ r → one_if p * one_if q ≡ one_if r
      by_tests true e true f true g = refl
      by_tests true e true f false g = absurd (both (same_list (reading_word a) s) g (there e f))
      by_tests true e false f true g = absurd (both (same_list (tableau_code a) (tableau_code (insertion_tableau s))) f (coded g))
      by_tests true e false f false g = refl
      by_tests false e q f true g = absurd (both (is_reading_word s) e (reading g))
      by_tests false e q f false g = omega arith

-- a word with the recording tableau of another: the inverse of its reading word
abbrev pub read_back : List ℕ → List ℕ
read_back w = inverse (reading_word (recording_tableau w))

-- its sorted places are the reading word
places-read_back : (w : List ℕ) → sorted_places (read_back w) ≡ reading_word (recording_tableau w)
places-read_back w = sorted_places-inverse (reading_word (recording_tableau w)) (permutation-word (recording_tableau w) (standard-recording w))

-- so it has the same recording tableau
pub recording-read_back : (w : List ℕ) → recording_tableau w ≡ recording_tableau (read_back w)
recording-read_back w = sym (ap insertion_tableau (places-read_back w) ∙ tableau-word (recording_tableau w) (standard-recording w))

-- it is a point
pub point-read_back : (w : List ℕ) → IsPoint word (read_back w)
point-read_back w =
    let once = permutation-inverse (reading_word (recording_tableau w)) (permutation-word (recording_tableau w) (standard-recording w)) in
    letters_that_occur (λ x. 1 ≤ x) (read_back w) (λ x occurs. (letters-permutation (read_back w) once x occurs).0)

module _ (a b : List (List ℕ)) (ha : IsTrue (is_standard_tableau a)) (hb : IsTrue (is_standard_tableau b)) where
  -- two tableaux are the pair of two permutations where these are their reading words
  pub in_reading_pair : (e : List ℕ × List ℕ) → IsTrue (is_permutation e.0) → IsTrue (is_permutation e.1)
      → sums (λ (d : List ℕ × List ℕ). one_if (same_list (tableau_code a) d.0) * one_if (same_list (tableau_code b) d.1)) (reading_pair e)
      ≡ one_if (same_list (reading_word a) e.0) * one_if (same_list (reading_word b) e.1)
  in_reading_pair e first second =
      by_tests (is_reading_word e.0) (is_reading_word e.1) ∙ (λ i. one_reading_word a ha e.0 first i * one_reading_word b hb e.1 second i)
    where
      by_tests : (p q : Bool)
          → sums (λ (d : List ℕ × List ℕ). one_if (same_list (tableau_code a) d.0) * one_if (same_list (tableau_code b) d.1))
          (if p && q then (tableau_code (insertion_tableau e.0), tableau_code (insertion_tableau e.1)) ∷ [] else [])
          ≡ (one_if p * one_if (same_list (tableau_code a) (tableau_code (insertion_tableau e.0)))) * (one_if q * one_if (same_list (tableau_code b) (tableau_code (insertion_tableau e.1))))
      by_tests true true = omega arith
      by_tests true false = omega arith
      by_tests false q = omega arith

-- the pair of two permutations occurs at two words where the tensor of the permutations occurs at the words that are read back
pub reading_pair_at : (u v : List ℕ) (e : List ℕ × List ℕ) → IsTrue (is_permutation e.0) → IsTrue (is_permutation e.1)
    → at_pair FsymS u v (reading_pair e)
    ≡ one_if (same_list (sorted_places (read_back u)) e.0) * one_if (same_list (sorted_places (read_back v)) e.1)
reading_pair_at u v e first second =
    in_reading_pair (recording_tableau u) (recording_tableau v) (standard-recording u) (standard-recording v) e first second
    ∙ (λ i. one_if (same_list (sym (places-read_back u) i) e.0) * one_if (same_list (sym (places-read_back v) i) e.1))
