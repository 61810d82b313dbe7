-- A pair is listed as often as a permutation of the class is cut into the reading words of its tableaux.
use Rattle.std.proofs.Common.{◌≡◌, ℕ, zero, suc, ◌+◌, ◌*◌, Bool, true, false, List, [], ◌∷◌, length, take, drop, refl, sym, ◌∙◌, ap, arith}
use Rattle.std.specs.Prelude.{IsTrue, if◌then◌else◌}
use Rattle.std.specs.List.{filter, flat_map}
use Rattle.realisations.specs.IndexKinds.{is_permutation, is_standard_tableau}
use Rattle.realisations.specs.Lists.{one_if, same_list}
use Rattle.realisations.specs.Standardisation.{standardise}
use Rattle.realisations.specs.Tableaux.{reading_word, tableau_code}
use Rattle.realisations.specs.Words.{word_cuts}
use Rattle.realisations.proofs.Sums.{sums, sums-flat_map, sums-map, sums_none}
use Rattle.basis_representatives.proofs.SameLists.{one_if-and, same_list-false, same_list-sym}
use Rattle.basis_representatives.proofs.SameOrder.{length-standardise}
use Rattle.coproduct_rules.specs.PlaceCuts.{place_cuts}
use Rattle.coproduct_rules.proofs.PlaceRule.{place_rule}
use Rattle.product_laws.proofs.EveryShuffle.{sums_same_on}
use Rattle.tableau_coproducts.specs.ClassCuts.{IsOfClass, ListsClass, class_cuts, is_cut_into, reading_pair, times_of_pair}
use Rattle.tableau_coproducts.proofs.ReadingPairs.{in_reading_pair}

-- of the cuts of a word the one after m letters counts, where no other front has m letters
one_cut : (F : List ℕ × List ℕ → ℕ) (m : ℕ) (w : List ℕ) → ((c : List ℕ × List ℕ) → (length c.0 ≡ m → ⊥) → F c ≡ 0) → sums F (word_cuts w) ≡ F (take m w, drop m w)
one_cut F zero [] none = omega arith
one_cut F (suc m) [] none = omega arith
one_cut F zero (x ∷ w) none =
    ap (λ n. F ([], x ∷ w) + n)
    (sums-map F (λ (c : List ℕ × List ℕ). (x ∷ c.0, c.1)) (word_cuts w)
    ∙ sums_none (λ (c : List ℕ × List ℕ). F (x ∷ c.0, c.1)) (λ c. none (x ∷ c.0, c.1) (λ e. omega (arith, e))) (word_cuts w))
    ∙ omega arith
one_cut F (suc m) (x ∷ w) none =
    let rest : sums (λ (c : List ℕ × List ℕ). F (x ∷ c.0, c.1)) (word_cuts w) ≡ F (x ∷ take m w, drop m w) =
    one_cut (λ (c : List ℕ × List ℕ). F (x ∷ c.0, c.1)) m w (λ c other. none (x ∷ c.0, c.1) (λ e. other (omega (arith, e)))) in
    omega (arith, none ([], x ∷ w) (λ e. omega (arith, e)), sums-map F (λ (c : List ℕ × List ℕ). (x ∷ c.0, c.1)) (word_cuts w), rest)

-- how many pass a test
length-passed : (test : List ℕ → Bool) (ws : List (List ℕ)) → sums (λ w. one_if (test w)) ws ≡ length (filter test ws)
length-passed test [] = refl
length-passed test (w ∷ ws) = by_test (test w) (length-passed test ws)
  where
    by_test : (b : Bool) → sums (λ w. one_if (test w)) ws ≡ length (filter test ws) → one_if b + sums (λ w. one_if (test w)) ws ≡ length (if b then w ∷ filter test ws else filter test ws)
    by_test true e = omega (arith, e)
    by_test false e = omega (arith, e)

-- the number of times is a sum
times_of_pair-sum : (a b : List ℕ) (pairs : List (List ℕ × List ℕ)) → times_of_pair a b pairs ≡ sums (λ (e : List ℕ × List ℕ). one_if (same_list a e.0) * one_if (same_list b e.1)) pairs
times_of_pair-sum a b [] = refl
times_of_pair-sum a b (e ∷ pairs) = omega (arith, times_of_pair-sum a b pairs)

module _ (t : List ℕ) (words : List (List ℕ)) (lists : ListsClass t words) (a b : List (List ℕ)) (ha : IsTrue (is_standard_tableau a)) (hb : IsTrue (is_standard_tableau b)) where
  -- in one permutation of the class
  in_word : (s : List ℕ) → IsOfClass t s
      → sums (λ (e : List ℕ × List ℕ). one_if (same_list (tableau_code a) e.0) * one_if (same_list (tableau_code b) e.1)) (flat_map reading_pair (place_cuts s))
      ≡ one_if (is_cut_into (reading_word a) (reading_word b) s)
  in_word s h =
      sums-flat_map (λ (e : List ℕ × List ℕ). one_if (same_list (tableau_code a) e.0) * one_if (same_list (tableau_code b) e.1)) reading_pair (place_cuts s)
      ∙ sums_same_on (λ (e : List ℕ × List ℕ). IsTrue (is_permutation e.0) × IsTrue (is_permutation e.1) × (length e.0 + length e.1 ≡ length s))
      (λ (e : List ℕ × List ℕ). sums (λ (d : List ℕ × List ℕ). one_if (same_list (tableau_code a) d.0) * one_if (same_list (tableau_code b) d.1)) (reading_pair e))
      (λ (e : List ℕ × List ℕ). one_if (same_list (reading_word a) e.0) * one_if (same_list (reading_word b) e.1))
      (λ e k. in_reading_pair a b ha hb e k.0 k.1) (place_cuts s) (place_rule s h.permutation).indices
      ∙ sums-map (λ (e : List ℕ × List ℕ). one_if (same_list (reading_word a) e.0) * one_if (same_list (reading_word b) e.1)) (λ (c : List ℕ × List ℕ). (standardise c.0, standardise c.1)) (word_cuts s)
      ∙ one_cut (λ c. one_if (same_list (reading_word a) (standardise c.0)) * one_if (same_list (reading_word b) (standardise c.1))) (length (reading_word a)) s
      (λ c other.
      ap (λ p. one_if p * one_if (same_list (reading_word b) (standardise c.1)))
      (same_list-false length (reading_word a) (standardise c.0) (λ e. other (sym (e ∙ length-standardise c.0))))
      ∙ omega arith)
      ∙ (λ i.
      one_if (same_list-sym (reading_word a) (standardise (take (length (reading_word a)) s)) i)
      * one_if (same_list-sym (reading_word b) (standardise (drop (length (reading_word a)) s)) i))
      ∙ sym (one_if-and (same_list (standardise (take (length (reading_word a)) s)) (reading_word a)) (same_list (standardise (drop (length (reading_word a)) s)) (reading_word b)))

  -- and in all
  pub coefficient : times_of_pair (tableau_code a) (tableau_code b) (class_cuts words) ≡ length (filter (λ s. is_cut_into (reading_word a) (reading_word b) s) words)
  coefficient =
      times_of_pair-sum (tableau_code a) (tableau_code b) (class_cuts words)
      ∙ sums-flat_map (λ (e : List ℕ × List ℕ). one_if (same_list (tableau_code a) e.0) * one_if (same_list (tableau_code b) e.1)) (λ s. flat_map reading_pair (place_cuts s)) words
      ∙ sums_same_on (λ s. IsOfClass t s) _ (λ s. one_if (is_cut_into (reading_word a) (reading_word b) s)) in_word words lists.each
      ∙ length-passed (λ s. is_cut_into (reading_word a) (reading_word b) s) words
