-- The rule of FSym.S: the cuts of the permutations of a class into two reading words.
use Rattle.std.proofs.Common.{◌≡◌, ℕ, ◌+◌, ◌*◌, ◌≤◌, Bool, true, false, List, [], ◌∷◌, length, refl, sym, ◌∙◌, ap, subst, arith, inl, inr}
use Rattle.std.specs.Prelude.{IsTrue}
use Rattle.std.specs.List.{AllByRecursion, flat_map}
use Rattle.std.proofs.Math.IntN.{pos, ◌*ℤ◌}
use Rattle.std.proofs.lemmas.Bool.{cases_lt}
use Rattle.std.proofs.lemmas.Int.{ints}
use Rattle.basis_names.specs.declared.bases.BasisId.TheVariants.{FqsymF, FsymS}
use Rattle.realisations.specs.IndexKinds.{is_permutation}
use Rattle.realisations.specs.Lists.{one_if, same_list}
use Rattle.realisations.specs.Points.{word, IsPoint}
use Rattle.realisations.specs.Tableaux.{insertion_tableau, recording_tableau, tableau_code}
use Rattle.realisations.specs.Words.{shifted_shuffles}
use Rattle.realisations.proofs.Sums.{sums, sums-flat_map, sums_same}
use Rattle.basis_representatives.proofs.Permutations.{permutation_from}
use Rattle.basis_representatives.proofs.SameLists.{same_list-true}
use Rattle.coproduct_laws.specs.Coproducts.{IsCoproduct}
use Rattle.coproduct_laws.proofs.CoproductCounts.{at_pair, at_points, coproduct_by_counts}
use Rattle.coproduct_rules.specs.PlaceCuts.{place_cuts}
use Rattle.coproduct_rules.proofs.DoubleSums.{sums_swap}
use Rattle.coproduct_rules.proofs.KeyReadings.{numerator-coproduct, numerator-pairs}
use Rattle.coproduct_rules.proofs.PlaceRule.{place_rule}
use Rattle.word_laws.specs.AddedCodes.{times_in}
use Rattle.product_laws.proofs.EveryShuffle.{sums_same_on}
use Rattle.product_laws.proofs.SortedPlaces.{permutation-sorted_places, sorted_places}
use Rattle.product_laws.proofs.Tests.{same_list-is}
use Rattle.tableau_coproducts.specs.ClassCuts.{IsOfClass, ListsClass, class_cuts, reading_pair}
use Rattle.tableau_coproducts.proofs.KnuthShuffles.{points_keep}
use Rattle.tableau_coproducts.proofs.ReadingPairs.{point-read_back, read_back, reading_pair_at, recording-read_back}

-- how often a code is in a list, as a sum
times_in-sum : (code : List ℕ) (codes : List (List ℕ)) → times_in code codes ≡ sums (λ c. one_if (same_list code c)) codes
times_in-sum code [] = refl
times_in-sum code (c ∷ codes) = omega (arith, times_in-sum code codes)

-- what each code of a list has, a code that is counted has
pub counted_has : (P : List ℕ → Type 0) (codes : List (List ℕ)) → AllByRecursion P codes → (code : List ℕ) → 1 ≤ times_in code codes → P code
counted_has P [] each code some = absurd (omega (arith, some))
counted_has P (c ∷ codes) each code some = by_test (same_list code c) refl (counted_has P codes each.1 code)
  where
    by_test : (b : Bool) → same_list code c ≡ b → (1 ≤ times_in code codes → P code) → P code
    by_test true e rest = subst P (sym (same_list-true code c e)) each.0
    by_test false e rest = rest (omega (arith, some, ap one_if e))

module _ (t : List ℕ) (words : List (List ℕ)) (lists : ListsClass t words) where
  -- a permutation is listed once where it is of the class, and else not
  times_in-class : (s : List ℕ) → IsTrue (is_permutation s) → one_if (same_list (tableau_code (insertion_tableau s)) t) ≡ times_in s words
  times_in-class s permutation = by_test (same_list (tableau_code (insertion_tableau s)) t) refl
    where
      differs : (b : Bool) → b ≡ false → b ≡ true → ⊥
      differs b f t = absurd (cc)

      by_test : (b : Bool) → same_list (tableau_code (insertion_tableau s)) t ≡ b → one_if b ≡ times_in s words
      by_test true e = sym (lists.once s (record { permutation = permutation; tableau = same_list-true (tableau_code (insertion_tableau s)) t e }))
      by_test false e = elim (cases_lt 0 (times_in s words)) [
        | inl some ↦ absurd (differs (same_list (tableau_code (insertion_tableau s)) t) e (same_list-is (tableau_code (insertion_tableau s)) t (counted_has (λ s. IsOfClass t s) words lists.each s some).tableau))
        | inr none ↦ omega (arith, none)
      ]

  -- so the tableau occurs where one of them does
  occurs_by_class : (xs : List (List ℕ)) → at_points FsymS t xs ≡ sums (λ s. at_points FqsymF s xs) words
  occurs_by_class xs =
      sums_same (λ x. one_if (same_list (tableau_code (recording_tableau x)) t)) (λ x. sums (λ s. one_if (same_list (sorted_places x) s)) words)
      (λ x. times_in-class (sorted_places x) (permutation_from (sorted_places x) (permutation-sorted_places x)) ∙ times_in-sum (sorted_places x) words) xs
      ∙ sums_swap (λ x s. one_if (same_list (sorted_places x) s)) xs words

  -- which are cut
  cut_class : (u v : List ℕ) → IsPoint word u → IsPoint word v → at_points FsymS t (shifted_shuffles u v) ≡ sums (λ s. at_pair FqsymF u v (place_cuts s)) words
  cut_class u v hu hv =
      occurs_by_class (shifted_shuffles u v)
      ∙ sums_same_on (λ s. IsOfClass t s) (λ s. at_points FqsymF s (shifted_shuffles u v)) (λ s. at_pair FqsymF u v (place_cuts s)) place_counts words lists.each
    where
      place_counts : (s : List ℕ) → IsOfClass t s → at_points FqsymF s (shifted_shuffles u v) ≡ at_pair FqsymF u v (place_cuts s)
      place_counts s h =
          let read = (place_rule s h.permutation).reads u v hu hv in
          let same : pos (at_pair FqsymF u v (place_cuts s)) *ℤ pos 1 ≡ pos (at_points FqsymF s (shifted_shuffles u v)) *ℤ pos 1 =
          ap (λ z. z *ℤ pos 1) (sym (numerator-pairs FqsymF u v (place_cuts s))) ∙ read ∙ ap (λ z. z *ℤ pos 1) (numerator-coproduct FqsymF s u v) in
          omega (arith, ints, same)

  -- the pairs that occur are the cuts into the reading words
  pairs_at : (u v : List ℕ) → at_pair FsymS u v (class_cuts words) ≡ sums (λ s. at_pair FqsymF (read_back u) (read_back v) (place_cuts s)) words
  pairs_at u v =
      sums-flat_map (λ (e : List ℕ × List ℕ). one_if (same_list (tableau_code (recording_tableau u)) e.0) * one_if (same_list (tableau_code (recording_tableau v)) e.1)) (λ s. flat_map reading_pair (place_cuts s)) words
      ∙ sums_same_on (λ s. IsOfClass t s) _ (λ s. at_pair FqsymF (read_back u) (read_back v) (place_cuts s)) one_word words lists.each
    where
      one_word : (s : List ℕ) → IsOfClass t s → at_pair FsymS u v (flat_map reading_pair (place_cuts s)) ≡ at_pair FqsymF (read_back u) (read_back v) (place_cuts s)
      one_word s h =
          sums-flat_map (λ (e : List ℕ × List ℕ). one_if (same_list (tableau_code (recording_tableau u)) e.0) * one_if (same_list (tableau_code (recording_tableau v)) e.1)) reading_pair (place_cuts s)
          ∙ sums_same_on (λ (e : List ℕ × List ℕ). IsTrue (is_permutation e.0) × IsTrue (is_permutation e.1) × (length e.0 + length e.1 ≡ length s))
          (λ (e : List ℕ × List ℕ). at_pair FsymS u v (reading_pair e))
          (λ (e : List ℕ × List ℕ). one_if (same_list (sorted_places (read_back u)) e.0) * one_if (same_list (sorted_places (read_back v)) e.1))
          (λ e k. reading_pair_at u v e k.0 k.1) (place_cuts s) (place_rule s h.permutation).indices

  -- so they read as the coproduct
  pub class_cuts_read : IsCoproduct FsymS t (class_cuts words)
  class_cuts_read = coproduct_by_counts FsymS t (class_cuts words)
      (λ u v hu hv.
      points_keep t u v (read_back u) (read_back v) hv (point-read_back v) (recording-read_back u) (recording-read_back v)
      ∙ cut_class (read_back u) (read_back v) (point-read_back u) (point-read_back v)
      ∙ sym (pairs_at u v))
