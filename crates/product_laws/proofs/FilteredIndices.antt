-- A product over a class basis is a filter of all indices of the degree, by their fronts and backs.
use Rattle.std.proofs.Common.{◌≡◌, ℕ, ◌+◌, ◌*◌, Bool, true, false, List, length, take, drop, refl, ◌∙◌, subst, arith}
use Rattle.std.specs.List.{filter}
use Rattle.basis_names.specs.declared.bases.BasisId.{BasisId}
use Rattle.basis_names.specs.declared.bases.BasisId.TheVariants.{FqsymF, FqsymG, FsymS, PbtP, WqsymM}
use Rattle.realisations.specs.Bases.{index_kind_of}
use Rattle.realisations.specs.Indices.{IsIndex, degree_of}
use Rattle.realisations.specs.Lists.{one_if}
use Rattle.realisations.specs.Standardisation.{pack, standardise}
use Rattle.realisations.specs.Tableaux.{recording_tableau, tableau_code}
use Rattle.realisations.specs.Trees.{decreasing_tree, tree_code}
use Rattle.basis_representatives.specs.Laws.{AreClasses}
use Rattle.basis_representatives.proofs.AllRepresentatives.{class_laws}
use Rattle.coproduct_laws.specs.ValueCuts.{letters_past, letters_up_to, lower}
use Rattle.word_laws.specs.AddedCodes.{times_in}
use Rattle.linear_combos.specs.CodeLists.{ListsIndices}
use Rattle.product_laws.specs.Classes.{IsByClasses, splits_into}
use Rattle.product_laws.specs.Laws.{FilterLaw, IsFilterRule}
use Rattle.product_laws.specs.TableauCuts.{back_tableau}
use Rattle.product_laws.specs.TreeCuts.{front_code}
use Rattle.product_laws.proofs.ClassProducts.{indices_read}
use Rattle.product_laws.proofs.ClassRules.{degree_of-split}
use Rattle.product_laws.proofs.CutRules.{by_packings, by_standardisations, letters_of_packed, letters_of_permutation}
use Rattle.product_laws.proofs.DistinctWords.{AreUpTo, few_distinct, self_power}
use Rattle.product_laws.proofs.Filters.{every-filter, length-filter, times_in-filter}
use Rattle.product_laws.proofs.ListedOnce.{each_listed, times_in-at_most, times_in-once}
use Rattle.product_laws.proofs.ShuffleRule.{by_inverses}
use Rattle.product_laws.proofs.SortedPlaces.{sorted_places}
use Rattle.product_laws.proofs.TableauRule.{by_tableaux, letters_of_tableau}
use Rattle.product_laws.proofs.TreeRule.{by_trees, letters_of_code}

module _ (basis : BasisId) (class_of : List ℕ → List ℕ) (front back : ℕ → List ℕ → List ℕ) (by : IsByClasses basis class_of front back) (classes : AreClasses basis)
    (letters : (code : List ℕ) → IsIndex basis code → AreUpTo (degree_of basis code) code × (length code ≡ degree_of basis code)) where
  filtered_once : (left right : List ℕ) (codes : List (List ℕ)) → ListsIndices (index_kind_of basis) (degree_of basis left + degree_of basis right) codes → (code : List ℕ) → IsIndex basis code
      → times_in code (filter (λ c. splits_into front back (degree_of basis left) left right c) codes) ≡ one_if (splits_into front back (degree_of basis left) left right code)
  filtered_once left right codes lists code is =
      times_in-filter code (λ c. splits_into front back (degree_of basis left) left right c) codes ∙ by_test (splits_into front back (degree_of basis left) left right code) refl
    where
      by_test : (b : Bool) → splits_into front back (degree_of basis left) left right code ≡ b → one_if b * times_in code codes ≡ one_if b
      by_test false e = omega arith
      by_test true e =
          let once : times_in code codes ≡ 1 =
          times_in-once code codes lists.in_order (lists.whole code (is, degree_of-split basis class_of front back by classes left right code is e)) in
          omega (arith, once)

  filtered_rule : IsFilterRule basis front back
  filtered_rule left right codes small lists =
      let n : ℕ = degree_of basis left + degree_of basis right in
      let all = few_distinct n n codes
      (each_listed (λ c. IsIndex basis c × (degree_of basis c ≡ n)) (λ c. AreUpTo n c × (length c ≡ n)) codes lists.each
      (λ c h. subst (λ m. AreUpTo m c × (length c ≡ m)) h.1 (letters c h.0)))
      (times_in-at_most codes lists.in_order) in
      record {
        reads = λ p point. indices_read basis class_of front back by left right (filter (λ c. splits_into front back (degree_of basis left) left right c) codes) (filtered_once left right codes lists) p point;
        indices = every-filter (λ c. IsIndex basis c × (degree_of basis c ≡ n)) (λ c. splits_into front back (degree_of basis left) left right c) codes
            (each_listed (λ c. IsIndex basis c × (degree_of basis c ≡ n)) (λ c. IsIndex basis c × (degree_of basis c ≡ n)) codes lists.each (λ c h. h));
        few = omega (arith, length-filter (λ c. splits_into front back (degree_of basis left) left right c) codes, all, self_power n small);
      }

pub filters : FilterLaw
filters = record {
  standardisations = filtered_rule FqsymG (λ p. standardise p) (λ n c. standardise (take n c)) (λ n c. standardise (drop n c)) by_standardisations class_laws.by_inverses
      (λ c is. (letters_of_permutation c is, refl));
  inverses = filtered_rule FqsymF (λ p. sorted_places p) (λ n c. letters_up_to n c) (λ n c. lower n (letters_past n c)) by_inverses class_laws.fundamental
      (λ c is. (letters_of_permutation c is, refl));
  packings = filtered_rule WqsymM (λ p. pack p) (λ n c. pack (take n c)) (λ n c. pack (drop n c)) by_packings class_laws.packed_words
      (λ c is. (letters_of_packed c is, refl));
  tableaux = filtered_rule FsymS (λ p. tableau_code (recording_tableau p)) (λ n code. take n code) (λ n code. back_tableau n code) by_tableaux class_laws.tableaux
      (λ c is. (letters_of_tableau c is, refl));
  trees = filtered_rule PbtP (λ p. tree_code (decreasing_tree p)) (λ n code. front_code n code) (λ n code. drop n code) by_trees class_laws.trees
      (λ c is. (letters_of_code c is, refl));
}
