-- The law of the coproduct of a standard tableau. A public function with an empty body ensures it (`src/laws.rt`).
use Rattle.std.specs.Prelude.{◌≡◌, ℕ, suc, ◌*◌, ◌^◌, ◌≤◌, IsTrue, List, length}
use Rattle.std.specs.List.{filter}
use Rattle.basis_names.specs.declared.bases.BasisId.TheVariants.{FsymS}
use Rattle.realisations.specs.Codes.{Code}
use Rattle.realisations.specs.IndexKinds.{is_standard_tableau}
use Rattle.realisations.specs.Tableaux.{reading_word, tableau_code}
use Rattle.coproduct_laws.specs.Coproducts.{IsCoproductRule}
use Rattle.linear_combos.specs.CodeLists.{ListsEach}
use Rattle.tableau_coproducts.specs.ClassCuts.{IsOfClass, ListsClass, class_cuts, is_cut_into, times_of_pair}

-- FSym.S of a tableau of degree at most 16, by a list of the permutations of its class: the pairs of tableaux of their cuts into two reading words.
-- So two tableaux are a pair as often as a permutation of the class is uv, with Std(u) the reading word of the first and Std(v) that of the second (Poirier, Reutenauer 1995).
-- Up to degree 2^g there are at most 2^((g + 1) n) pairs. Each class has a list, and one in canonical order will do
pub record TableauCoproductLaw : Type 0 where
  pub rule : (t : Code) (words : List Code) → length t ≤ 16 → ListsClass t words → IsCoproductRule FsymS t (class_cuts words)
  pub coefficients : (t : Code) (words : List Code) (a b : List (List ℕ)) → ListsClass t words → IsTrue (is_standard_tableau a) → IsTrue (is_standard_tableau b) →
      times_of_pair (tableau_code a) (tableau_code b) (class_cuts words) ≡ length (filter (λ s. is_cut_into (reading_word a) (reading_word b) s) words)
  pub few : (g : ℕ) (t : Code) (words : List Code) → length t ≤ 2 ^ g → ListsClass t words → length (class_cuts words) ≤ 2 ^ (suc g * length t)
  pub classes : (t : Code) → (words : List Code) × ListsClass t words
  pub listed : (t : Code) (words : List Code) → ListsEach (IsOfClass t) words → ListsClass t words
