-- Lists of the permutations of a class.
use Rattle.std.proofs.Common.{◌≡◌, ℕ, ◌*◌, Bool, true, false, List, [], ◌∷◌, length, refl, ◌∙◌, ap, subst}
use Rattle.std.specs.Prelude.{◌&&◌, if◌then◌else◌}
use Rattle.std.specs.List.{AllByRecursion, filter}
use Rattle.std.proofs.lemmas.Bool.{and_from, and_parts}
use Rattle.realisations.specs.IndexKinds.{is_permutation}
use Rattle.realisations.specs.Lists.{one_if, same_list}
use Rattle.realisations.specs.Tableaux.{insertion_tableau, tableau_code}
use Rattle.realisations.proofs.Every.{every-weaker}
use Rattle.basis_representatives.proofs.SameLists.{same_list-true}
use Rattle.word_laws.specs.AddedCodes.{times_in}
use Rattle.product_laws.proofs.CutRules.{letters_of_permutation}
use Rattle.product_laws.proofs.DistinctWords.{AreUpTo, all_words, times_in-all_words}
use Rattle.product_laws.proofs.Filters.{times_in-filter}
use Rattle.product_laws.proofs.ListedOnce.{each_listed, times_in-once}
use Rattle.product_laws.proofs.Tests.{same_list-is}
use Rattle.tableau_coproducts.specs.ClassCuts.{IsOfClass, ListsClass}
use Rattle.tableau_coproducts.specs.Laws.{TableauCoproductLaw}
use Rattle.tableau_coproducts.proofs.ClassNumbers.{coefficient}
use Rattle.tableau_coproducts.proofs.ClassSizes.{class_rule, few_pairs, length-class}

-- what is left by a test passes it
passes : (test : List ℕ → Bool) (ws : List (List ℕ)) → AllByRecursion (λ w. test w ≡ true) (filter test ws)
passes test [] = tt
passes test (w ∷ ws) = by_test (test w) refl (passes test ws)
  where
    by_test : (b : Bool) → test w ≡ b → AllByRecursion (λ w. test w ≡ true) (filter test ws) → AllByRecursion (λ w. test w ≡ true) (if b then w ∷ filter test ws else filter test ws)
    by_test true e rest = (e, rest)
    by_test false e rest = rest

-- whether a word is a permutation of a class
abbrev is_of_class : List ℕ → List ℕ → Bool
is_of_class t s = is_permutation s && same_list (tableau_code (insertion_tableau s)) t

-- of all words of its degree these are left
class_list : (t : List ℕ) → (words : List (List ℕ)) × ListsClass t words
class_list t = (
  filter (λ s. is_of_class t s) (all_words (length t) (length t)),
  record {
    each = every-weaker (λ s. is_of_class t s ≡ true) (λ s. IsOfClass t s)
        (λ s e.
        let parts = and_parts (is_permutation s) (same_list (tableau_code (insertion_tableau s)) t) e in
        record { permutation = parts.0; tableau = same_list-true (tableau_code (insertion_tableau s)) t parts.1 })
        (filter (λ s. is_of_class t s) (all_words (length t) (length t))) (passes (λ s. is_of_class t s) (all_words (length t) (length t)));
    once = λ s h.
        let passed : is_of_class t s ≡ true =
        and_from (is_permutation s) (same_list (tableau_code (insertion_tableau s)) t) h.permutation (same_list-is (tableau_code (insertion_tableau s)) t h.tableau) in
        times_in-filter s (λ s. is_of_class t s) (all_words (length t) (length t))
        ∙ ap (λ b. one_if b * times_in s (all_words (length t) (length t))) passed
        ∙ ap (λ k. 1 * k) (times_in-all_words (length t) (length t) s (subst (λ n. AreUpTo n s) (length-class t s h) (letters_of_permutation s h.permutation)) (length-class t s h));
  },
)

-- the law, from its parts
pub tableau_coproduct : TableauCoproductLaw
tableau_coproduct = record {
  rule = λ t words small lists. class_rule t words lists small;
  coefficients = λ t words a b lists ha hb. coefficient t words lists a b ha hb;
  few = λ g t words small lists. few_pairs t words lists g small;
  classes = class_list;
  listed = λ t words lists. record {
    each = each_listed (λ s. IsOfClass t s) (λ s. IsOfClass t s) words lists.each (λ s h. h);
    once = λ s h. times_in-once s words lists.in_order (lists.whole s h);
  };
}
