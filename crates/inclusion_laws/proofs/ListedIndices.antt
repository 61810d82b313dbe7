-- The indices of a class basis of words of each degree n are few words of n letters from 1 to n, and there is a list of them.
use Rattle.std.proofs.Common.{◌≡◌, ℕ, zero, suc, ◌*◌, ◌^◌, ◌≤◌, Bool, true, false, List, [], ◌∷◌, length, refl, sym, ◌∙◌, ap, subst, arith}
use Rattle.std.specs.Prelude.{if◌then◌else◌}
use Rattle.std.specs.List.{AllByRecursion, filter}
use Rattle.std.proofs.Math.Nat.{pow-zero, pow-suc, pow-le-pow_left, mul-suc}
use Rattle.std.proofs.lemmas.Nat.{pow-add}
use Rattle.basis_names.specs.declared.bases.BasisId.{BasisId}
use Rattle.basis_names.specs.declared.bases.BasisId.TheVariants.{FqsymF, FqsymG, FsymS, PbtP, WqsymM}
use Rattle.realisations.specs.Bases.{index_kind_of, representative}
use Rattle.realisations.specs.Codes.{Code}
use Rattle.realisations.specs.Indices.{IsIndex, degree_of}
use Rattle.realisations.specs.Lists.{same_list, one_if}
use Rattle.realisations.specs.Points.{word, IsPoint}
use Rattle.realisations.specs.Tableaux.{reading_word, rows_of}
use Rattle.realisations.specs.Trees.{tree_code, tree_of, subtree_sizes}
use Rattle.realisations.proofs.PointsOfReadings.{word_inverted}
use Rattle.basis_representatives.specs.Laws.{AreClasses}
use Rattle.basis_representatives.proofs.AllRepresentatives.{class_laws}
use Rattle.basis_representatives.proofs.Letters.{Letters-weaker}
use Rattle.basis_representatives.proofs.PointsOfIndices.{representative_point}
use Rattle.basis_representatives.proofs.SameLists.{same_list-true}
use Rattle.basis_representatives.proofs.TreesOfCodes.{tree_of-code}
use Rattle.linear_combos.specs.CodeLists.{ListsIndices}
use Rattle.word_laws.specs.AddedCodes.{times_in}
use Rattle.product_laws.specs.Classes.{IsByClasses}
use Rattle.product_laws.specs.Products.{AreOfDegree}
use Rattle.product_laws.proofs.ClassRules.{class_of-representative}
use Rattle.product_laws.proofs.CutRules.{letters_of_packed, letters_of_permutation}
use Rattle.product_laws.proofs.DistinctWords.{AreUpTo, all_words, every_word, few_distinct, length-all_words, self_power, times_in-all_words}
use Rattle.product_laws.proofs.Filters.{length-filter, times_in-filter}
use Rattle.product_laws.proofs.ListedOnce.{each_listed, times_in-at_most, times_in-once}
use Rattle.product_laws.proofs.TableauRule.{letters_of_tableau}
use Rattle.product_laws.proofs.Tests.{same_list-is}
use Rattle.product_laws.proofs.TreeRule.{letters_of_code}

power_power : (k n : ℕ) → (2 ^ k) ^ n ≡ 2 ^ (k * n)
power_power k zero = pow-zero (2 ^ k) ∙ sym (ap (λ m. 2 ^ m) (let none : k * 0 ≡ 0 = omega arith in none) ∙ pow-zero 2)
power_power k (suc n) =
    pow-suc (2 ^ k) n ∙ ap (λ m. m * 2 ^ k) (power_power k n) ∙ sym (pow-add 2 (k * n) k) ∙ ap (λ m. 2 ^ m) (sym (mul-suc k n))

-- with n at most 2^k
pub power_within : (n k : ℕ) → n ≤ 2 ^ k → n ^ n ≤ 2 ^ (k * n)
power_within n k le = omega (arith, pow-le-pow_left {n = n} {m = 2 ^ k} le n, power_power k n)

-- what has a property and passes a test
every-passing : (P Q : Code → Type 0) (test : Code → Bool) → ((code : Code) → P code → test code ≡ true → Q code) → (codes : List Code) → AllByRecursion P codes → AllByRecursion Q (filter test codes)
every-passing P Q test shows [] h = tt
every-passing P Q test shows (code ∷ codes) h = by_test (test code) refl (every-passing P Q test shows codes h.1)
  where
    by_test : (b : Bool) → test code ≡ b → AllByRecursion Q (filter test codes) → AllByRecursion Q (if b then code ∷ filter test codes else filter test codes)
    by_test true e rest = (shows code h.0 e, rest)
    by_test false e rest = rest

-- each index of degree n is there once, and no other code; so the codes are few
pub record AreAll (basis : BasisId) (n : ℕ) (codes : List Code) : Type 0 where
  pub each : AreOfDegree basis n codes
  pub once : (code : Code) → IsIndex basis code → degree_of basis code ≡ n → times_in code codes ≡ 1
  pub small : n ≤ 32 → length codes ≤ 2 ^ (5 * n)
  pub few : (k : ℕ) → n ≤ 2 ^ k → length codes ≤ 2 ^ (k * n)

-- the codes of indices are words of letters up to their length, and such words have points for representatives
pub record IsOfLetters (basis : BasisId) : Type 0 where
  pub classes : AreClasses basis
  pub letters : (code : Code) → IsIndex basis code → AreUpTo (degree_of basis code) code × (length code ≡ degree_of basis code)
  pub points : (n : ℕ) (code : Code) → AreUpTo n code → IsPoint word (representative basis code)

-- a list of them that is no longer than that of all words of n letters from 1 to n
few_all : (basis : BasisId) (n : ℕ) (codes : List Code) → AreOfDegree basis n codes → ((code : Code) → IsIndex basis code → degree_of basis code ≡ n → times_in code codes ≡ 1) → length codes ≤ n ^ n
    → AreAll basis n codes
few_all basis n codes each once all = record {
  each = each;
  once = once;
  small = λ le. omega (arith, all, self_power n le);
  few = λ k le. omega (arith, all, power_within n k le);
}

module _ (basis : BasisId) (of : IsOfLetters basis) where
  -- lists as the objects give them
  pub all_of_list : (n : ℕ) (codes : List Code) → ListsIndices (index_kind_of basis) n codes → AreAll basis n codes
  all_of_list n codes lists =
      few_all basis n codes
      (each_listed (λ c. IsIndex basis c × (degree_of basis c ≡ n)) (λ c. IsIndex basis c × (degree_of basis c ≡ n)) codes lists.each (λ c h. h))
      (λ code is degree. times_in-once code codes lists.in_order (lists.whole code (is, degree)))
      (few_distinct n n codes
      (each_listed (λ c. IsIndex basis c × (degree_of basis c ≡ n)) (λ c. AreUpTo n c × (length c ≡ n)) codes lists.each
      (λ c h. subst (λ m. AreUpTo m c × (length c ≡ m)) h.1 (of.letters c h.0)))
      (times_in-at_most codes lists.in_order))

  module _ (class_of : List ℕ → List ℕ) (front back : ℕ → List ℕ → List ℕ) (by : IsByClasses basis class_of front back) where
    -- a code that is the class of its representative
    abbrev is_own : Code → Bool
    is_own code = same_list (class_of (representative basis code)) code

    own_index : (n : ℕ) (code : Code) → AreUpTo n code × (length code ≡ n) → is_own code ≡ true → IsIndex basis code × (degree_of basis code ≡ n)
    own_index n code h e =
        let is : IsIndex basis code = subst (λ c. IsIndex basis c) (same_list-true (class_of (representative basis code)) code e) (by.index (representative basis code) (of.points n code h.0)) in
        (is, sym (of.letters code is).1 ∙ h.1)

    own_once : (n : ℕ) (code : Code) → IsIndex basis code → degree_of basis code ≡ n → times_in code (filter (λ c. is_own c) (all_words n n)) ≡ 1
    own_once n code is degree =
        let own : one_if (is_own code) ≡ 1 = ap one_if (same_list-is (class_of (representative basis code)) code (class_of-representative basis class_of front back by of.classes code is)) in
        let h = of.letters code is in
        let once : times_in code (all_words n n) ≡ 1 = times_in-all_words n n code (subst (λ m. AreUpTo m code) degree h.0) (h.1 ∙ degree) in
        times_in-filter code (λ c. is_own c) (all_words n n) ∙ ap (λ m. m * times_in code (all_words n n)) own ∙ omega (arith, once)

    -- among all words those that are the class of their representative
    pub all_own : (n : ℕ) → AreAll basis n (filter (λ c. is_own c) (all_words n n))
    all_own n =
        few_all basis n (filter (λ c. is_own c) (all_words n n))
        (every-passing (λ c. AreUpTo n c × (length c ≡ n)) (λ c. IsIndex basis c × (degree_of basis c ≡ n)) (λ c. is_own c) (own_index n) (all_words n n) (every_word n n))
        (own_once n)
        (omega (arith, length-filter (λ c. is_own c) (all_words n n), length-all_words n n))

positive : (n : ℕ) (code : Code) → AreUpTo n code → IsPoint word code
positive n code h = Letters-weaker (λ x. (1 ≤ x) × (x ≤ n)) (λ x. 1 ≤ x) (λ x k. k.0) code h

-- permutations, for G
pub permutations_g : IsOfLetters FqsymG
permutations_g = record { classes = class_laws.by_inverses; letters = λ c is. (letters_of_permutation c is, refl); points = positive }

-- and for F
pub permutations_f : IsOfLetters FqsymF
permutations_f = record { classes = class_laws.fundamental; letters = λ c is. (letters_of_permutation c is, refl); points = λ n code h. word_inverted code }

-- packed words
pub packed_words : IsOfLetters WqsymM
packed_words = record { classes = class_laws.packed_words; letters = λ c is. (letters_of_packed c is, refl); points = positive }

-- codes of standard tableaux
pub tableaux : IsOfLetters FsymS
tableaux = record {
  classes = class_laws.tableaux;
  letters = λ c is. (letters_of_tableau c is, refl);
  points = λ n code h. word_inverted (reading_word (rows_of code));
}

-- codes of trees
pub trees : IsOfLetters PbtP
trees = record {
  classes = class_laws.trees;
  letters = λ c is. (letters_of_code c is, refl);
  points = λ n code h. subst (λ t. IsPoint word (subtree_sizes t)) (tree_of-code (tree_of code)) (representative_point PbtP (tree_code (tree_of code)) (tree_of code, refl));
}
