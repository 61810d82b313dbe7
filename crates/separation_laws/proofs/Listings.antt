-- Each algebra of words has lists of the indices of its class basis, degree by degree.
use Rattle.std.proofs.Common.{◌≡◌, ℕ, ◌*◌, ◌^◌, ◌≤◌, List, [], ◌∷◌, All, length, refl, sym, ◌∙◌, ap, arith}
use Rattle.std.specs.Prelude.{IsTrue}
use Rattle.std.specs.List.{AllByRecursion}
use Rattle.std.proofs.lemmas.List.Elements.{All-head, All-tail}
use Rattle.basis_names.specs.declared.bases.AlgebraId.{AlgebraId}
use Rattle.basis_names.specs.declared.bases.AlgebraId.TheVariants.{Fqsym, Fsym, Ncsf, Pbt, Qsym, Wqsym}
use Rattle.basis_names.specs.declared.bases.BasisId.{BasisId}
use Rattle.basis_names.specs.declared.bases.BasisId.TheVariants.{FqsymG, FsymS, NcsfR, PbtP, WqsymM}
use Rattle.realisations.specs.Bases.{has_words}
use Rattle.realisations.specs.Codes.{Code}
use Rattle.realisations.specs.Indices.{IsIndex, degree_of}
use Rattle.word_laws.specs.AddedCodes.{times_in}
use Rattle.change_laws.proofs.CompositionsByBits.{every_composition, every_composition_once, few_compositions}
use Rattle.change_laws.proofs.PassingSums.{IsCompositionOf, each_composition}
use Rattle.product_laws.specs.Classes.{IsByClasses}
use Rattle.product_laws.specs.Products.{AreOfDegree}
use Rattle.product_laws.proofs.AllClasses.{all_classes}
use Rattle.product_laws.proofs.DistinctWords.{times_in-turned}
use Rattle.inclusion_laws.proofs.ListedIndices.{AreAll, IsOfLetters, all_own, packed_words, permutations_g, tableaux, trees}
use Rattle.separation_laws.specs.Classes.{class_basis}

-- each index of the degree n is there once, and no other code; and up to degree 32 they are at most 2^(growth * n)
pub record IsListing (basis : BasisId) (growth : ℕ) (listing : ℕ → List Code) : Type 0 where
  pub each : (n : ℕ) → AreOfDegree basis n (listing n)
  pub once : (code : Code) → IsIndex basis code → times_in code (listing (degree_of basis code)) ≡ 1
  pub few : (n : ℕ) → n ≤ 32 → length (listing n) ≤ 2 ^ (growth * n)

-- such a list for each degree
pub record HasListing (basis : BasisId) (growth : ℕ) : Type 0 where
  pub listing : ℕ → List Code
  pub is : IsListing basis growth listing

-- what all have, by recursion
every_from : (P Q : Code → Type 0) (xs : List Code) → ((x : Code) → P x → Q x) → All P xs → AllByRecursion Q xs
every_from P Q [] f h = tt
every_from P Q (x ∷ xs) f h = (f x (All-head P x xs h), every_from P Q xs f (All-tail P x xs h))

-- all compositions
compositions_listed : HasListing NcsfR 1
compositions_listed = record {
  listing = every_composition;
  is = record {
    each = λ n. every_from (IsCompositionOf n) (λ code. IsIndex NcsfR code × (degree_of NcsfR code ≡ n)) (every_composition n) (λ code h. (h.positive, h.size)) (each_composition n);
    once = λ code is. sym (times_in-turned code (every_composition (degree_of NcsfR code))) ∙ every_composition_once code is;
    few = λ n le. let few = few_compositions n in let same : 1 * n ≡ n = omega arith in omega (arith, few, ap (λ k. 2 ^ k) same);
  };
}

-- lists of all indices that are few
all_listed : (basis : BasisId) (listing : ℕ → List Code) → ((n : ℕ) → AreAll basis n (listing n)) → HasListing basis 5
all_listed basis listing all = record {
  listing = listing;
  is = record {
    each = λ n. (all n).each;
    once = λ code is. (all (degree_of basis code)).once code is refl;
    few = λ n le. (all n).small le;
  };
}

-- of a class basis by words of letters up to their length, among all words
words_listed : (basis : BasisId) → IsOfLetters basis → (class_of : Code → Code) (front back : ℕ → Code → Code) → IsByClasses basis class_of front back → HasListing basis 5
words_listed basis of class_of front back by = all_listed basis _ (λ n. all_own basis of class_of front back by n)

-- 2^n indices of degree n for NCSF, and else 2^(5n)
abbrev pub growth_of : AlgebraId → ℕ
growth_of Ncsf = 1
growth_of _ = 5

pub has_listing : (target : AlgebraId) → IsTrue (has_words target) → HasListing (class_basis target) (growth_of target)
has_listing Qsym h = absurd (cc)
has_listing Ncsf h = compositions_listed
has_listing Fqsym h = words_listed FqsymG permutations_g _ _ _ all_classes.standardisations
has_listing Wqsym h = words_listed WqsymM packed_words _ _ _ all_classes.packings
has_listing Fsym h = words_listed FsymS tableaux _ _ _ all_classes.tableaux
has_listing Pbt h = words_listed PbtP trees _ _ _ all_classes.trees
