-- Inclusions: the elements of a basis over a finer one, by a function from the indices of the finer basis to those of the coarser one.
use Rattle.std.specs.Prelude.{ℕ, ◌*◌, ◌^◌, ◌≤◌, IsTrue, List, [], ◌∷◌}
use Rattle.std.specs.List.{filter}
use Rattle.basis_names.specs.declared.bases.BasisId.{BasisId}
use Rattle.linear_combos.specs.CodeLists.{ListsIndices}
use Rattle.linear_combos.specs.Combos.{IsSumOfTerms}
use Rattle.product_laws.specs.Products.{terms_of_codes}
use Rattle.realisations.specs.Answers.{IsAnswer}
use Rattle.realisations.specs.Bases.{index_kind_of}
use Rattle.realisations.specs.Codes.{Code}
use Rattle.realisations.specs.Combinations.{Combination, norm_of}
use Rattle.realisations.specs.IndexKinds.{is_permutation}
use Rattle.realisations.specs.Indices.{degree_of}
use Rattle.realisations.specs.Lists.{same_list}
use Rattle.realisations.specs.Readings.{element}
use Rattle.realisations.specs.Standardisation.{inverse}

-- of a list of codes those that a function brings to an index
abbrev pub those_over : (Code → Code) → Code → List Code → List Code
those_over to index codes = filter (λ code. same_list (to code) index) codes

-- the combination is the element of an index over a finer basis. Its norm is at most 2^(k n) where the degree n is at most 2^k, so with 3 bits for each degree up to 8
pub record IsIncluded (fine coarse : BasisId) (index : Code) (c : Combination) : Type 0 where
  pub answer : IsAnswer (fine ∷ []) (degree_of coarse index) (element coarse index) c
  pub norm : (k : ℕ) → degree_of coarse index ≤ 2 ^ k → norm_of c.terms ≤ 2 ^ (k * degree_of coarse index)

-- of all indices of its degree n in the finer basis, each once in canonical order, n at most 32, those that a function brings to an index add up to its element; and up to degree 25 there is a combination that is it, whatever memory there is
pub record IsInclusion (fine coarse : BasisId) (to : Code → Code) : Type 0 where
  pub sums : (index : Code) (codes : List Code) (c : Combination) → degree_of coarse index ≤ 32 → ListsIndices (index_kind_of fine) (degree_of coarse index) codes →
      IsSumOfTerms 1 (terms_of_codes (those_over to index codes)) c → IsIncluded fine coarse index c
  pub exists : (index : Code) → degree_of coarse index ≤ 25 → (c : Combination) × IsIncluded fine coarse index c

-- the element of a permutation over the other basis of FQSym: one element at most
pub record IsInverted (from to : BasisId) (s : Code) (c : Combination) : Type 0 where
  pub included : IsIncluded to from s c
  pub norm : norm_of c.terms ≤ 1

-- the element of the inverse of a permutation, alone, is that of the permutation over the other basis; and there is such a combination, whatever memory there is
pub record IsByInverse (from to : BasisId) : Type 0 where
  pub sums : (s : Code) (c : Combination) → IsTrue (is_permutation s) → IsSumOfTerms 1 (terms_of_codes (inverse s ∷ [])) c → IsInverted from to s c
  pub exists : (s : Code) → IsTrue (is_permutation s) → (c : Combination) × IsInverted from to s c
