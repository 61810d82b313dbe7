-- Commuting images of elements of bases of words, over bases of QSym.
use Rattle.std.specs.Prelude.{ℕ, ◌*◌, ◌^◌, ◌≤◌, List, [], ◌∷◌, map}
use Rattle.std.specs.List.{range_with_len}
use Rattle.basis_names.specs.declared.bases.BasisId.{BasisId}
use Rattle.inclusion_laws.specs.Inclusions.{those_over}
use Rattle.linear_combos.specs.CodeLists.{ListsIndices}
use Rattle.linear_combos.specs.Combos.{IsSumOfTerms}
use Rattle.product_laws.specs.Products.{terms_of_codes}
use Rattle.realisations.specs.Answers.{IsAnswer}
use Rattle.realisations.specs.Bases.{index_kind_of}
use Rattle.realisations.specs.Codes.{Code}
use Rattle.realisations.specs.Combinations.{Combination, norm_of}
use Rattle.realisations.specs.Indices.{IsIndex, degree_of}
use Rattle.realisations.specs.Readings.{applied, commute, element}
use Rattle.realisations.specs.Standardisation.{count_same}
use Rattle.realisations.specs.Words.{greatest}

-- the combination over a basis of QSym is the commuting image of an element. Its norm is at most 2^(k n) where the degree n is at most 2^k
pub record IsImage (from to : BasisId) (index : Code) (c : Combination) : Type 0 where
  pub answer : IsAnswer (to ∷ []) (degree_of from index) (applied commute 0 (element from index)) c
  pub norm : (k : ℕ) → degree_of from index ≤ 2 ^ k → norm_of c.terms ≤ 2 ^ (k * degree_of from index)

-- it is one element at most
pub record IsImageAlone (from to : BasisId) (index : Code) (c : Combination) : Type 0 where
  pub image : IsImage from to index c
  pub norm : norm_of c.terms ≤ 1

-- the commuting image of the element of an index is the element of its image, alone; and there is such a combination, whatever memory there is
pub record CommutesAs (from to : BasisId) (image : Code → Code) : Type 0 where
  pub sums : (index : Code) (c : Combination) → IsIndex from index → IsSumOfTerms 1 (terms_of_codes (image index ∷ [])) c → IsImageAlone from to index c
  pub exists : (index : Code) → IsIndex from index → (c : Combination) × IsImageAlone from to index c

-- that of an element of a coarser basis is the sum of the elements of the images of the finer indices over it: of all indices of its degree, at most 32, each once in canonical order, those that a function brings to the index; and up to degree 25 there is such a combination
pub record CommutesThrough (fine coarse to : BasisId) (over image : Code → Code) : Type 0 where
  pub sums : (index : Code) (codes : List Code) (c : Combination) → degree_of coarse index ≤ 32 → ListsIndices (index_kind_of fine) (degree_of coarse index) codes →
      IsSumOfTerms 1 (terms_of_codes (map image (those_over over index codes))) c → IsImage coarse to index c
  pub exists : (index : Code) → degree_of coarse index ≤ 25 → (c : Combination) × IsImage coarse to index c

-- the evaluation of a packed word: how often each of 1 to the greatest letter stands in it, in order
abbrev pub evaluation : Code → Code
evaluation w = map (λ x. count_same x w) (range_with_len 1 (greatest w))
