-- What a product rule on indices answers.
use Rattle.std.specs.Prelude.{◌≡◌, ℕ, ◌+◌, ◌*◌, ◌^◌, ◌≤◌, pos, map, List, [], ◌∷◌, length}
use Rattle.std.specs.List.{AllByRecursion}
use Rattle.basis_names.specs.declared.bases.BasisId.{BasisId}
use Rattle.realisations.specs.Bases.{kind_of}
use Rattle.realisations.specs.Codes.{Code}
use Rattle.realisations.specs.Indices.{IsIndex, degree_of}
use Rattle.realisations.specs.Points.{Point, IsPoint}
use Rattle.realisations.specs.Readings.{Terms, leaf, product, element, AgreeAt}

-- the elements of the codes, each as often as it is listed
abbrev pub terms_of_codes : List Code → Terms
terms_of_codes codes = map (λ code. (pos 1, code ∷ [])) codes

-- the sum of the elements of the codes reads as the product of two elements, at every point
abbrev pub IsProduct : BasisId → Code → Code → List Code → Type 0
IsProduct basis left right codes = (p : Point) → IsPoint (kind_of basis) p →
    AgreeAt (leaf (basis ∷ []) 1 (terms_of_codes codes)) (product (element basis left) (element basis right)) (p ∷ [])

-- each of the codes is that of an index of degree n
abbrev pub AreOfDegree : BasisId → ℕ → List Code → Type 0
AreOfDegree basis n codes = AllByRecursion (λ code. IsIndex basis code × (degree_of basis code ≡ n)) codes

-- what a product rule owes: its codes read as the product of two elements, are indices whose degree n is the sum of theirs, and are at most 2^(5n), the bound of the norm of an answer
pub record IsProductRule (basis : BasisId) (left right : Code) (codes : List Code) : Type 0 where
  pub reads : IsProduct basis left right codes
  pub indices : AreOfDegree basis (degree_of basis left + degree_of basis right) codes
  pub few : length codes ≤ 2 ^ (5 * (degree_of basis left + degree_of basis right))
