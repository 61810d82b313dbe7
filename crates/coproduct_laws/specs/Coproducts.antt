-- What a coproduct rule on indices answers.
use Rattle.std.specs.Prelude.{◌≡◌, ◌+◌, ◌*◌, ◌^◌, ◌≤◌, pos, map, List, [], ◌∷◌, length}
use Rattle.std.specs.List.{AllByRecursion}
use Rattle.basis_names.specs.declared.bases.BasisId.{BasisId}
use Rattle.realisations.specs.Bases.{kind_of}
use Rattle.realisations.specs.Points.{Point, IsPoint}
use Rattle.realisations.specs.Indices.{IsIndex, degree_of}
use Rattle.realisations.specs.Readings.{Terms, leaf, applied, coproduct, element, AgreeAt}
use Rattle.realisations.specs.Codes.{Code}

-- the tensors of the pairs, each once
abbrev pub terms_of_pairs : List (Code × Code) → Terms
terms_of_pairs pairs = map (λ e. (pos 1, e.0 ∷ e.1 ∷ [])) pairs

-- the tensors of the pairs read as the coproduct of the element, at all pairs of points
abbrev pub IsCoproduct : BasisId → Code → List (Code × Code) → Type 0
IsCoproduct basis code pairs = (u v : Point) → IsPoint (kind_of basis) u → IsPoint (kind_of basis) v →
    AgreeAt (leaf (basis ∷ basis ∷ []) 1 (terms_of_pairs pairs)) (applied coproduct 0 (element basis code)) (u ∷ v ∷ [])

-- pairs of indices whose degrees add to that of the index
abbrev pub ArePairs : BasisId → Code → List (Code × Code) → Type 0
ArePairs basis code pairs =
    AllByRecursion (λ e. IsIndex basis e.0 × IsIndex basis e.1 × (degree_of basis e.0 + degree_of basis e.1 ≡ degree_of basis code)) pairs

-- what a coproduct rule owes: its pairs read as the coproduct, are pairs of indices whose degrees add to its degree n, and are at most 2^(5n), the bound of the norm of an answer
pub record IsCoproductRule (basis : BasisId) (code : Code) (pairs : List (Code × Code)) : Type 0 where
  pub reads : IsCoproduct basis code pairs
  pub indices : ArePairs basis code pairs
  pub few : length pairs ≤ 2 ^ (5 * degree_of basis code)
