-- Lists of codes: in canonical order, each code with a property once.
use Rattle.std.specs.Prelude.{◌≡◌, ℕ, ◌<◌, List, [], length, slice_index_or}
use Rattle.std.specs.Ordering.{nat_cmp}
use Rattle.std.specs.declared.cmp.Ordering.TheVariants.{Less}
use Rattle.std.specs.Cmp.Lexicographic.{slice_cmp}
use Rattle.realisations.specs.Codes.{Code}
use Rattle.realisations.specs.IndexKinds.{IndexKind, IsOfKind, degree_by}

-- the codes rise strictly in the canonical order, letter by letter, a proper prefix first; so none is there twice
abbrev pub IsInOrder : List Code → Type 0
IsInOrder codes = (i j : ℕ) → i < j → j < length codes → slice_cmp nat_cmp (slice_index_or codes i []) (slice_index_or codes j []) ≡ Less

-- the code is one of these
abbrev pub IsListed : Code → List Code → Type 0
IsListed code codes = (i : ℕ) × (i < length codes) × (slice_index_or codes i [] ≡ code)

-- the codes with a property, each once, in canonical order
pub record ListsEach (P : Code → Type 0) (codes : List Code) : Type 0 where
  pub each : (code : Code) → IsListed code codes → P code
  pub whole : (code : Code) → P code → IsListed code codes
  pub in_order : IsInOrder codes

-- the indices of a kind and a degree, each once, in canonical order
abbrev pub ListsIndices : IndexKind → ℕ → List Code → Type 0
ListsIndices kind n codes = ListsEach (λ code. IsOfKind kind code × (degree_by kind code ≡ n)) codes
