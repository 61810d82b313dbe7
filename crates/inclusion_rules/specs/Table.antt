-- The table that the rule of an inclusion keeps. Nothing here need be believed: no public contract cites it.
use Rattle.std.specs.Prelude.{◌≡◌, ℕ, ◌<◌, ◌≤◌, Bool, true, false, List, [], map, length, slice_index_or}
use Rattle.std.specs.List.{filter}
use Rattle.std.specs.List.Sorted.{IsSortedByKey}
use Rattle.std.specs.Ordering.{nat_cmp, is_lt}
use Rattle.std.specs.Cmp.Lexicographic.{slice_cmp}
use Rattle.basis_names.specs.declared.bases.BasisId.{BasisId}
use Rattle.inclusion_laws.specs.Inclusions.{those_over}
use Rattle.linear_combos.specs.CodeLists.{ListsIndices}
use Rattle.realisations.specs.Bases.{index_kind_of}
use Rattle.realisations.specs.Codes.{Code}
use Rattle.realisations.specs.Lists.{same_list}

-- codes, each after its image
abbrev pub Pairs : Type 0
Pairs = List (Code × Code)

-- the codes whose image is an index
abbrev pub group : Code → Pairs → List Code
group index pairs = map (λ p. p.1) (filter (λ p. same_list p.0 index) pairs)

-- the images rise in the canonical order, or stay
abbrev pub IsByImages : Pairs → Type 0
IsByImages pairs = IsSortedByKey (λ (p : Code × Code). p.0) (slice_cmp nat_cmp) pairs

-- whether the image at a place is before an index
abbrev pub is_before : Pairs → Code → ℕ → Bool
is_before pairs index i = is_lt (slice_cmp nat_cmp (slice_index_or pairs i ([], [])).0 index)

-- the images before an index are those before a place
pub record IsPlaceOf (index : Code) (pairs : Pairs) (at : ℕ) : Type 0 where
  pub in_range : at ≤ length pairs
  pub before : (i : ℕ) → i < at → is_before pairs index i ≡ true
  pub after : (i : ℕ) → at ≤ i → i < length pairs → is_before pairs index i ≡ false

-- all indices of a degree in the finer basis, in groups by the indices over which they lie
pub record IsTable (fine : BasisId) (to : Code → Code) (n : ℕ) (pairs : Pairs) : Type 0 where
  pub all : List Code
  pub lists : ListsIndices (index_kind_of fine) n all
  pub groups : (index : Code) → group index pairs ≡ those_over to index all
  pub by_images : IsByImages pairs

-- a degree, and codes after their images
pub record PairsOfDegree : Type 0 where
  pub degree : ℕ
  pub pairs : Pairs
