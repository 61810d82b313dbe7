-- Changes of basis inside one algebra: an element of a basis as a sum, with signs, of elements of another one over the finer or over the coarser compositions.
use Rattle.std.specs.Prelude.{ℕ, ◌^◌, ◌<◌, ◌≤◌, pos, IsTrue, List, [], ◌∷◌, map}
use Rattle.std.specs.List.{sum}
use Rattle.basis_names.specs.declared.bases.BasisId.{BasisId}
use Rattle.linear_combos.specs.CodeLists.{ListsEach}
use Rattle.linear_combos.specs.Combos.{IsSumOfTerms}
use Rattle.realisations.specs.Answers.{IsAnswer}
use Rattle.realisations.specs.Codes.{Code}
use Rattle.realisations.specs.Combinations.{Combination, norm_of}
use Rattle.realisations.specs.Descents.{is_finer}
use Rattle.realisations.specs.IndexKinds.{IsComposition}
use Rattle.realisations.specs.Lists.{with_sign}
use Rattle.realisations.specs.Readings.{Terms, element}

-- the compositions finer than one or equal to it, each once
abbrev pub ListsRefinements : Code → List Code → Type 0
ListsRefinements coarse codes = ListsEach (λ code. IsComposition code × IsTrue (is_finer code coarse)) codes

-- the compositions coarser than one or equal to it, each once
abbrev pub ListsCoarsenings : Code → List Code → Type 0
ListsCoarsenings fine codes = ListsEach (λ code. IsComposition code × IsTrue (is_finer fine code)) codes

-- the codes of a list, each with the sign (-1)^k for a number k of its own
abbrev pub signed_terms : (Code → ℕ) → List Code → Terms
signed_terms signs codes = map (λ code. (with_sign (signs code) (pos 1), code ∷ [])) codes

-- the combination is the element of a composition of n over another basis, and its norm is at most 2^n
pub record IsChanged (from to : BasisId) (parts : Code) (c : Combination) : Type 0 where
  pub answer : IsAnswer (to ∷ []) (sum parts) (element from parts) c
  pub norm : norm_of c.terms ≤ 2 ^ sum parts

-- the element of a composition is the sum of those of another basis over such a list, with these signs
abbrev pub IsSignedSum : BasisId → BasisId → (Code → List Code → Type 0) → (Code → Code → ℕ) → Type 0
IsSignedSum from to Lists signs = (parts : Code) → IsComposition parts → (codes : List Code) → Lists parts codes → (c : Combination) →
    IsSumOfTerms 1 (signed_terms (signs parts) codes) c → IsChanged from to parts c

-- each element of one basis has a combination over another. The bound is that of the room of numbers, below 2^127
abbrev pub HasChanges : BasisId → BasisId → Type 0
HasChanges from to = (parts : Code) → IsComposition parts → sum parts < 127 → (c : Combination) × IsChanged from to parts c
