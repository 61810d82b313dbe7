-- Nothing here need be believed: steps of conversions, for the contracts of private functions.
use Rattle.std.specs.Prelude.{◌≡◌, ◌≢◌, ℕ, ◌<◌, ◌≤◌, IsTrue, List, [], ◌∷◌, length, get_or}
use Rattle.basis_names.specs.Bases.{algebra_of, limit_of}
use Rattle.basis_names.specs.declared.bases.BasisId.{BasisId}
use Rattle.built_bases.specs.Table.{is_built}
use Rattle.hopf_laws.specs.Values.{Expansion, degree_of_value}
use Rattle.realisations.specs.Bases.{lies_in}
use Rattle.basis_routes.specs.declared.checks.Check.{Check}
use Rattle.basis_routes.specs.declared.checks.Check.TheVariants.{DegreeWithin, Routed}
use Rattle.basis_routes.specs.Conversions.{limit_between}
use Rattle.basis_routes.specs.Lists.{replaced}

-- component n, counted from 0, can be changed to a basis that it does not have
pub record CanChange (n : ℕ) (new : BasisId) (v : Expansion) : Type 0 where
  pub here : n < length v.bases
  pub built : IsTrue (is_built new)
  pub inside : IsTrue (lies_in (algebra_of (get_or v.bases n new)) (algebra_of new))
  pub different : get_or v.bases n new ≢ new
  pub degree : degree_of_value v ≤ limit_of (algebra_of new)

-- the checks of a conversion that is asked for, before its linear rule
abbrev pub way_checks : ℕ → BasisId → Expansion → List Check
way_checks n new v =
    let old = get_or v.bases n new in
    Routed old new ∷ DegreeWithin (degree_of_value v) (limit_between old new (replaced n (new ∷ []) v.bases)) ∷ []

-- the first n components of two lists are the same
abbrev pub AreSameTo : ℕ → List BasisId → List BasisId → Type 0
AreSameTo n a b = (i : ℕ) → i < n → (d : BasisId) → get_or a i d ≡ get_or b i d
