-- The antipode of a component of a value.
use Rattle.std.proofs.Common.{◌≡◌, ℕ, ◌<◌, IsTrue, List, [], ◌∷◌, ◌++◌, length, Result, refl, sym, subst}
use Rattle.std.specs.Prelude.{All, slice_index_or, IfOk}
use Rattle.basis_names.specs.declared.bases.BasisId.{BasisId}
use Rattle.built_bases.specs.Table.{is_built}
use Rattle.hopf_laws.specs.Values.{Expansion, IsValue, Expands, reading_of, degree_of_value}
use Rattle.index_rules.specs.Changes.{operation_facts}
use Rattle.index_rules.specs.Lifts.{CanLift, IsLift}
use Rattle.index_rules.specs.Rules.{RuleFacts}
use Rattle.index_rules.specs.Spaces.{limit_for}
use Rattle.realisations.specs.Combinations.{Combination}
use Rattle.realisations.specs.Readings.{applied, antipode}
use Rattle.basis_routes.specs.Checks.{Passes}
use Rattle.basis_routes.specs.Conversions.{linear_checks}
use Rattle.basis_routes.proofs.BasesAround.{at_component, built-here, within_each, within-back}
use Rattle.basis_routes.proofs.Degrees.{degree_within}
use Rattle.basis_routes.proofs.LiftedValues.{over, can_lift, lifted_value, operation_expands}

-- the antipode of a basis as a rule
abbrev pub antipode_facts : BasisId → RuleFacts
antipode_facts basis = operation_facts antipode basis (basis ∷ []) (limit_for basis) 5

-- what the antipode of component n of a value over some bases asks and gives
pub record HasAntipode (n : ℕ) (bases : List BasisId) (basis : BasisId) : Type 0 where
  pub built : (old : Combination) → IsValue (over bases old) → IsTrue (is_built basis)
  pub can : (old : Combination) → IsValue (over bases old) → All Passes (linear_checks (over bases old)) → CanLift (antipode_facts basis) n old
  pub expands : (old new : Combination) → IsValue (over bases old) → IsLift (antipode_facts basis) n old new
      → Expands bases (applied antipode n (reading_of (over bases old))) (over bases new)

antipode_around : (before after : List BasisId) (basis : BasisId) → HasAntipode (length before) (before ++ basis ∷ after) basis
antipode_around before after basis = record {
  built = λ old is. built-here before after basis is.built;
  can = λ old is room.
      let d = degree_of_value (over (before ++ basis ∷ after) old) in
      let here = (within-back d before (basis ∷ after) (within_each d (before ++ basis ∷ after) (degree_within (over (before ++ basis ∷ after) old) is))).0 in
      can_lift before after (antipode_facts basis) old is is.short here room;
  expands = λ old new is lifted.
      let built = built-here before after basis is.built in
      let value = lifted_value before after (antipode_facts basis) old is new lifted is.short (built, tt) (degree_within (over (before ++ basis ∷ after) old) is) in
      operation_expands antipode tt before after (basis ∷ []) basis (limit_for basis) 5 old new refl is lifted value;
}

pub has_antipode : (n : ℕ) (bases : List BasisId) (basis : BasisId) → n < length bases → basis ≡ slice_index_or bases n basis → HasAntipode n bases basis
has_antipode n bases basis lt is = at_component HasAntipode antipode_around n bases basis lt is

-- a lift of the rule of a basis, by the name of that basis
pub same_antipode : {E : Type 0} (basis b : BasisId) (n : ℕ) (old : Combination) (r : Result Combination E) → b ≡ basis → IfOk r (IsLift (antipode_facts basis) n old)
    → IfOk r (IsLift (antipode_facts b) n old)
same_antipode basis b n old r is h = subst (λ x. IfOk r (IsLift (antipode_facts x) n old)) (sym is) h

pub can_antipode : (basis b : BasisId) (n : ℕ) (old : Combination) → b ≡ basis → CanLift (antipode_facts b) n old → CanLift (antipode_facts basis) n old
can_antipode basis b n old is h = subst (λ x. CanLift (antipode_facts x) n old) is h

-- the value that a lift to a component of a value makes
pub antipode_lifted : (n : ℕ) (v : Expansion) (basis : BasisId) (new old : Combination) → n < length v.bases → basis ≡ slice_index_or v.bases n basis → IsValue v → old ≡ v.combination
    → IsLift (antipode_facts basis) n old new → Expands v.bases (applied antipode n (reading_of v)) (over v.bases new)
antipode_lifted n v basis new old lt at is same lifted =
    (has_antipode n v.bases basis lt at).expands v.combination new is (subst (λ c. IsLift (antipode_facts basis) n c new) same lifted)
