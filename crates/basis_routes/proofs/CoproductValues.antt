-- The coproduct of a component of a value.
use Rattle.std.proofs.Common.{◌≡◌, ℕ, ◌<◌, ◌≤◌, IsTrue, List, [], ◌∷◌, ◌++◌, length, Result, refl, sym, subst, arith}
use Rattle.std.specs.Prelude.{All, slice_index_or, IfOk}
use Rattle.std.proofs.lemmas.Result.{IfOk-weaker}
use Rattle.std.proofs.lemmas.List.{length-append}
use Rattle.basis_names.specs.declared.bases.BasisId.{BasisId}
use Rattle.built_bases.specs.Table.{is_built}
use Rattle.hopf_laws.specs.Values.{Expansion, IsValue, Expands, reading_of, degree_of_value}
use Rattle.index_rules.specs.Changes.{operation_facts}
use Rattle.index_rules.specs.Lifts.{CanLift, IsLift}
use Rattle.index_rules.specs.Rules.{RuleFacts}
use Rattle.index_rules.specs.Spaces.{limit_for}
use Rattle.realisations.specs.Combinations.{Combination}
use Rattle.realisations.specs.Readings.{applied, coproduct}
use Rattle.basis_routes.specs.Checks.{Passes}
use Rattle.basis_routes.specs.Conversions.{linear_checks}
use Rattle.basis_routes.specs.Lists.{doubled}
use Rattle.basis_routes.proofs.BasesAround.{at_component, doubled-around, built-here, within_each, within_least, within-around, within-back}
use Rattle.basis_routes.proofs.Degrees.{degree_within}
use Rattle.basis_routes.proofs.LiftedValues.{over, can_lift, lifted_value, operation_expands}

-- what the coproduct of component n of a value over some bases asks and gives
pub record HasCoproduct (n : ℕ) (bases : List BasisId) (basis : BasisId) : Type 0 where
  pub built : (old : Combination) → IsValue (over bases old) → IsTrue (is_built basis)
  pub can : (old : Combination) → IsValue (over bases old) → length bases ≤ 2 → All Passes (linear_checks (over bases old))
      → (growth : ℕ) → CanLift (operation_facts coproduct basis (basis ∷ basis ∷ []) (limit_for basis) growth) n old
  pub expands : (old new : Combination) (growth : ℕ) → IsValue (over bases old) → length bases ≤ 2 → IsLift (operation_facts coproduct basis (basis ∷ basis ∷ []) (limit_for basis) growth) n old new
      → Expands (doubled n bases) (applied coproduct n (reading_of (over bases old))) (over (doubled n bases) new)

coproduct_around : (before after : List BasisId) (basis : BasisId) → HasCoproduct (length before) (before ++ basis ∷ after) basis
coproduct_around before after basis = record {
  built = λ old is. built-here before after basis is.built;
  can = λ old is short room growth.
      let each = within_each (degree_of_value (over (before ++ basis ∷ after) old)) (before ++ basis ∷ after) (degree_within (over (before ++ basis ∷ after) old) is) in
      let here = (within-back (degree_of_value (over (before ++ basis ∷ after) old)) before (basis ∷ after) each).0 in
      can_lift before after (operation_facts coproduct basis (basis ∷ basis ∷ []) (limit_for basis) growth) old is (longer short) here room;
  expands = λ old new growth is short lifted.
      let each = within_each (degree_of_value (over (before ++ basis ∷ after) old)) (before ++ basis ∷ after) (degree_within (over (before ++ basis ∷ after) old) is) in
      let here = (within-back (degree_of_value (over (before ++ basis ∷ after) old)) before (basis ∷ after) each).0 in
      let within = within_least (degree_of_value (over (before ++ basis ∷ after) old)) (before ++ basis ∷ basis ∷ after) (omega (arith, length-append before (basis ∷ basis ∷ after)))
      (within-around (degree_of_value (over (before ++ basis ∷ after) old)) before after (basis ∷ basis ∷ []) basis each (here, (here, tt))) in
      let built = built-here before after basis is.built in
      let value = lifted_value before after (operation_facts coproduct basis (basis ∷ basis ∷ []) (limit_for basis) growth) old is new lifted (longer short) (built, (built, tt)) within in
      subst (λ bases. Expands bases (applied coproduct (length before) (reading_of (over (before ++ basis ∷ after) old))) (over bases new)) (sym (doubled-around before after basis))
      (operation_expands coproduct tt before after (basis ∷ basis ∷ []) basis (limit_for basis) growth old new refl is lifted value);
}
  where
    longer : length (before ++ basis ∷ after) ≤ 2 → length (before ++ basis ∷ basis ∷ after) ≤ 3
    longer short = omega (arith, short, length-append before (basis ∷ after), length-append before (basis ∷ basis ∷ after))

pub has_coproduct : (n : ℕ) (bases : List BasisId) (basis : BasisId) → n < length bases → basis ≡ slice_index_or bases n basis → HasCoproduct n bases basis
has_coproduct n bases basis lt is = at_component HasCoproduct coproduct_around n bases basis lt is

-- the coproduct of a basis as a rule
abbrev pub coproduct_facts : BasisId → ℕ → RuleFacts
coproduct_facts basis growth = operation_facts coproduct basis (basis ∷ basis ∷ []) (limit_for basis) growth

-- a lift of the rule of a basis, whatever its growth
pub some_coproduct : {E : Type 0} (basis b : BasisId) (growth n : ℕ) (old : Combination) (r : Result Combination E) → b ≡ basis → IfOk r (IsLift (coproduct_facts basis growth) n old)
    → IfOk r (λ new. (g : ℕ) × IsLift (coproduct_facts b g) n old new)
some_coproduct basis b growth n old r is h =
    subst (λ x. IfOk r (λ new. (g : ℕ) × IsLift (coproduct_facts x g) n old new)) (sym is)
    (IfOk-weaker r (IsLift (coproduct_facts basis growth) n old) (λ new. (g : ℕ) × IsLift (coproduct_facts basis g) n old new) (λ new lifted. (growth, lifted)) h)

pub can_coproduct : (basis b : BasisId) (growth n : ℕ) (old : Combination) → b ≡ basis → ((g : ℕ) → CanLift (coproduct_facts b g) n old) → CanLift (coproduct_facts basis growth) n old
can_coproduct basis b growth n old is h = subst (λ x. CanLift (coproduct_facts x growth) n old) is (h growth)

-- the value that a lift to a component of a value makes
pub coproduct_lifted : (n : ℕ) (v : Expansion) (basis : BasisId) (new old : Combination) → n < length v.bases → basis ≡ slice_index_or v.bases n basis → IsValue v → length v.bases ≤ 2 → old ≡ v.combination
    → (g : ℕ) × IsLift (coproduct_facts basis g) n old new → Expands (doubled n v.bases) (applied coproduct n (reading_of v)) (over (doubled n v.bases) new)
coproduct_lifted n v basis new old lt at is short same (growth, lifted) =
    (has_coproduct n v.bases basis lt at).expands v.combination new growth is short (subst (λ c. IsLift (coproduct_facts basis growth) n c new) same lifted)
