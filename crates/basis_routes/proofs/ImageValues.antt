-- The commuting image of a component of a value.
use Rattle.std.proofs.Common.{◌≡◌, ℕ, ◌<◌, ◌≤◌, IsTrue, List, [], ◌∷◌, ◌++◌, length, Result, refl, sym, subst, arith}
use Rattle.std.specs.Prelude.{All, slice_index_or, IfOk}
use Rattle.std.proofs.lemmas.Result.{IfOk-weaker}
use Rattle.std.proofs.lemmas.List.{length-append}
use Rattle.basis_names.specs.declared.bases.AlgebraId.{AlgebraId}
use Rattle.basis_names.specs.declared.bases.AlgebraId.TheVariants.{Qsym, Ncsf, Fqsym, Wqsym, Fsym, Pbt}
use Rattle.basis_names.specs.Bases.{algebra_of, limit_of}
use Rattle.basis_names.specs.declared.bases.BasisId.{BasisId}
use Rattle.basis_names.specs.declared.bases.BasisId.TheVariants.{QsymM}
use Rattle.built_bases.specs.Table.{is_built}
use Rattle.commuting_images.specs.Images.{image_facts}
use Rattle.hopf_laws.specs.Values.{Expansion, IsValue, Expands, reading_of, degree_of_value}
use Rattle.index_rules.specs.Lifts.{CanLift, IsLift}
use Rattle.index_rules.specs.Spaces.{limit_for}
use Rattle.realisations.specs.Combinations.{Combination}
use Rattle.realisations.specs.Readings.{applied, commute}
use Rattle.basis_routes.specs.Checks.{Passes}
use Rattle.basis_routes.specs.Conversions.{linear_checks}
use Rattle.basis_routes.specs.Lists.{replaced}
use Rattle.basis_routes.proofs.BasesAround.{at_component, replaced-around, built-here, within_each, within_least, within-around, within-back}
use Rattle.basis_routes.proofs.Degrees.{degree_within}
use Rattle.basis_routes.proofs.LiftedValues.{over, can_lift, lifted_value, operation_expands}

-- no limit is greater than that of QSym
limit-le-qsym : (algebra : AlgebraId) → limit_of algebra ≤ limit_of Qsym
limit-le-qsym Qsym = omega arith
limit-le-qsym Ncsf = omega arith
limit-le-qsym Fqsym = omega arith
limit-le-qsym Wqsym = omega arith
limit-le-qsym Fsym = omega arith
limit-le-qsym Pbt = omega arith

-- what the commuting image of component n of a value over some bases asks and gives
pub record HasImage (n : ℕ) (bases : List BasisId) (basis : BasisId) : Type 0 where
  pub built : (old : Combination) → IsValue (over bases old) → IsTrue (is_built basis)
  pub can : (old : Combination) → IsValue (over bases old) → All Passes (linear_checks (over bases old)) → (growth : ℕ) → CanLift (image_facts basis growth) n old
  pub expands : (old new : Combination) (growth : ℕ) → IsValue (over bases old) → IsLift (image_facts basis growth) n old new
      → Expands (replaced n (QsymM ∷ []) bases) (applied commute n (reading_of (over bases old))) (over (replaced n (QsymM ∷ []) bases) new)

image_around : (before after : List BasisId) (basis : BasisId) → HasImage (length before) (before ++ basis ∷ after) basis
image_around before after basis = record {
  built = λ old is. built-here before after basis is.built;
  can = λ old is room growth.
      let d = degree_of_value (over (before ++ basis ∷ after) old) in
      let each = within_each d (before ++ basis ∷ after) (degree_within (over (before ++ basis ∷ after) old) is) in
      let here = (within-back d before (basis ∷ after) each).0 in
      can_lift before after (image_facts basis growth) old is (as_long is.short) here room;
  expands = λ old new growth is lifted.
      let d = degree_of_value (over (before ++ basis ∷ after) old) in
      let each = within_each d (before ++ basis ∷ after) (degree_within (over (before ++ basis ∷ after) old) is) in
      let here : d ≤ limit_for basis = (within-back d before (basis ∷ after) each).0 in
      let there : d ≤ limit_for QsymM = omega (arith, here, limit-le-qsym (algebra_of basis)) in
      let within = within_least d (before ++ QsymM ∷ after) (omega (arith, length-append before (QsymM ∷ after))) (within-around d before after (QsymM ∷ []) basis each (there, tt)) in
      let value = lifted_value before after (image_facts basis growth) old is new lifted (as_long is.short) (refl, tt) within in
      subst (λ bases. Expands bases (applied commute (length before) (reading_of (over (before ++ basis ∷ after) old))) (over bases new)) (sym (replaced-around before after (QsymM ∷ []) basis))
      (operation_expands commute tt before after (QsymM ∷ []) basis (limit_for basis) growth old new refl is lifted value);
}
  where
    as_long : length (before ++ basis ∷ after) ≤ 3 → length (before ++ QsymM ∷ after) ≤ 3
    as_long short = omega (arith, short, length-append before (basis ∷ after), length-append before (QsymM ∷ after))

pub has_image : (n : ℕ) (bases : List BasisId) (basis : BasisId) → n < length bases → basis ≡ slice_index_or bases n basis → HasImage n bases basis
has_image n bases basis lt is = at_component HasImage image_around n bases basis lt is

-- a lift of the rule of a basis, whatever its growth
pub some_image : {E : Type 0} (basis b : BasisId) (growth n : ℕ) (old : Combination) (r : Result Combination E) → b ≡ basis → IfOk r (IsLift (image_facts basis growth) n old)
    → IfOk r (λ new. (g : ℕ) × IsLift (image_facts b g) n old new)
some_image basis b growth n old r is h =
    subst (λ x. IfOk r (λ new. (g : ℕ) × IsLift (image_facts x g) n old new)) (sym is)
    (IfOk-weaker r (IsLift (image_facts basis growth) n old) (λ new. (g : ℕ) × IsLift (image_facts basis g) n old new) (λ new lifted. (growth, lifted)) h)

pub can_image : (basis b : BasisId) (growth n : ℕ) (old : Combination) → b ≡ basis → ((g : ℕ) → CanLift (image_facts b g) n old) → CanLift (image_facts basis growth) n old
can_image basis b growth n old is h = subst (λ x. CanLift (image_facts x growth) n old) is (h growth)

-- the value that a lift to a component of a value makes
pub image_lifted : (n : ℕ) (v : Expansion) (basis : BasisId) (new old : Combination) → n < length v.bases → basis ≡ slice_index_or v.bases n basis → IsValue v → old ≡ v.combination
    → (g : ℕ) × IsLift (image_facts basis g) n old new → Expands (replaced n (QsymM ∷ []) v.bases) (applied commute n (reading_of v)) (over (replaced n (QsymM ∷ []) v.bases) new)
image_lifted n v basis new old lt at is same (growth, lifted) =
    (has_image n v.bases basis lt at).expands v.combination new growth is (subst (λ c. IsLift (image_facts basis growth) n c new) same lifted)
