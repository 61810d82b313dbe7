-- Changes of a component of a value to another basis.
use Rattle.std.proofs.Common.{◌≡◌, ◌≢◌, ℕ, ◌<◌, ◌≤◌, IsTrue, List, [], ◌∷◌, ◌++◌, length, get_or, sym, ◌∙◌, ap, subst, arith}
use Rattle.std.specs.Prelude.{All, min, slice_index_or}
use Rattle.std.proofs.lemmas.List.{length-append, get_or_default}
use Rattle.std.proofs.lemmas.List.Elements.{All-head, All-tail}
use Rattle.basis_names.specs.Bases.{algebra_of, limit_of}
use Rattle.basis_names.specs.declared.bases.BasisId.{BasisId}
use Rattle.built_bases.specs.Table.{is_built}
use Rattle.hopf_laws.specs.Bases.{least_limit}
use Rattle.hopf_laws.specs.Values.{Expansion, IsValue, Expands, reading_of, degree_of_value}
use Rattle.index_rules.specs.Changes.{change_facts}
use Rattle.index_rules.specs.Lifts.{CanLift, IsLift}
use Rattle.index_rules.specs.Rules.{RuleFacts}
use Rattle.index_rules.specs.Spaces.{limit_for}
use Rattle.realisations.specs.Bases.{lies_in}
use Rattle.realisations.specs.Combinations.{Combination}
use Rattle.basis_routes.specs.Changed.{CanChange}
use Rattle.basis_routes.specs.Checks.{Passes}
use Rattle.basis_routes.specs.Conversions.{conversion_checks, linear_checks, limit_between}
use Rattle.basis_routes.specs.Lists.{replaced}
use Rattle.basis_routes.specs.declared.checks.Check.{Check}
use Rattle.basis_routes.specs.declared.checks.Check.TheVariants.{Contained, DegreeWithin, Routed}
use Rattle.basis_routes.proofs.BasesAround.{at_component, built-here, replaced-around, within_least, within-around, within-back, within_each}
use Rattle.basis_routes.proofs.Degrees.{degree_within}
use Rattle.basis_routes.proofs.LiftedValues.{over, can_lift, lifted_value, change_expands}
use Rattle.basis_routes.proofs.Rows.{passes_earlier, passes_last}

-- the change of a basis to another one as a rule
abbrev pub change_of : BasisId → BasisId → ℕ → RuleFacts
change_of from to growth = change_facts from to (min (limit_for from) (limit_for to)) growth

pub below_both : (d m n : ℕ) → d ≤ m → d ≤ n → d ≤ min m n
below_both d m n h k = omega (arith, h, k)

-- what the change of component n of a value over some bases asks and gives
pub record HasChange (n : ℕ) (bases : List BasisId) (from : BasisId) : Type 0 where
  pub built : (old : Combination) → IsValue (over bases old) → IsTrue (is_built from)
  pub can : (old : Combination) (to : BasisId) → IsValue (over bases old) → degree_of_value (over bases old) ≤ limit_for to → All Passes (linear_checks (over bases old))
      → (growth : ℕ) → CanLift (change_of from to growth) n old
  pub expands : (old new : Combination) (to : BasisId) (growth : ℕ) → IsValue (over bases old) → IsTrue (is_built to) → degree_of_value (over bases old) ≤ limit_for to → IsLift (change_of from to growth) n old new
      → Expands (replaced n (to ∷ []) bases) (reading_of (over bases old)) (over (replaced n (to ∷ []) bases) new)

change_around : (before after : List BasisId) (from : BasisId) → HasChange (length before) (before ++ from ∷ after) from
change_around before after from = record {
  built = λ old is. built-here before after from is.built;
  can = λ old to is small room growth.
      let d = degree_of_value (over (before ++ from ∷ after) old) in
      let each = within_each d (before ++ from ∷ after) (degree_within (over (before ++ from ∷ after) old) is) in
      let here = (within-back d before (from ∷ after) each).0 in
      can_lift before after (change_of from to growth) old is (as_long to is.short) (below_both d (limit_for from) (limit_for to) here small) room;
  expands = λ old new to growth is built small lifted.
      let d = degree_of_value (over (before ++ from ∷ after) old) in
      let each = within_each d (before ++ from ∷ after) (degree_within (over (before ++ from ∷ after) old) is) in
      let within = within_least d (before ++ to ∷ after) (omega (arith, length-append before (to ∷ after))) (within-around d before after (to ∷ []) from each (small, tt)) in
      let value = lifted_value before after (change_of from to growth) old is new lifted (as_long to is.short) (built, tt) within in
      subst (λ bases. Expands bases (reading_of (over (before ++ from ∷ after) old)) (over bases new)) (sym (replaced-around before after (to ∷ []) from))
      (change_expands before after from to (min (limit_for from) (limit_for to)) growth old new is lifted value);
}
  where
    as_long : (to : BasisId) → length (before ++ from ∷ after) ≤ 3 → length (before ++ to ∷ after) ≤ 3
    as_long to short = omega (arith, short, length-append before (from ∷ after), length-append before (to ∷ after))

pub has_change : (n : ℕ) (bases : List BasisId) (from : BasisId) → n < length bases → from ≡ slice_index_or bases n from → HasChange n bases from
has_change n bases from lt at = at_component HasChange change_around n bases from lt at

-- the old basis of a component that can be changed is built, and lies in the algebra of the new one
pub change_built : (n : ℕ) (v : Expansion) (from to : BasisId) → from ≡ slice_index_or v.bases n from → CanChange n to v → IsValue v → IsTrue (is_built from)
change_built n v from to at change is = (has_change n v.bases from change.here at).built v.combination is

pub change_inside : (n : ℕ) (v : Expansion) (from to : BasisId) → from ≡ slice_index_or v.bases n from → CanChange n to v → IsTrue (lies_in (algebra_of from) (algebra_of to))
change_inside n v from to at change =
    let here : from ≡ get_or v.bases n to = at ∙ get_or_default v.bases n from to change.here in
    subst (λ (b : BasisId). IsTrue (lies_in (algebra_of b) (algebra_of to))) (sym here) change.inside

-- the value that a lift of the change makes
pub change_lifted : (n : ℕ) (v : Expansion) (from to : BasisId) (new old : Combination) → from ≡ slice_index_or v.bases n from → CanChange n to v → IsValue v → old ≡ v.combination
    → (g : ℕ) × IsLift (change_of from to g) n old new → Expands (replaced n (to ∷ []) v.bases) (reading_of v) (over (replaced n (to ∷ []) v.bases) new)
change_lifted n v from to new old at change is same (growth, lifted) =
    (has_change n v.bases from change.here at).expands v.combination new to growth is change.built change.degree (subst (λ c. IsLift (change_of from to growth) n c new) same lifted)

-- a degree within the limits once a basis is put in
within_new : (n : ℕ) (bases : List BasisId) (to : BasisId) (d : ℕ) → n < length bases → d ≤ least_limit (replaced n (to ∷ []) bases) → d ≤ limit_of (algebra_of to)
within_new n bases to d lt le =
    at_component (λ m bs b. d ≤ least_limit (replaced m (to ∷ []) bs) → d ≤ limit_of (algebra_of to))
    (λ before after b h. (within-back d before (to ∷ after) (within_each d (before ++ to ∷ after) (subst (λ bs. d ≤ least_limit bs) (replaced-around before after (to ∷ []) b) h))).0)
    n bases (slice_index_or bases n to) lt (get_or_default bases n to (slice_index_or bases n to) lt) le

below_least : (d m n : ℕ) → d ≤ min m n → d ≤ m
below_least d m n h = omega (arith, h)

-- what the checks of a conversion say
pub record CanConvert (n : ℕ) (to : BasisId) (v : Expansion) : Type 0 where
  pub inside : IsTrue (lies_in (algebra_of (get_or v.bases n to)) (algebra_of to))
  pub within : degree_of_value v ≤ least_limit (replaced n (to ∷ []) v.bases)
  pub room : All Passes (linear_checks v)

pub can_convert : (n : ℕ) (to : BasisId) (v : Expansion) → All Passes (conversion_checks n to v) → CanConvert n to v
can_convert n to v pass =
    let old = get_or v.bases n to in
    let limit = limit_between old to (replaced n (to ∷ []) v.bases) in
    let last : List Check = Contained old to ∷ [] in
    let later = All-tail Passes (Routed old to) (DegreeWithin (degree_of_value v) limit ∷ linear_checks v ++ last) pass in
    let degree : degree_of_value v ≤ limit = All-head Passes (DegreeWithin (degree_of_value v) limit) (linear_checks v ++ last) later in
    let rest = All-tail Passes (DegreeWithin (degree_of_value v) limit) (linear_checks v ++ last) later in
    record {
      inside = passes_last (linear_checks v) (Contained old to) rest;
      within = below_least (degree_of_value v) (least_limit (replaced n (to ∷ []) v.bases)) _ degree;
      room = passes_earlier (linear_checks v) last rest;
    }

-- a component can be changed where they pass
pub can_change_on_the_way : (n : ℕ) (to : BasisId) (v : Expansion) → n < length v.bases → IsTrue (is_built to) → get_or v.bases n to ≢ to → All Passes (conversion_checks n to v) → CanChange n to v
can_change_on_the_way n to v lt built different pass =
    let can = can_convert n to v pass in
    record { here = lt; built = built; inside = can.inside; different = different; degree = within_new n v.bases to (degree_of_value v) lt can.within }
