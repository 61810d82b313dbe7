-- Conversions step by step, as code goes through them.
use Rattle.std.proofs.Common.{◌≡◌, ◌≢◌, ℕ, zero, suc, ◌+◌, ◌<◌, ◌≤◌, IsTrue, List, [], ◌∷◌, ◌++◌, length, drop, get_or, Result, Ok, Err, inl, inr, refl, sym, ◌∙◌, ap, subst, arith}
use Rattle.std.specs.Prelude.{All}
use Rattle.std.proofs.lemmas.Bool.{cases_eq}
use Rattle.std.proofs.lemmas.List.{get_or_default}
use Rattle.std.proofs.lemmas.List.Elements.{All-append}
use Rattle.basis_names.specs.Bases.{algebra_of, limit_of}
use Rattle.basis_names.specs.declared.bases.BasisId.{BasisId}
use Rattle.built_bases.specs.Table.{is_built}
use Rattle.hopf_laws.specs.Bases.{AreBuilt, least_limit}
use Rattle.hopf_laws.specs.Values.{Expansion, IsValue, reading_of, degree_of_value}
use Rattle.realisations.specs.Bases.{lies_in}
use Rattle.basis_routes.specs.declared.checks.Check.{Check}
use Rattle.basis_routes.specs.declared.checks.Check.TheVariants.{Contained, DegreeWithin, Routed}
use Rattle.basis_routes.specs.declared.refusal.Refusal.{Refusal}
use Rattle.basis_routes.specs.Changed.{AreSameTo, way_checks}
use Rattle.basis_routes.specs.Checks.{IsRefusalOf, Passes, Tests}
use Rattle.basis_routes.specs.Conversions.{BroughtTo, ConversionRow, ConvertsAt, ConvertsFrom, Converts, conversion_checks, limit_between, linear_checks}
use Rattle.basis_routes.specs.declared.place.Place.{Place}
use Rattle.basis_routes.specs.Joins.{LieIn}
use Rattle.basis_routes.specs.Lists.{replaced}
use Rattle.basis_routes.specs.Places.{position_of, component_checks}
use Rattle.basis_routes.specs.Rows.{Answer, Answers, Row, Checked, OrMemory}
use Rattle.basis_routes.proofs.BasesAround.{at_component, built-here, within-back, within_each}
use Rattle.basis_routes.proofs.ContainedBases.{lies_replaced}
use Rattle.basis_routes.proofs.ConversionsExist.{converts_at_some}
use Rattle.basis_routes.proofs.ConvertedRows.{brought_expands}
use Rattle.basis_routes.proofs.OnceRows.{brought_once}
use Rattle.basis_routes.proofs.ReplacedBases.{has_at, get_or-at, replaced-at}
use Rattle.basis_routes.proofs.Rows.{refused_back, refused_front, tests_back}
use Rattle.basis_routes.proofs.ValueRows.{told}

-- the checks of a way, tested one after the other
pub way_tests : (n : ℕ) (to : BasisId) (v : Expansion) (from : BasisId) (degree limit : ℕ) (result : Result (Unit {0}) Refusal) → from ≡ get_or v.bases n to → degree ≡ degree_of_value v
    → limit ≡ limit_between from to (replaced n (to ∷ []) v.bases) → All Passes (Routed from to ∷ []) → Tests (DegreeWithin degree limit ∷ []) result → Tests (way_checks n to v) result
way_tests n to v from degree limit result is degree_is limit_is pass tests =
    subst (λ old. Tests (Routed old to ∷ DegreeWithin (degree_of_value v) (limit_between old to (replaced n (to ∷ []) v.bases)) ∷ []) result) is
    (tests_back (Routed from to ∷ []) (DegreeWithin (degree_of_value v) (limit_between from to (replaced n (to ∷ []) v.bases)) ∷ []) result pass
    (subst (λ m. Tests (DegreeWithin (degree_of_value v) m ∷ []) result) limit_is (subst (λ d. Tests (DegreeWithin d limit ∷ []) result) degree_is tests)))

-- those of a conversion that is asked for: the linear rule fails once there is a way
pub room_refused : (n : ℕ) (to : BasisId) (v : Expansion) (r : Refusal) → All Passes (way_checks n to v) → IsRefusalOf (linear_checks v) r → IsRefusalOf (conversion_checks n to v) r
room_refused n to v r way failing = refused_front (way_checks n to v ++ linear_checks v) (Contained (get_or v.bases n to) to ∷ []) r (refused_back (way_checks n to v) (linear_checks v) r way failing)

-- or it holds, and the last check is made
pub conversion_tests : (n : ℕ) (to : BasisId) (v : Expansion) (from : BasisId) (result : Result (Unit {0}) Refusal) → from ≡ get_or v.bases n to
    → All Passes (way_checks n to v) → All Passes (linear_checks v) → Tests (Contained from to ∷ []) result → Tests (conversion_checks n to v) result
conversion_tests n to v from result is way room tests =
    tests_back (way_checks n to v ++ linear_checks v) (Contained (get_or v.bases n to) to ∷ []) result (All-append Passes (way_checks n to v) (linear_checks v) way room)
    (subst (λ (old : BasisId). Tests (Contained old to ∷ []) result) is tests)

-- what a list of bases has at a place
pub built_at : (n : ℕ) (targets : List BasisId) (to : BasisId) → AreBuilt targets → n < length targets → to ≡ get_or targets n to → IsTrue (is_built to)
built_at n targets to built lt is = at_component (λ m bs b. AreBuilt bs → IsTrue (is_built b)) (λ before after b h. built-here before after b h) n targets to lt is built

pub limit_at : (n : ℕ) (targets : List BasisId) (to : BasisId) (d : ℕ) → d ≤ least_limit targets → n < length targets → to ≡ get_or targets n to → d ≤ limit_of (algebra_of to)
limit_at n targets to d le lt is =
    at_component (λ m bs b. d ≤ least_limit bs → d ≤ limit_of (algebra_of b)) (λ before after b h. (within-back d before (b ∷ after) (within_each d (before ++ b ∷ after) h)).0) n targets to lt is le

-- the list from a place on: the basis there, and what is left behind it
pub drop-at : (n : ℕ) (bases : List BasisId) (d : BasisId) → n < length bases → drop n bases ≡ get_or bases n d ∷ drop (n + 1) bases
drop-at n [] d within = absurd (omega (arith, within))
drop-at zero (basis ∷ bases) d within = refl
drop-at (suc n) (basis ∷ bases) d within =
    let next : suc n + 1 ≡ suc (n + 1) = omega arith in
    drop-at n bases d (omega (arith, within)) ∙ ap (λ m. get_or bases n d ∷ drop m (basis ∷ bases)) (sym next)

-- behind the last place nothing is left
pub drop-behind : (n : ℕ) (bases : List BasisId) → length bases ≤ n → drop n bases ≡ []
drop-behind zero [] le = refl
drop-behind (suc n) [] le = refl
drop-behind zero (b ∷ bases) le = absurd (omega (arith, le))
drop-behind (suc n) (b ∷ bases) le = drop-behind n bases (omega (arith, le))

-- a component that is brought to a basis
module _ (n : ℕ) (new : BasisId) (v w : Expansion) (is : IsValue v) (here : n < length v.bases) (step : ConvertsAt n new v (Ok w)) where
  -- takes the place of the old one
  brought_bases : w.bases ≡ replaced n (new ∷ []) v.bases
  brought_bases =
      let h = has_at n v.bases here in
      let expands = brought_expands (linear_checks v) n new v w h.before h.after h.basis is h.is h.long step in
      expands.over ∙ sym (ap (λ bs. replaced n (new ∷ []) bs) h.is ∙ replaced-at n h.before (new ∷ []) h.after h.basis h.long)

  -- so the bases lie in the targets as before
  pub brought_inside : (targets : List BasisId) → LieIn v.bases targets → n < length targets → new ≡ get_or targets n new → LieIn w.bases targets
  brought_inside targets lie within at = subst (λ bs. LieIn bs targets) (sym brought_bases) (lies_replaced n v.bases targets new lie within at)

  -- and the degree is no greater
  pub brought_degree : IsTrue (lies_in (algebra_of (get_or v.bases n new)) (algebra_of new)) → IsTrue (is_built new) → degree_of_value v ≤ limit_of (algebra_of new) → degree_of_value w ≤ degree_of_value v
  brought_degree inside built small =
      let h = has_at n v.bases here in
      let old : get_or v.bases n new ≡ h.basis = ap (λ bs. get_or bs n new) h.is ∙ get_or-at n h.before h.after h.basis new h.long in
      let some = converts_at_some n new v h.before h.after h.basis is h.is h.long built (subst (λ (b : BasisId). IsTrue (lies_in (algebra_of b) (algebra_of new))) old inside) small in
      some.holds w (brought_once (linear_checks v) n new v is some.answer (told w) some.allowed step)

-- the conversions that are left, once one more component was converted
pub converts_one_more : (targets : List BasisId) (n : ℕ) (new : BasisId) (v w : Expansion) → n < length targets → new ≡ get_or targets n new → ConvertsAt n new v (Ok w)
    → (answer : Answer) → ConvertsFrom (n + 1) (drop (n + 1) targets) w answer → ConvertsFrom n (drop n targets) v answer
converts_one_more targets n new v w within is step answer later =
    subst (λ news. ConvertsFrom n news v answer) (sym (drop-at n targets new within ∙ ap (λ basis. basis ∷ drop (n + 1) targets) (sym is))) (inl (w, step, later))

-- a conversion that is refused
pub converts_refused : (targets : List BasisId) (n : ℕ) (new : BasisId) (v : Expansion) (r : Refusal) → n < length targets → new ≡ get_or targets n new
    → ConvertsAt n new v (Err r) → ConvertsFrom n (drop n targets) v (Err r)
converts_refused targets n new v r within is step =
    subst (λ news. ConvertsFrom n news v (Err r)) (sym (drop-at n targets new within ∙ ap (λ basis. basis ∷ drop (n + 1) targets) (sym is))) (inr (r, step, refl))

-- so what is left of a row answers what it does, where a conversion is refused
pub converts_ends : (targets : List BasisId) (n : ℕ) (new : BasisId) (Whole : Row) (now : Expansion) (r : Refusal) → n < length targets → new ≡ get_or targets n new
    → ((answer : Answer) → ConvertsFrom n (drop n targets) now answer → Whole answer) → OrMemory (ConvertsAt n new now) (Err r) → OrMemory Whole (Err r)
converts_ends targets n new Whole now r within is left (inl memory) = inl memory
converts_ends targets n new Whole now r within is left (inr step) = inr (left (Err r) (converts_refused targets n new now r within is step))

-- the components before a place have their bases already
stay : (n k : ℕ) (news : List BasisId) (v : Expansion) (answer : Answer) → n ≤ length news → ((i : ℕ) → i < n → (d : BasisId) → get_or v.bases (k + i) d ≡ get_or news i d)
    → ConvertsFrom (k + n) (drop n news) v answer → ConvertsFrom k news v answer
stay zero k news v answer le same row = let none : k + 0 ≡ k = omega arith in subst (λ m. ConvertsFrom m news v answer) none row
stay (suc n) k [] v answer le same row = absurd (omega (arith, le))
stay (suc n) k (new ∷ news) v answer le same row =
    let first : get_or v.bases k new ≡ new = ap (λ m. get_or v.bases m new) (no_more k) ∙ same 0 (omega arith) new in
    let next : k + suc n ≡ (k + 1) + n = omega arith in
    inl (
      v,
      inl (first, refl),
      stay n (k + 1) news v answer (omega (arith, le)) (λ i lt d. ap (λ m. get_or v.bases m d) (one_more k i) ∙ same (suc i) (omega (arith, lt)) d)
          (subst (λ m. ConvertsFrom m (drop n news) v answer) next row),
    )
  where
    no_more : (k : ℕ) → k ≡ k + 0
    no_more k = omega arith

    one_more : (k i : ℕ) → (k + 1) + i ≡ k + suc i
    one_more k i = omega arith

pub first_stay : (n : ℕ) (targets : List BasisId) (v : Expansion) (answer : Answer) → n ≤ length targets → AreSameTo n v.bases targets
    → ConvertsFrom n (drop n targets) v answer → Converts targets v answer
first_stay n targets v answer le same row =
    let from : 0 + n ≡ n = omega arith in
    stay n 0 targets v answer le (λ i lt d. let at : 0 + i ≡ i = omega arith in ap (λ m. get_or v.bases m d) at ∙ same i lt d) (subst (λ m. ConvertsFrom m (drop n targets) v answer) (sym from) row)

-- one component more is the same
pub same_more : (n : ℕ) (a b : List BasisId) (left right : BasisId) → n < length a → n < length b → left ≡ get_or a n left → right ≡ get_or b n right → left ≡ right → AreSameTo n a b → AreSameTo (n + 1) a b
same_more n a b left right la lb is_left is_right same before i lt d = elim (cases_eq i n) [
  | inl at ↦ subst (λ m. get_or a m d ≡ get_or b m d) (sym at) here
  | inr other ↦ before i (omega (arith, lt, other)) d
]
  where
    here : get_or a n d ≡ get_or b n d
    here = get_or_default a n d left la ∙ sym is_left ∙ same ∙ is_right ∙ get_or_default b n right d lb

-- a change of a component that has another basis
pub changed_step : (n : ℕ) (to : BasisId) (v : Expansion) (answer : Answer) → get_or v.bases n to ≢ to
    → OrMemory (Checked (linear_checks v) (Answers (replaced n (to ∷ []) v.bases) (reading_of v))) answer → OrMemory (ConvertsAt n to v) answer
changed_step n to v answer other (inl memory) = inl memory
changed_step n to v answer other (inr row) = inr (inr (other, row))

-- what is left of a row behind a component that was brought to its basis
pub converts_behind : (targets : List BasisId) (n m : ℕ) (new : BasisId) (v w : Expansion) (answer : Answer) → m ≡ n + 1 → n < length targets → new ≡ get_or targets n new → ConvertsAt n new v (Ok w)
    → OrMemory (ConvertsFrom m (drop m targets) w) answer → OrMemory (ConvertsFrom n (drop n targets) v) answer
converts_behind targets n m new v w answer next within is step (inl memory) = inl memory
converts_behind targets n m new v w answer next within is step (inr later) =
    inr (converts_one_more targets n new v w within is step answer (subst (λ k. ConvertsFrom k (drop k targets) w answer) next later))

-- and behind the components that have their bases
pub converts_behind_same : (targets : List BasisId) (n m : ℕ) (v : Expansion) (answer : Answer) → m ≡ n → n ≤ length targets → AreSameTo n v.bases targets
    → OrMemory (ConvertsFrom m (drop m targets) v) answer → OrMemory (Converts targets v) answer
converts_behind_same targets n m v answer at le same (inl memory) = inl memory
converts_behind_same targets n m v answer at le same (inr row) = inr (first_stay n targets v answer le same (subst (λ k. ConvertsFrom k (drop k targets) v answer) at row))

-- a value over the bases stays as it is
pub converts_none : (targets : List BasisId) (n : ℕ) (v : Expansion) → n ≡ length targets → AreSameTo n v.bases targets → Converts targets v (Ok v)
converts_none targets n v all same =
    first_stay n targets v (Ok v) (omega (arith, all)) same (subst (λ news. ConvertsFrom n news v (Ok v)) (sym (drop-behind n targets (omega (arith, all)))) refl)

-- a conversion that is asked for, of a component that is there and has another basis
pub conversion_asked : (at : Place) (to : BasisId) (v : Expansion) (n rank : ℕ) (answer : Answer) → position_of at ≡ n → rank ≡ length v.bases → All Passes (component_checks at rank) → get_or v.bases n to ≢ to
    → OrMemory (Checked (conversion_checks n to v) (Answers (replaced n (to ∷ []) v.bases) (reading_of v))) answer → OrMemory (ConversionRow at to v) answer
conversion_asked at to v n rank answer place long pass other (inl memory) = inl memory
conversion_asked at to v n rank answer place long pass other (inr row) =
    let brought : BroughtTo (conversion_checks n to v) n to v answer = inr (other, row) in
    inr (inl (subst (λ m. All Passes (component_checks at m)) long pass, subst (λ m. BroughtTo (conversion_checks m to v) m to v answer) (sym place) brought))

-- and of one that has the basis already
pub conversion_of_same : (at : Place) (to : BasisId) (v : Expansion) (n rank : ℕ) (answer : Answer) → position_of at ≡ n → rank ≡ length v.bases → All Passes (component_checks at rank) → get_or v.bases n to ≡ to
    → OrMemory (λ a. a ≡ Ok v) answer → OrMemory (ConversionRow at to v) answer
conversion_of_same at to v n rank answer place long pass same (inl memory) = inl memory
conversion_of_same at to v n rank answer place long pass same (inr is) =
    let brought : BroughtTo (conversion_checks n to v) n to v answer = inl (same, is) in
    inr (inl (subst (λ m. All Passes (component_checks at m)) long pass, subst (λ m. BroughtTo (conversion_checks m to v) m to v answer) (sym place) brought))
