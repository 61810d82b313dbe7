-- Values whose combinations are lifts of rules to a component.
use Rattle.std.proofs.Common.{◌≡◌, ℕ, suc, ◌*◌, ◌^◌, ◌<◌, ◌≤◌, List, [], ◌∷◌, ◌++◌, length, refl, sym, ◌∙◌, ap, subst, arith}
use Rattle.std.specs.Prelude.{All}
use Rattle.std.proofs.Math.Nat.{mul-le-mul_left}
use Rattle.std.proofs.Math.Pow.{pow_mono}
use Rattle.std.proofs.lemmas.List.{length-append}
use Rattle.std.proofs.lemmas.List.Elements.{All-head}
use Rattle.basis_names.specs.declared.bases.BasisId.{BasisId}
use Rattle.change_laws.specs.Lifts.{code_at, TakesOne, points_of}
use Rattle.change_laws.proofs.LiftedKeys.{parts_of_key}
use Rattle.hopf_num.specs.declared.room.Need.TheVariants.{Linear}
use Rattle.hopf_num.specs.Room.{HasRoom}
use Rattle.hopf_laws.specs.Bases.{AreBuilt, least_limit}
use Rattle.hopf_laws.specs.Values.{Expansion, IsValue, Expands, reading_of, degree_of_value, greatest_degree}
use Rattle.index_rules.specs.Changes.{change_facts, operation_facts}
use Rattle.index_rules.specs.Lifts.{CanLift, IsLift}
use Rattle.index_rules.specs.Rules.{RuleFacts, greatest_of}
use Rattle.index_rules.proofs.LiftsRead.{change_reads, operation_reads, lifted_indices}
use Rattle.realisations.specs.Bases.{kind_of}
use Rattle.realisations.specs.Codes.{Key}
use Rattle.realisations.specs.Combinations.{Combination, HasKey, norm_of}
use Rattle.realisations.specs.Indices.{degree_of, total_degree}
use Rattle.realisations.specs.Points.{Kind, Points, Point, IsPoint, ArePoints}
use Rattle.realisations.specs.Readings.{Terms, Operation, leaf, applied, AgreeAt}
use Rattle.basis_routes.specs.declared.checks.Check.TheVariants.{Room}
use Rattle.basis_routes.specs.Checks.{Passes}
use Rattle.basis_routes.specs.Conversions.{linear_checks}
use Rattle.basis_routes.proofs.BasesAround.{built-around, points_around}
use Rattle.basis_routes.proofs.Degrees.{degree-le-greatest}

-- a combination over bases
abbrev pub over : List BasisId → Combination → Expansion
over bases c = record { bases = bases; combination = c }

-- what all keys are within, the greatest is
pub greatest-within : (degree : Key → ℕ) (n : ℕ) (ts : Terms) → ((key : Key) → HasKey ts key → degree key ≤ n) → greatest_of degree ts ≤ n
greatest-within degree n [] h = omega arith
greatest-within degree n (t ∷ ts) h =
    let first = h t.1 (0, omega arith, refl) in
    let rest = greatest-within degree n ts (λ key has. h key (suc has.0, omega (arith, has.1), has.2)) in
    omega (arith, first, rest)

-- the same, of the degree of a value
pub value-degree-within : (v : Expansion) (n : ℕ) → ((key : Key) → HasKey v.combination.terms key → total_degree v.bases key ≤ n) → degree_of_value v ≤ n
value-degree-within v n h = each v.combination.terms h
  where
    each : (ts : Terms) → ((key : Key) → HasKey ts key → total_degree v.bases key ≤ n) → greatest_degree v.bases ts ≤ n
    each [] h = omega arith
    each (t ∷ ts) h =
        let first = h t.1 (0, omega arith, refl) in
        let rest = each ts (λ key has. h key (suc has.0, omega (arith, has.1), has.2)) in
        omega (arith, first, rest)

-- the linear rule gives room for answers of smaller degrees
pub linear-room : (v : Expansion) (degree : ℕ) → degree ≤ degree_of_value v → All Passes (linear_checks v) → norm_of v.combination.terms * 2 ^ (5 * degree) < 2 ^ 127
linear-room v degree le pass =
    let room : HasRoom (Linear (norm_of v.combination.terms) (5 * degree_of_value v)) = All-head Passes (Room (Linear (norm_of v.combination.terms) (5 * degree_of_value v))) [] pass in
    let power : 2 ^ (5 * degree) ≤ 2 ^ (5 * degree_of_value v) = pow_mono (mul-le-mul_left 5 le) in
    omega (arith, room, mul-le-mul_left (norm_of v.combination.terms) power)

module _ (before after : List BasisId) (facts : RuleFacts) (old : Combination) (is : IsValue (over (before ++ facts.basis ∷ after) old)) where
  -- the degree of the code of a component
  degree-at : (key : Key) → HasKey old.terms key → degree_of facts.basis (code_at (length before) key) ≤ degree_of_value (over (before ++ facts.basis ∷ after) old)
  degree-at key has =
      let parts = parts_of_key before after facts.basis key (is.indices key has) in
      omega (arith, parts.degrees, degree-le-greatest (before ++ facts.basis ∷ after) old.terms key has)

  -- a rule can be lifted to a component of its basis, where the linear rule holds
  pub can_lift : length (before ++ (facts.bases ++ after)) ≤ 3 → degree_of_value (over (before ++ facts.basis ∷ after) old) ≤ facts.most
      → All Passes (linear_checks (over (before ++ facts.basis ∷ after) old)) → CanLift facts (length before) old
  can_lift short most room = record {
    here = omega (arith, is.rank, length-append before (facts.basis ∷ after));
    most = omega (arith, is.rank, short, length-append before (facts.basis ∷ after), length-append before (facts.bases ++ after), length-append facts.bases after);
    indices = λ key has. record {
      index = (parts_of_key before after facts.basis key (is.indices key has)).here;
      degree = omega (arith, degree-at key has, most);
    };
    room = linear-room (over (before ++ facts.basis ∷ after) old) (greatest_of (λ key. degree_of facts.basis (code_at (length before) key)) old.terms)
        (greatest-within (λ key. degree_of facts.basis (code_at (length before) key)) (degree_of_value (over (before ++ facts.basis ∷ after) old)) old.terms degree-at) room;
  }

  -- the lift is a value
  pub lifted_value : (new : Combination) → IsLift facts (length before) old new → length (before ++ (facts.bases ++ after)) ≤ 3 → AreBuilt facts.bases
      → degree_of_value (over (before ++ facts.basis ∷ after) old) ≤ least_limit (before ++ (facts.bases ++ after)) → IsValue (over (before ++ (facts.bases ++ after)) new)
  lifted_value new lifted short built within = record {
    short = short;
    built = built-around before after facts.bases facts.basis is.built built;
    rank = omega (arith, lifted.rank, is.rank, length-append before (facts.basis ∷ after), length-append before (facts.bases ++ after), length-append facts.bases after);
    canonical = lifted.canonical;
    indices = λ key has. (lifted_indices before after facts old new is.indices lifted key has).indices;
    degrees = λ key has.
        let put = lifted_indices before after facts old new is.indices lifted key has in
        omega (arith, put.degrees, degree-le-greatest (before ++ facts.basis ∷ after) old.terms put.key put.has, within);
  }

  -- of no larger degree
  pub lifted_degree : (new : Combination) → IsLift facts (length before) old new → degree_of_value (over (before ++ (facts.bases ++ after)) new) ≤ degree_of_value (over (before ++ facts.basis ∷ after) old)
  lifted_degree new lifted =
      value-degree-within (over (before ++ (facts.bases ++ after)) new) (degree_of_value (over (before ++ facts.basis ∷ after) old))
      (λ key has.
      let put = lifted_indices before after facts old new is.indices lifted key has in
      omega (arith, put.degrees, degree-le-greatest (before ++ facts.basis ∷ after) old.terms put.key put.has))

-- one point
pub record IsOnePoint (kind : Kind) (ps : Points) : Type 0 where
  pub point : Point
  pub is : ps ≡ point ∷ []
  pub of_kind : IsPoint kind point

pub one_point : (kind : Kind) (ps : Points) → ArePoints (kind ∷ []) ps → IsOnePoint kind ps
one_point kind [] h = absurd h
one_point kind (p ∷ []) h = record { point = p; is = refl; of_kind = h.0 }
one_point kind (p ∷ q ∷ ps) h = absurd h.1

-- the lift of what an operation makes of elements is the value that reads as the operation on that component
pub operation_expands : (operation : Operation) → TakesOne operation → (before after bases : List BasisId) (from : BasisId) (most growth : ℕ) (old new : Combination) → length bases ≡ points_of operation
    → IsValue (over (before ++ from ∷ after) old) → IsLift (operation_facts operation from bases most growth) (length before) old new → IsValue (over (before ++ (bases ++ after)) new)
    → Expands (before ++ (bases ++ after)) (applied operation (length before) (reading_of (over (before ++ from ∷ after) old))) (over (before ++ (bases ++ after)) new)
operation_expands operation takes before after bases from most growth old new em is lifted value = record {
  value = value;
  over = refl;
  reads = λ ps points.
      let parts = points_around before bases after ps points in
      subst (λ qs. AgreeAt (leaf (before ++ (bases ++ after)) new.den new.terms) (applied operation (length before) (leaf (before ++ from ∷ after) old.den old.terms)) qs) (sym parts.is)
      (operation_reads operation takes before after bases from most growth old new parts.front parts.here parts.back em parts.long parts.points is.indices lifted);
}

-- the lift of a change is the value that reads as before
pub change_expands : (before after : List BasisId) (from to : BasisId) (most growth : ℕ) (old new : Combination)
    → IsValue (over (before ++ from ∷ after) old) → IsLift (change_facts from to most growth) (length before) old new → IsValue (over (before ++ to ∷ after) new)
    → Expands (before ++ to ∷ after) (reading_of (over (before ++ from ∷ after) old)) (over (before ++ to ∷ after) new)
change_expands before after from to most growth old new is lifted value = record {
  value = value;
  over = refl;
  reads = λ ps points.
      let parts = points_around before (to ∷ []) after ps points in
      let one = one_point (kind_of to) parts.here parts.points in
      subst (λ qs. AgreeAt (leaf (before ++ to ∷ after) new.den new.terms) (leaf (before ++ from ∷ after) old.den old.terms) qs) (sym (parts.is ∙ ap (λ qs. parts.front ++ (qs ++ parts.back)) one.is))
      (change_reads before after from to most growth old new parts.front parts.back one.point parts.long one.of_kind is.indices lifted);
}
