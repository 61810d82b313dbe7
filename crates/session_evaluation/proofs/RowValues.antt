-- What is known where a row allows a value: which checks passed, and what the value reads as.
use Rattle.std.proofs.Common.{◌≡◌, ◌⊎◌, ℕ, ◌+◌, ◌*◌, inl, inr, Bool, true, false, if◌then◌else◌, List, [], ◌∷◌, ◌++◌, All, length, Ok, arith}
use Rattle.std.specs.Prelude.{max, get_or, unwrap_or}
use Rattle.hopf_num.specs.Divisors.{IsLcm}
use Rattle.realisations.specs.Readings.{Reading, applied, coproduct, antipode, counit, mult, commute, product, tensor}
use Rattle.basis_names.specs.declared.bases.BasisId.{BasisId}
use Rattle.basis_names.specs.declared.bases.BasisId.TheVariants.{QsymM}
use Rattle.hopf_laws.specs.Bases.{least_limit}
use Rattle.hopf_laws.specs.Values.{Expansion, Expands, reading_of, degree_of_value}
use Rattle.basis_routes.specs.declared.checks.Check.{Check}
use Rattle.basis_routes.specs.declared.checks.Check.TheVariants.{Joined, DegreeWithin}
use Rattle.basis_routes.specs.declared.place.Place.{Place}
use Rattle.basis_routes.specs.Checks.{Passes}
use Rattle.basis_routes.specs.Conversions.{linear_checks, conversion_checks, ConversionRow}
use Rattle.basis_routes.specs.JoinTable.{join_of}
use Rattle.basis_routes.specs.Joins.{joined}
use Rattle.basis_routes.specs.Lists.{replaced, doubled, without}
use Rattle.basis_routes.specs.Places.{position_of, component_checks, doubling_checks, neighbour_checks}
use Rattle.basis_routes.specs.Rows.{Checked, Answers}
use Rattle.basis_routes.proofs.Rows.{passes_earlier}
use Rattle.basis_routes.proofs.ValueRows.{checked_value, answers_value, both_convert_value}
use Rattle.hopf_ops.specs.declared.operator.Operator.{Operator}
use Rattle.hopf_ops.specs.declared.operator.Operator.TheVariants.{Plus, Minus, Hash, Times, Over}
use Rattle.hopf_ops.specs.Operations.{common_checks, sum_room, SumOver, SumRow, product_room, ProductOver, ComponentRow, ProductBy, has_scalar, tensor_checks, quotient_checks, RowOf, result_bases, CoproductRow, AntipodeRow, CounitRow, NeighbourProduct, MultAt, MultRow, CommuteAt, CommuteRow}
use Rattle.hopf_ops.specs.ReadingOperations.{sum_or_difference, quotient, combined}

-- checks, and then the answer
answered : (checks : List Check) (bases : List BasisId) (reading : Reading) (v : Expansion) → Checked checks (Answers bases reading) (Ok v) → All Passes checks × Expands bases reading v
answered checks bases reading v h = let parts = checked_value checks (Answers bases reading) v h in (parts.0, answers_value bases reading v parts.1)

-- a sum or a difference
pub sum_value : (minus : Bool) (a b v : Expansion) → SumRow minus a b (Ok v)
    → All Passes (common_checks (max (degree_of_value a) (degree_of_value b)) a b) × Expands (joined a.bases b.bases) (sum_or_difference minus (reading_of a) (reading_of b)) v
sum_value minus a b v h =
    let targets = joined a.bases b.bases in
    let outer = checked_value (common_checks (max (degree_of_value a) (degree_of_value b)) a b) (SumOver minus targets a b) v h in
    let (x, y, hx, hy, (m, least, rest)) = both_convert_value targets a b (λ x y answer. (m : ℕ) × IsLcm x.combination.den y.combination.den m × Checked (sum_room m x y) (Answers targets (sum_or_difference minus (reading_of a) (reading_of b))) answer) v outer.1 in
    (outer.0, (answered (sum_room m x y) targets (sum_or_difference minus (reading_of a) (reading_of b)) v rest).1)

-- a product component by component
pub component_value : (a b v : Expansion) → ComponentRow a b (Ok v)
    → All Passes (common_checks (degree_of_value a + degree_of_value b) a b) × Expands (joined a.bases b.bases) (product (reading_of a) (reading_of b)) v
component_value a b v h =
    let targets = joined a.bases b.bases in
    let outer = checked_value (common_checks (degree_of_value a + degree_of_value b) a b) (ProductOver targets a b) v h in
    let (x, y, hx, hy, rest) = both_convert_value targets a b (λ x y. Checked (product_room (5 * (degree_of_value x + degree_of_value y)) x y) (Answers targets (product (reading_of a) (reading_of b)))) v outer.1 in
    (outer.0, (answered (product_room (5 * (degree_of_value x + degree_of_value y)) x y) targets (product (reading_of a) (reading_of b)) v rest).1)

-- a product, by whether one operand is a scalar
pub product_value : (scalar : Bool) (a b v : Expansion) → ProductBy scalar a b (Ok v)
    → Expands (if scalar then a.bases ++ b.bases else joined a.bases b.bases) (if scalar then tensor (reading_of a) (reading_of b) else product (reading_of a) (reading_of b)) v
product_value true a b v h = (answered (product_room 0 a b) (a.bases ++ b.bases) (tensor (reading_of a) (reading_of b)) v h).1
product_value false a b v h = (component_value a b v h).1

-- a tensor product
pub tensor_value : (a b v : Expansion) → RowOf Hash a b (Ok v) → Expands (a.bases ++ b.bases) (tensor (reading_of a) (reading_of b)) v
tensor_value a b v h = (answered (tensor_checks a b) (a.bases ++ b.bases) (tensor (reading_of a) (reading_of b)) v h).1

-- a quotient
pub quotient_value : (a b v : Expansion) → RowOf Over a b (Ok v) → All Passes (quotient_checks a b) × Expands a.bases (quotient (reading_of a) (reading_of b)) v
quotient_value a b v h = answered (quotient_checks a b) a.bases (quotient (reading_of a) (reading_of b)) v h

-- each operation of two values
pub operator_value : (o : Operator) (a b v : Expansion) → RowOf o a b (Ok v) → Expands (result_bases o a b) (combined o (reading_of a) (reading_of b)) v
operator_value Plus a b v h = (sum_value false a b v h).1
operator_value Minus a b v h = (sum_value true a b v h).1
operator_value Hash a b v h = tensor_value a b v h
operator_value Times a b v h = product_value (has_scalar a b) a b v h
operator_value Over a b v h = (quotient_value a b v h).1

-- a conversion of a component that had another basis
pub record IsConverted (at : Place) (to : BasisId) (v w : Expansion) : Type 0 where
  pub there : All Passes (component_checks at (length v.bases))
  pub checks : All Passes (conversion_checks (position_of at) to v)
  pub expands : Expands (replaced (position_of at) (to ∷ []) v.bases) (reading_of v) w

-- a conversion: the value stays, or is converted
pub conversion_value : (at : Place) (to : BasisId) (v w : Expansion) → ConversionRow at to v (Ok w) → (w ≡ v) ⊎ IsConverted at to v w
conversion_value at to v w (inr (refusal, first, is)) = absurd (cc)
conversion_value at to v w (inl (there, inl (same, is))) = inl cc
conversion_value at to v w (inl (there, inr (other, h))) =
    let parts = answered (conversion_checks (position_of at) to v) (replaced (position_of at) (to ∷ []) v.bases) (reading_of v) w h in
    inr (record { there = there; checks = parts.0; expands = parts.1 })

-- the coproduct of a component
pub coproduct_value : (at : Place) (a w : Expansion) → CoproductRow at a (Ok w) → Expands (doubled (position_of at) a.bases) (applied coproduct (position_of at) (reading_of a)) w
coproduct_value at a w h =
    (answered (doubling_checks at (length a.bases) ++ linear_checks a) (doubled (position_of at) a.bases) (applied coproduct (position_of at) (reading_of a)) w h).1

-- the antipode of a component
pub antipode_value : (at : Place) (a w : Expansion) → AntipodeRow at a (Ok w)
    → All Passes (component_checks at (length a.bases)) × Expands a.bases (applied antipode (position_of at) (reading_of a)) w
antipode_value at a w h =
    let there = component_checks at (length a.bases) in
    let parts = answered (there ++ linear_checks a) a.bases (applied antipode (position_of at) (reading_of a)) w h in
    (passes_earlier there (linear_checks a) parts.0, parts.1)

-- the counit of a component
pub counit_value : (at : Place) (a w : Expansion) → CounitRow at a (Ok w) → Expands (without (position_of at) a.bases) (applied counit (position_of at) (reading_of a)) w
counit_value at a w h =
    (answered (component_checks at (length a.bases)) (without (position_of at) a.bases) (applied counit (position_of at) (reading_of a)) w h).1

-- the commuting image of a component: over QSym.M the value stays, and else it has its image there
image_value : (n : ℕ) (a w : Expansion) → CommuteAt n a (Ok w)
    → ((get_or a.bases n QsymM ≡ QsymM) × (w ≡ a)) ⊎ Expands (replaced n (QsymM ∷ []) a.bases) (applied commute n (reading_of a)) w
image_value n a w (inl (same, is)) = inl (same, cc)
image_value n a w (inr (other, h)) = inr (answered (linear_checks a) (replaced n (QsymM ∷ []) a.bases) (applied commute n (reading_of a)) w h).1

pub commute_value : (at : Place) (a w : Expansion) → CommuteRow at a (Ok w)
    → All Passes (component_checks at (length a.bases))
    × (((get_or a.bases (position_of at) QsymM ≡ QsymM) × (w ≡ a)) ⊎ Expands (replaced (position_of at) (QsymM ∷ []) a.bases) (applied commute (position_of at) (reading_of a)) w)
commute_value at a w h =
    let parts = checked_value (component_checks at (length a.bases)) (CommuteAt (position_of at) a) w h in
    (parts.0, image_value (position_of at) a w parts.1)

-- the product of a component and the next one
pub record IsMultiplied (n : ℕ) (a w : Expansion) : Type 0 where
  pub before : List BasisId
  pub left : BasisId
  pub right : BasisId
  pub after : List BasisId
  pub bases : a.bases ≡ before ++ left ∷ right ∷ after
  pub place : length before ≡ n
  pub join : Passes (Joined left right)
  pub expands : Expands (before ++ unwrap_or (join_of left right) left ∷ after) (applied mult (length before) (reading_of a)) w

neighbours_value : (before after : List BasisId) (join : BasisId) (a w : Expansion) → NeighbourProduct before after join a (Ok w) → Expands (before ++ join ∷ after) (applied mult (length before) (reading_of a)) w
neighbours_value before after join a w (inl (x, converts, inl (y, converts', h))) = (answered (linear_checks y) (before ++ join ∷ after) (applied mult (length before) (reading_of a)) w h).1
neighbours_value before after join a w (inl (x, converts, inr (refusal, converts', is))) = absurd (cc)
neighbours_value before after join a w (inr (refusal, converts, is)) = absurd (cc)

at_value : (n : ℕ) (a w : Expansion) → MultAt n a (Ok w) → IsMultiplied n a w
at_value n a w (before, left, right, after, bases, place, h) =
    let join = unwrap_or (join_of left right) left in
    let parts = checked_value (Joined left right ∷ DegreeWithin (degree_of_value a) (least_limit (before ++ join ∷ after)) ∷ []) (NeighbourProduct before after join a) w h in
    record {
      before = before;
      left = left;
      right = right;
      after = after;
      bases = bases;
      place = place;
      join = parts.0 0 (Joined left right) (omega arith);
      expands = neighbours_value before after join a w parts.1;
    }

pub mult_value : (at : Place) (a w : Expansion) → MultRow at a (Ok w) → IsMultiplied (position_of at) a w
mult_value at a w h = at_value (position_of at) a w (checked_value (neighbour_checks at (length a.bases)) (MultAt (position_of at) a) w h).1
