-- The operations on values: for each its row, which says what it checks, which operands it converts, in order, and what it answers. What its answer reads as is in `ReadingOperations`.
use Rattle.std.specs.Prelude.{◌≡◌, ◌≢◌, ◌⊎◌, ◌↔◌, ℕ, zero, suc, ◌+◌, ◌*◌, max, ◌||◌, if◌then◌else◌, Bool, true, false, IsTrue, List, [], ◌∷◌, ◌++◌, length, map, unsigned_abs, get_or, unwrap_or, Result, Ok, Err}
use Rattle.hopf_num.specs.Divisors.{IsLcm}
use Rattle.hopf_num.specs.Room.{product_rule, sum_rule}
use Rattle.realisations.specs.Combinations.{norm_of}
use Rattle.realisations.specs.Bases.{kind_of}
use Rattle.realisations.specs.Points.{ArePoints, Points}
use Rattle.realisations.specs.Readings.{applied, antipode as of_antipode, commute as of_commute, coproduct as of_coproduct, counit as of_counit, mult as of_mult, product, tensor, AgreeAt}
use Rattle.basis_names.specs.declared.bases.BasisId.{BasisId}
use Rattle.basis_names.specs.declared.bases.BasisId.TheVariants.{QsymM}
use Rattle.hopf_laws.specs.Bases.{least_limit}
use Rattle.hopf_laws.specs.Values.{Expansion, reading_of, ratio_of, degree_of_value}
use Rattle.basis_routes.specs.declared.checks.Check.{Check}
use Rattle.basis_routes.specs.declared.checks.Check.TheVariants.{SameRank, RankWithin, Scalar, Nonzero, Joined, DegreeWithin}
use Rattle.basis_routes.specs.declared.place.Place.{Place}
use Rattle.basis_routes.specs.declared.refusal.Refusal.{Refusal}
use Rattle.basis_routes.specs.Checks.{room_checks}
use Rattle.basis_routes.specs.Conversions.{linear_checks, Converts, ConvertsAt, BothConvert}
use Rattle.basis_routes.specs.JoinTable.{join_of}
use Rattle.basis_routes.specs.Joins.{joined, join_checks}
use Rattle.basis_routes.specs.Lists.{doubled, replaced, without}
use Rattle.basis_routes.specs.Places.{position_of, component_checks, doubling_checks, neighbour_checks}
use Rattle.basis_routes.specs.Rows.{Row, Checked, Then, Answers}
use Rattle.hopf_ops.specs.declared.operator.Operator.{Operator}
use Rattle.hopf_ops.specs.declared.operator.Operator.TheVariants.{Plus, Minus, Hash, Times, Over}
use Rattle.hopf_ops.specs.ReadingOperations.{is_scalar, negative, sum_or_difference, quotient}

-- that two values have one rank, that each two components have a join, and that the degree of the result is within the least limit of the joins
abbrev pub common_checks : ℕ → Expansion → Expansion → List Check
common_checks degree a b =
    SameRank (length a.bases) (length b.bases)
    ∷ join_checks a.bases b.bases
    ++ DegreeWithin degree (least_limit (joined a.bases b.bases)) ∷ []

-- Sums and differences.

-- the sum rule of two values, where m is the least common multiple of their denominators
abbrev pub sum_room : ℕ → Expansion → Expansion → List Check
sum_room m x y = room_checks (sum_rule m x.combination.den y.combination.den (norm_of x.combination.terms) (norm_of y.combination.terms))

-- both operands are converted to these bases, and what they came to is tested by the sum rule; the answer is the sum or the difference of the operands
abbrev pub SumOver : Bool → List BasisId → Expansion → Expansion → Row
SumOver minus targets a b = BothConvert targets a b (λ x y answer.
    (m : ℕ) × IsLcm x.combination.den y.combination.den m × Checked (sum_room m x y) (Answers targets (sum_or_difference minus (reading_of a) (reading_of b))) answer)

-- a sum or a difference: Rank, Mixed and Degree; the conversions; the sum rule
abbrev pub SumRow : Bool → Expansion → Expansion → Row
SumRow minus a b = Checked (common_checks (max (degree_of_value a) (degree_of_value b)) a b) (SumOver minus (joined a.bases b.bases) a b)

-- Equality.

-- both operands are converted to these bases, the first one and then the second, to which it comes
abbrev pub BothBrought : List BasisId → Expansion → Expansion → Row
BothBrought targets a b = Then (Converts targets a) (λ x. Converts targets b)

-- two values agree, as their readings do, at all tuples of points of the kinds of these bases
abbrev pub AgreeOver : List BasisId → Expansion → Expansion → Type 0
AgreeOver bases a b = (ps : Points) → ArePoints (map kind_of bases) ps → AgreeAt (reading_of a) (reading_of b) ps

-- whether two values agree, once a row brought them to these bases: true exactly where they do; or the refusal of the row
abbrev pub EqualAfter : Row → List BasisId → Expansion → Expansion → Result Bool Refusal → Type 0
EqualAfter Brings targets a b (Ok same) = ((y : Expansion) × Brings (Ok y)) × (IsTrue same ↔ AgreeOver targets a b)
EqualAfter Brings targets a b (Err refusal) = Brings (Err refusal)

-- what is done before two values are compared: Rank, Mixed and Degree, as for a sum; the conversions
abbrev pub ComparedRow : Expansion → Expansion → Row
ComparedRow a b = Checked (common_checks (max (degree_of_value a) (degree_of_value b)) a b) (BothBrought (joined a.bases b.bases) a b)

-- an equality: that, and then whether they agree, whatever bases they were over; there is no rule of sums
abbrev pub EqualRow : Expansion → Expansion → Result Bool Refusal → Type 0
EqualRow a b = EqualAfter (ComparedRow a b) (joined a.bases b.bases) a b

-- Negation.

-- the value with the other sign
abbrev pub NegationRow : Expansion → Row
NegationRow a = Answers a.bases (negative (reading_of a))

-- Products and quotients.

-- one of two values is a scalar
abbrev pub has_scalar : Expansion → Expansion → Bool
has_scalar a b = is_scalar (reading_of a) || is_scalar (reading_of b)

-- a rule of room of the product of two values, whose norm may grow by 2^shift
abbrev pub product_room : ℕ → Expansion → Expansion → List Check
product_room shift a b =
    room_checks (product_rule a.combination.den b.combination.den (norm_of a.combination.terms) (norm_of b.combination.terms) shift)

-- both operands are converted to these bases, and what they came to is tested by the product rule; the answer is the product of the operands, component by component
abbrev pub ProductOver : List BasisId → Expansion → Expansion → Row
ProductOver targets a b = BothConvert targets a b (λ x y.
    Checked (product_room (5 * (degree_of_value x + degree_of_value y)) x y) (Answers targets (product (reading_of a) (reading_of b))))

-- a product component by component: Rank, Mixed and Degree; the conversions; the product rule
abbrev pub ComponentRow : Expansion → Expansion → Row
ComponentRow a b = Checked (common_checks (degree_of_value a + degree_of_value b) a b) (ProductOver (joined a.bases b.bases) a b)

-- a product, which with a scalar is the tensor product
abbrev pub ProductBy : Bool → Expansion → Expansion → Row
ProductBy true a b = Checked (product_room 0 a b) (Answers (a.bases ++ b.bases) (tensor (reading_of a) (reading_of b)))
ProductBy false a b = ComponentRow a b

abbrev pub ProductRow : Expansion → Expansion → Row
ProductRow a b = ProductBy (has_scalar a b) a b

abbrev pub product_bases : Expansion → Expansion → List BasisId
product_bases a b = if has_scalar a b then a.bases ++ b.bases else joined a.bases b.bases

-- a tensor product: Rank, Degree, the product rule
abbrev pub tensor_checks : Expansion → Expansion → List Check
tensor_checks a b =
    RankWithin (length a.bases + length b.bases)
    ∷ DegreeWithin (degree_of_value a + degree_of_value b) (least_limit (a.bases ++ b.bases))
    ∷ product_room 0 a b

abbrev pub TensorRow : Expansion → Expansion → Row
TensorRow a b = Checked (tensor_checks a b) (Answers (a.bases ++ b.bases) (tensor (reading_of a) (reading_of b)))

-- a quotient by a scalar: NotScalar, ZeroDivisor, the rule of the product with its reciprocal
abbrev pub quotient_checks : Expansion → Expansion → List Check
quotient_checks a b =
    Scalar (length b.bases)
    ∷ Nonzero (ratio_of b).num
    ∷ room_checks (product_rule a.combination.den (unsigned_abs (ratio_of b).num) (norm_of a.combination.terms) b.combination.den 0)

abbrev pub QuotientRow : Expansion → Expansion → Row
QuotientRow a b = Checked (quotient_checks a b) (Answers a.bases (quotient (reading_of a) (reading_of b)))

-- the row of each operator, and the bases of its answer
abbrev pub RowOf : Operator → Expansion → Expansion → Row
RowOf Plus a b = SumRow false a b
RowOf Minus a b = SumRow true a b
RowOf Hash a b = TensorRow a b
RowOf Times a b = ProductRow a b
RowOf Over a b = QuotientRow a b

abbrev pub result_bases : Operator → Expansion → Expansion → List BasisId
result_bases Plus a b = joined a.bases b.bases
result_bases Minus a b = joined a.bases b.bases
result_bases Hash a b = a.bases ++ b.bases
result_bases Times a b = product_bases a b
result_bases Over a b = a.bases

-- Operations on components.

-- the coproduct of a component, whose parts take its place: Rank, Component, the linear rule
abbrev pub CoproductRow : Place → Expansion → Row
CoproductRow at a =
    Checked (doubling_checks at (length a.bases) ++ linear_checks a)
    (Answers (doubled (position_of at) a.bases) (applied of_coproduct (position_of at) (reading_of a)))

-- the counit of a component, which goes away: Rank, Component
abbrev pub CounitRow : Place → Expansion → Row
CounitRow at a =
    Checked (component_checks at (length a.bases))
    (Answers (without (position_of at) a.bases) (applied of_counit (position_of at) (reading_of a)))

-- the antipode of a component, over the same bases: Rank, Component, the linear rule
abbrev pub AntipodeRow : Place → Expansion → Row
AntipodeRow at a =
    Checked (component_checks at (length a.bases) ++ linear_checks a)
    (Answers a.bases (applied of_antipode (position_of at) (reading_of a)))

-- the commuting image of component n, counted from 0: where it is over QSym.M already, the value stays as it is, and nothing is tested; else the image is over QSym.M, after the linear rule
abbrev pub CommuteAt : ℕ → Expansion → Row
CommuteAt n a answer =
    ((get_or a.bases n QsymM ≡ QsymM) × (answer ≡ Ok a))
    ⊎ ((get_or a.bases n QsymM ≢ QsymM) × Checked (linear_checks a) (Answers (replaced n (QsymM ∷ []) a.bases) (applied of_commute n (reading_of a))) answer)

-- the commuting image of a component: Rank, Component, and then that
abbrev pub CommuteRow : Place → Expansion → Row
CommuteRow at a = Checked (component_checks at (length a.bases)) (CommuteAt (position_of at) a)

-- the product of two neighbours over bases with a join: both are converted to it, the first before the second; the linear rule of what they came to
abbrev pub NeighbourProduct : List BasisId → List BasisId → BasisId → Expansion → Row
NeighbourProduct before after join a =
    Then (ConvertsAt (length before) join a) (λ x. Then (ConvertsAt (length before + 1) join x) (λ y.
    Checked (linear_checks y) (Answers (before ++ join ∷ after) (applied of_mult (length before) (reading_of a)))))

-- the product of component n, counted from 0, and the next one: Mixed, Degree, and then the same
abbrev pub MultAt : ℕ → Expansion → Row
MultAt n a answer =
    (before : List BasisId) × (left : BasisId) × (right : BasisId) × (after : List BasisId)
    × (a.bases ≡ before ++ left ∷ right ∷ after) × (length before ≡ n)
    × Checked (Joined left right ∷ DegreeWithin (degree_of_value a) (least_limit (before ++ unwrap_or (join_of left right) left ∷ after)) ∷ [])
    (NeighbourProduct before after (unwrap_or (join_of left right) left) a) answer

-- the product of a component and the next one, which take one place: Rank, Component, and then the same
abbrev pub MultRow : Place → Expansion → Row
MultRow at a = Checked (neighbour_checks at (length a.bases)) (MultAt (position_of at) a)

-- the bases of its answer: the join in the place of component n and the next one
abbrev pub mult_bases : ℕ → List BasisId → List BasisId
mult_bases zero (left ∷ right ∷ bases) = unwrap_or (join_of left right) left ∷ bases
mult_bases (suc n) (basis ∷ bases) = basis ∷ mult_bases n bases
mult_bases _ bases = bases
