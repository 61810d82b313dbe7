-- No row refuses for want of memory.
use Rattle.std.proofs.Common.{◌≡◌, ◌≢◌, ℕ, ◌+◌, ◌*◌, inl, inr, Bool, true, false, List, [], ◌∷◌, ◌++◌, length, Err, sym, ◌∙◌}
use Rattle.std.specs.Prelude.{max, unwrap_or}
use Rattle.realisations.specs.Readings.{Reading, applied, coproduct, antipode, counit, mult, commute, product, tensor}
use Rattle.basis_names.specs.declared.bases.BasisId.{BasisId}
use Rattle.basis_names.specs.declared.bases.BasisId.TheVariants.{QsymM}
use Rattle.session_tokens.specs.declared.lexeme.Linear.{Linear}
use Rattle.session_tokens.specs.declared.lexeme.Linear.TheVariants.{Coproduct, Antipode, Counit, Mult, Commute}
use Rattle.hopf_laws.specs.Bases.{least_limit}
use Rattle.hopf_laws.specs.Values.{Expansion, reading_of, degree_of_value}
use Rattle.basis_routes.specs.declared.checks.Check.{Check}
use Rattle.basis_routes.specs.declared.checks.Check.TheVariants.{SameRank, RankWithin, HasComponent, Scalar, Nonzero, Joined, Routed, Contained, DegreeWithin, Room}
use Rattle.basis_routes.specs.declared.place.Place.{Place}
use Rattle.basis_routes.specs.declared.refusal.Refusal.{Refusal}
use Rattle.basis_routes.specs.declared.refusal.Refusal.TheVariants.{Memory}
use Rattle.basis_routes.specs.Checks.{refusal_of, IsFirstFailing}
use Rattle.basis_routes.specs.Conversions.{linear_checks, BroughtTo, ConvertsAt, ConvertsFrom, Converts, BothConvert, conversion_checks, ConversionRow}
use Rattle.basis_routes.specs.JoinTable.{join_of}
use Rattle.basis_routes.specs.Joins.{joined}
use Rattle.basis_routes.specs.Lists.{replaced, doubled, without}
use Rattle.basis_routes.specs.Places.{position_of, component_checks, doubling_checks, neighbour_checks}
use Rattle.basis_routes.specs.Rows.{Row, Checked, Then, Answers}
use Rattle.hopf_ops.specs.declared.operator.Operator.{Operator}
use Rattle.hopf_ops.specs.declared.operator.Operator.TheVariants.{Plus, Minus, Hash, Times, Over}
use Rattle.hopf_ops.specs.Operations.{common_checks, sum_room, SumOver, SumRow, NegationRow, has_scalar, product_room, ProductOver, ProductBy, tensor_checks, quotient_checks, RowOf, NeighbourProduct, MultAt, CommuteAt, BothBrought, ComparedRow}
use Rattle.hopf_ops.specs.ReadingOperations.{negative, sum_or_difference, quotient}
use Rattle.session_evaluation.specs.Functions.{LinearRow}

-- want of memory is no refusal of a row
abbrev pub Tells : Row → Type 0
Tells Allowed = (r : Refusal) → Allowed (Err r) → r ≢ Memory

check_told : (check : Check) → refusal_of check ≡ Memory → ⊥
check_told (SameRank left right) is = absurd (cc)
check_told (RankWithin rank) is = absurd (cc)
check_told (HasComponent component count) is = absurd (cc)
check_told (Scalar rank) is = absurd (cc)
check_told (Nonzero num) is = absurd (cc)
check_told (Joined left right) is = absurd (cc)
check_told (Routed from to) is = absurd (cc)
check_told (Contained from to) is = absurd (cc)
check_told (DegreeWithin degree limit) is = absurd (cc)
check_told (Room need) is = absurd (cc)

-- no check fails for want of memory
failing_told : (checks : List Check) (r : Refusal) → IsFirstFailing checks r → r ≢ Memory
failing_told [] r first is = first
failing_told (check ∷ checks) r (inl (told, broken)) is = check_told check (sym told ∙ is)
failing_told (check ∷ checks) r (inr (passes, later)) is = failing_told checks r later is

-- so checks do not, where what follows them does not
checked_tells : (checks : List Check) (Rest : Row) → Tells Rest → Tells (Checked checks Rest)
checked_tells checks Rest rest r (inl (pass, h)) memory = rest r h memory
checked_tells checks Rest rest r (inr (q, first, is)) memory = let same : r ≡ q = cc in failing_told checks q first (sym same ∙ memory)

-- nor does a step, where it and what follows it do not
then_tells : (Step : Row) (Rest : Expansion → Row) → Tells Step → ((v : Expansion) → Tells (Rest v)) → Tells (Then Step Rest)
then_tells Step Rest step rest r (inl (v, h, later)) memory = rest v r later memory
then_tells Step Rest step rest r (inr (q, h, is)) memory = let same : r ≡ q = cc in step q h (sym same ∙ memory)

-- nor does an answer, which is a value
answers_tell : (bases : List BasisId) (reading : Reading) → Tells (Answers bases reading)
answers_tell bases reading r (v, expands, is) memory = absurd (cc)

-- checks, and then an answer
answered_tells : (checks : List Check) (bases : List BasisId) (reading : Reading) → Tells (Checked checks (Answers bases reading))
answered_tells checks bases reading = checked_tells checks (Answers bases reading) (answers_tell bases reading)

-- Conversions.

brought_tells : (checks : List Check) (n : ℕ) (new : BasisId) (v : Expansion) → Tells (BroughtTo checks n new v)
brought_tells checks n new v r (inl (same, is)) memory = absurd (cc)
brought_tells checks n new v r (inr (other, h)) memory = answered_tells checks (replaced n (new ∷ []) v.bases) (reading_of v) r h memory

converting_tells : (n : ℕ) (news : List BasisId) (v : Expansion) → Tells (ConvertsFrom n news v)
converting_tells n [] v r is memory = absurd (cc)
converting_tells n (new ∷ news) v r h memory =
    then_tells (ConvertsAt n new v) (ConvertsFrom (n + 1) news) (brought_tells (linear_checks v) n new v) (λ w. converting_tells (n + 1) news w) r h memory

both_tell : (targets : List BasisId) (a b : Expansion) (Rest : Expansion → Expansion → Row) → ((x y : Expansion) → Tells (Rest x y)) → Tells (BothConvert targets a b Rest)
both_tell targets a b Rest rest =
    then_tells (Converts targets a) (λ x. Then (Converts targets b) (Rest x)) (converting_tells 0 targets a)
    (λ x. then_tells (Converts targets b) (Rest x) (converting_tells 0 targets b) (rest x))

pub conversion_tells : (at : Place) (new : BasisId) (v : Expansion) → Tells (ConversionRow at new v)
conversion_tells at new v =
    checked_tells (component_checks at (length v.bases)) (BroughtTo (conversion_checks (position_of at) new v) (position_of at) new v) (brought_tells (conversion_checks (position_of at) new v) (position_of at) new v)

-- Operations on two values.

sum_over_tells : (minus : Bool) (targets : List BasisId) (a b : Expansion) → Tells (SumOver minus targets a b)
sum_over_tells minus targets a b r (inl (x, converts, inl (y, converts', (m, least, h)))) memory =
    answered_tells (sum_room m x y) targets (sum_or_difference minus (reading_of a) (reading_of b)) r h memory
sum_over_tells minus targets a b r (inl (x, converts, inr (q, h, is))) memory = let same : r ≡ q = cc in converting_tells 0 targets b q h (sym same ∙ memory)
sum_over_tells minus targets a b r (inr (q, h, is)) memory = let same : r ≡ q = cc in converting_tells 0 targets a q h (sym same ∙ memory)

sum_tells : (minus : Bool) (a b : Expansion) → Tells (SumRow minus a b)
sum_tells minus a b =
    checked_tells (common_checks (max (degree_of_value a) (degree_of_value b)) a b) (SumOver minus (joined a.bases b.bases) a b) (sum_over_tells minus (joined a.bases b.bases) a b)

product_over_tells : (targets : List BasisId) (a b : Expansion) → Tells (ProductOver targets a b)
product_over_tells targets a b =
    both_tell targets a b (λ x y. Checked (product_room (5 * (degree_of_value x + degree_of_value y)) x y) (Answers targets (product (reading_of a) (reading_of b))))
    (λ x y. answered_tells (product_room (5 * (degree_of_value x + degree_of_value y)) x y) targets (product (reading_of a) (reading_of b)))

product_tells : (scalar : Bool) (a b : Expansion) → Tells (ProductBy scalar a b)
product_tells true a b = answered_tells (product_room 0 a b) (a.bases ++ b.bases) (tensor (reading_of a) (reading_of b))
product_tells false a b =
    checked_tells (common_checks (degree_of_value a + degree_of_value b) a b) (ProductOver (joined a.bases b.bases) a b) (product_over_tells (joined a.bases b.bases) a b)

pub operator_tells : (o : Operator) (a b : Expansion) → Tells (RowOf o a b)
operator_tells Plus a b = sum_tells false a b
operator_tells Minus a b = sum_tells true a b
operator_tells Hash a b = answered_tells (tensor_checks a b) (a.bases ++ b.bases) (tensor (reading_of a) (reading_of b))
operator_tells Times a b = product_tells (has_scalar a b) a b
operator_tells Over a b = answered_tells (quotient_checks a b) a.bases (quotient (reading_of a) (reading_of b))

-- an equality is refused as its operands are brought to their joins
pub compared_tells : (a b : Expansion) → Tells (ComparedRow a b)
compared_tells a b =
    let targets = joined a.bases b.bases in
    checked_tells (common_checks (max (degree_of_value a) (degree_of_value b)) a b) (BothBrought targets a b)
    (then_tells (Converts targets a) (λ x. Converts targets b) (converting_tells 0 targets a) (λ x. converting_tells 0 targets b))

pub negation_tells : (a : Expansion) → Tells (NegationRow a)
negation_tells a = answers_tell a.bases (negative (reading_of a))

-- Functions on a component.

neighbours_tell : (before after : List BasisId) (join : BasisId) (a : Expansion) → Tells (NeighbourProduct before after join a)
neighbours_tell before after join a =
    then_tells (ConvertsAt (length before) join a)
    (λ x. Then (ConvertsAt (length before + 1) join x) (λ y. Checked (linear_checks y) (Answers (before ++ join ∷ after) (applied mult (length before) (reading_of a)))))
    (brought_tells (linear_checks a) (length before) join a)
    (λ x. then_tells (ConvertsAt (length before + 1) join x) (λ y. Checked (linear_checks y) (Answers (before ++ join ∷ after) (applied mult (length before) (reading_of a))))
    (brought_tells (linear_checks x) (length before + 1) join x)
    (λ y. answered_tells (linear_checks y) (before ++ join ∷ after) (applied mult (length before) (reading_of a))))

mult_at_tells : (n : ℕ) (a : Expansion) → Tells (MultAt n a)
mult_at_tells n a r (before, left, right, after, bases, place, h) memory =
    let join = unwrap_or (join_of left right) left in
    checked_tells (Joined left right ∷ DegreeWithin (degree_of_value a) (least_limit (before ++ join ∷ after)) ∷ []) (NeighbourProduct before after join a)
    (neighbours_tell before after join a) r h memory

commute_at_tells : (n : ℕ) (a : Expansion) → Tells (CommuteAt n a)
commute_at_tells n a r (inl (same, is)) memory = absurd (cc)
commute_at_tells n a r (inr (other, h)) memory = answered_tells (linear_checks a) (replaced n (QsymM ∷ []) a.bases) (applied commute n (reading_of a)) r h memory

pub function_tells : (map : Linear) (at : Place) (a : Expansion) → Tells (LinearRow map at a)
function_tells Coproduct at a =
    answered_tells (doubling_checks at (length a.bases) ++ linear_checks a) (doubled (position_of at) a.bases) (applied coproduct (position_of at) (reading_of a))
function_tells Antipode at a =
    answered_tells (component_checks at (length a.bases) ++ linear_checks a) a.bases (applied antipode (position_of at) (reading_of a))
function_tells Counit at a = answered_tells (component_checks at (length a.bases)) (without (position_of at) a.bases) (applied counit (position_of at) (reading_of a))
function_tells Mult at a = checked_tells (neighbour_checks at (length a.bases)) (MultAt (position_of at) a) (mult_at_tells (position_of at) a)
function_tells Commute at a = checked_tells (component_checks at (length a.bases)) (CommuteAt (position_of at) a) (commute_at_tells (position_of at) a)
