-- The value of an expression reads as the expression means.
use Rattle.std.proofs.Common.{◌≡◌, ◌≢◌, inl, inr, ℕ, zero, suc, ◌+◌, ◌*◌, ◌<◌, ◌≤◌, Bool, true, false, ◌||◌, Ok, Err, List, [], ◌∷◌, ◌++◌, map, length, take, drop, refl, sym, ◌∙◌, ap, subst, arith, unsigned_abs}
use Rattle.std.specs.Prelude.{if◌then◌else◌, nat_eq, max, get_or}
use Rattle.std.specs.List.{All}
use Rattle.std.proofs.Math.IntN.{ℤ, pos, negsuc, ◌*ℤ◌}
use Rattle.std.proofs.Math.Nat.{mul-pos}
use Rattle.std.proofs.lemmas.Int.{ints}
use Rattle.std.proofs.lemmas.List.Elements.{All-tail}
use Rattle.std.proofs.lemmas.List.{map-append}
use Rattle.hopf_num.specs.Fractions.{Ratio, reciprocal}
use Rattle.hopf_num.proofs.Reciprocals.{reciprocal_agrees, ratio_nonzero}
use Rattle.realisations.specs.Points.{Kind, ArePoints}
use Rattle.realisations.specs.Bases.{kind_of}
use Rattle.realisations.specs.Readings.{Reading, Operation, applied as applied_reading, coproduct, antipode, counit, mult, commute, element, product, tensor, sum_of, multiple, kinds_of, kinds_after_at, denominator, AgreeAt}
use Rattle.realisations.proofs.TuplesOfPoints.{points_split}
use Rattle.realisations.specs.Laws.{IsDoubled}
use Rattle.realisations.proofs.Agreement.{agree_trans, sum_agrees, multiple_agrees, tensor_agrees, product_agrees}
use Rattle.basis_names.specs.declared.bases.BasisId.{BasisId}
use Rattle.basis_names.specs.declared.bases.BasisId.TheVariants.{QsymM}
use Rattle.session_tokens.specs.declared.lexeme.Linear.{Linear}
use Rattle.session_tokens.specs.declared.lexeme.Linear.TheVariants.{Coproduct, Antipode, Counit, Mult, Commute}
use Rattle.hopf_laws.specs.Bases.{least_limit}
use Rattle.hopf_laws.specs.Values.{Expansion, Expands, reading_of, ratio_of, degree_of_value}
use Rattle.basis_routes.specs.declared.checks.Check.TheVariants.{SameRank, Scalar, DegreeWithin}
use Rattle.basis_routes.specs.Checks.{Passes}
use Rattle.basis_routes.specs.Joins.{joined, join_checks}
use Rattle.basis_routes.proofs.JoinedKinds.{joined_kinds}
use Rattle.basis_routes.proofs.ComponentsExist.{kinds-antipode, kinds-commuted}
use Rattle.basis_routes.proofs.ConversionRows.{component_within}
use Rattle.basis_routes.proofs.ImagesOfMonomials.{image_agrees}
use Rattle.basis_routes.proofs.Rows.{passes_earlier}
use Rattle.basis_routes.proofs.ValueRows.{answers_value}
use Rattle.basis_routes.specs.declared.place.Place.{Place}
use Rattle.basis_routes.specs.Conversions.{ConversionRow}
use Rattle.basis_routes.specs.Places.{position_of}
use Rattle.basis_routes.specs.Rows.{Row}
use Rattle.hopf_ops.specs.Operations.{has_scalar, common_checks, NegationRow, ProductBy, RowOf, CommuteRow}
use Rattle.session_grammar.specs.declared.expression.Expr.{Expr}
use Rattle.session_grammar.specs.declared.expression.Factor.{Factor}
use Rattle.session_grammar.specs.declared.expression.Place.{Place as SourcePlace}
use Rattle.session_grammar.specs.declared.expression.Signed.{Signed}
use Rattle.hopf_ops.specs.declared.operator.Operator.{Operator}
use Rattle.hopf_ops.specs.declared.operator.Operator.TheVariants.{Plus, Minus, Hash, Times, Over}
use Rattle.session_evaluation.specs.declared.refusal.EvaluationRefusal.{EvaluationRefusal}
use Rattle.session_evaluation.specs.Names.{Names, AreValues}
use Rattle.session_evaluation.specs.Evaluation.{Answer, number_value, Allows, Operates, Applies, ActsOn, Signs, Steps, steps_of_sum, steps_of_tensor, steps_of_product, Evaluates, number as evaluated_number, element as evaluated_element, known, unknown, converted, applied, sum, tensor_product, product as evaluated_product, Folds, done, refused, step}
use Rattle.session_evaluation.specs.Meaning.{number, signed, Means, number_means, element_means, name_means, conversion_means, function_means, sum_means, tensor_means, product_means, Combine, combined_all, combine, IsMeant}
use Rattle.session_evaluation.specs.Functions.{operation_of, place_of, LinearRow}
use Rattle.hopf_ops.proofs.AppliedReadings.{applied_agrees}
use Rattle.session_evaluation.proofs.ComponentKinds.{kinds-doubled, kinds-without, kinds-kept, kinds-replaced, kinds-multiplied, neighbours_alike}
use Rattle.session_evaluation.proofs.KnownNames.{known_value}
use Rattle.session_evaluation.proofs.RowValues.{IsMultiplied, sum_value, component_value, product_value, tensor_value, quotient_value, conversion_value, coproduct_value, antipode_value, counit_value, mult_value, commute_value}
use Rattle.session_grammar.specs.declared.expression.Expr.TheVariants as e
use Rattle.hopf_ops.specs.ReadingOperations.{negative, is_scalar, ratio, quotient}
use Rattle.hopf_ops.specs.ReadingOperations.{combined}

-- readings with the same kinds and positive denominators that agree at all points
pub record Alike (q r : Reading) : Type 0 where
  pub kinds : kinds_of q ≡ kinds_of r
  pub left : 1 ≤ denominator q
  pub right : 1 ≤ denominator r
  pub agree : (ps : List (List ℕ)) → ArePoints (kinds_of q) ps → AgreeAt q r ps

-- a product of positive numbers is positive
positive_product : (m n : ℕ) → 1 ≤ m → 1 ≤ n → 1 ≤ m * n
positive_product m n left right = let here = mul-pos {m = m} {n = n} (omega arith) (omega arith) in omega arith

-- an integer other than 0 has a positive absolute value
nonzero_abs : (z : ℤ) → z ≢ pos 0 → 1 ≤ unsigned_abs z
nonzero_abs (pos zero) some = absurd (some refl)
nonzero_abs (pos (suc n)) some = omega arith
nonzero_abs (negsuc n) some = omega arith

-- a reading is like itself
alike_refl : (q : Reading) → 1 ≤ denominator q → Alike q q
alike_refl q positive = record { kinds = refl; left = positive; right = positive; agree = λ ps points. refl }

-- readings like a third one are alike
alike_trans : (q r s : Reading) → Alike q r → Alike r s → Alike q s
alike_trans q r s first second = record {
  kinds = first.kinds ∙ second.kinds;
  left = first.left;
  right = second.right;
  agree = λ ps points. agree_trans q r s ps first.right (first.agree ps points) (second.agree ps (subst (λ (ks : List Kind). ArePoints ks ps) first.kinds points));
}

-- sums of readings that are alike
sums_alike : (a a' b b' : Reading) → kinds_of a ≡ kinds_of b → Alike a a' → Alike b b' → Alike (sum_of a b) (sum_of a' b')
sums_alike a a' b b' kinds first second = record {
  kinds = first.kinds;
  left = positive_product (denominator a) (denominator b) first.left second.left;
  right = positive_product (denominator a') (denominator b') first.right second.right;
  agree = λ ps points. sum_agrees a a' b b' ps (first.agree ps points) (second.agree ps (subst (λ (ks : List Kind). ArePoints ks ps) kinds points));
}

-- multiples of readings that are alike, by ratios that are the same
multiples_alike : (num num' : ℤ) (den den' : ℕ) (a a' : Reading) → 1 ≤ den → 1 ≤ den' → num *ℤ pos den' ≡ num' *ℤ pos den → Alike a a'
    → Alike (multiple num den a) (multiple num' den' a')
multiples_alike num num' den den' a a' left right same alike = record {
  kinds = alike.kinds;
  left = positive_product den (denominator a) left alike.left;
  right = positive_product den' (denominator a') right alike.right;
  agree = λ ps points. multiple_agrees num num' den den' a a' ps same (alike.agree ps points);
}

-- negatives of readings that are alike
negatives_alike : (a a' : Reading) → Alike a a' → Alike (negative a) (negative a')
negatives_alike a a' alike = multiples_alike (negsuc 0) (negsuc 0) 1 1 a a' (omega arith) (omega arith) refl alike

-- tensors of readings that are alike
tensors_alike : (a a' b b' : Reading) → Alike a a' → Alike b b' → Alike (tensor a b) (tensor a' b')
tensors_alike a a' b b' first second = record {
  kinds = λ i. first.kinds i ++ second.kinds i;
  left = positive_product (denominator a) (denominator b) first.left second.left;
  right = positive_product (denominator a') (denominator b') first.right second.right;
  agree = λ ps points.
      let k : ℕ = length (kinds_of a) in
      let parts = points_split (kinds_of a) (kinds_of b) ps points in
      tensor_agrees a a' b b' ps first.kinds (first.agree (take k ps) parts.0) (second.agree (drop k ps) parts.1);
}

-- products of readings that are alike
products_alike : (a a' b b' : Reading) → kinds_of a ≡ kinds_of b → Alike a a' → Alike b b' → Alike (product a b) (product a' b')
products_alike a a' b b' kinds first second = record {
  kinds = first.kinds;
  left = positive_product (denominator a) (denominator b) first.left second.left;
  right = positive_product (denominator a') (denominator b') first.right second.right;
  agree = λ ps points. product_agrees a a' b b' ps first.kinds points first.agree (λ qs points'. second.agree qs (subst (λ (ks : List Kind). ArePoints ks qs) kinds points'));
}

-- the kinds of a list of bases
abbrev kinds_over : List BasisId → List Kind
kinds_over bases = map kind_of bases

-- where there are no bases, the empty tuple is one of points
no_points : (bases : List BasisId) → length bases ≡ 0 → ArePoints (kinds_over bases) []
no_points [] none = tt
no_points (basis ∷ bases) none = absurd (omega arith)

-- the kinds of a list of bases and another
kinds-append : (lefts rights : List BasisId) → kinds_over (lefts ++ rights) ≡ kinds_over lefts ++ kinds_over rights
kinds-append lefts rights = map-append kind_of lefts rights

-- the value over bases that reads as a reading of their kinds is like it
expands_alike : (bases : List BasisId) (q : Reading) (v : Expansion) → kinds_of q ≡ kinds_over bases → 1 ≤ denominator q → Expands bases q v → Alike (reading_of v) q
expands_alike bases q v kinds positive expands = record {
  kinds = ap kinds_over expands.over ∙ sym kinds;
  left = expands.value.canonical.lowest.positive;
  right = positive;
  agree = λ ps points. expands.reads ps (subst (λ (bs : List BasisId). ArePoints (kinds_over bs) ps) expands.over points);
}

-- so it is like each reading that this reading is like
answer_alike : (bases : List BasisId) (q r : Reading) (v : Expansion) → kinds_of q ≡ kinds_over bases → Alike q r → Expands bases q v → Alike (reading_of v) r
answer_alike bases q r v kinds alike expands = alike_trans (reading_of v) q r (expands_alike bases q v kinds alike.left expands) alike

-- values that pass their common checks have the same kinds, and so have their joined bases
pub common_kinds : (degree : ℕ) (a b : Expansion) → All Passes (common_checks degree a b)
    → (kinds_over a.bases ≡ kinds_over b.bases) × (kinds_over a.bases ≡ kinds_over (joined a.bases b.bases))
common_kinds degree a b pass =
    let within = DegreeWithin degree (least_limit (joined a.bases b.bases)) in
    let joins = passes_earlier (join_checks a.bases b.bases) (within ∷ []) (All-tail Passes (SameRank (length a.bases) (length b.bases)) (join_checks a.bases b.bases ++ within ∷ []) pass) in
    let kinds = joined_kinds a.bases b.bases (pass 0 (SameRank 0 0) (omega arith)) joins in
    (kinds.0, sym kinds.1)

-- a sum of values is like the sum that it means
plus_alike : (a b v : Expansion) (ra rb : Reading) → Alike (reading_of a) ra → Alike (reading_of b) rb → (degree : ℕ) → All Passes (common_checks degree a b)
    → Expands (joined a.bases b.bases) (sum_of (reading_of a) (reading_of b)) v → Alike (reading_of v) (sum_of ra rb)
plus_alike a b v ra rb first second degree pass expands =
    let kinds = common_kinds degree a b pass in
    answer_alike (joined a.bases b.bases) (sum_of (reading_of a) (reading_of b)) (sum_of ra rb) v kinds.1
    (sums_alike (reading_of a) ra (reading_of b) rb kinds.0 first second) expands

-- and a difference
minus_alike : (a b v : Expansion) (ra rb : Reading) → Alike (reading_of a) ra → Alike (reading_of b) rb → (degree : ℕ) → All Passes (common_checks degree a b)
    → Expands (joined a.bases b.bases) (sum_of (reading_of a) (negative (reading_of b))) v → Alike (reading_of v) (sum_of ra (negative rb))
minus_alike a b v ra rb first second degree pass expands =
    let kinds = common_kinds degree a b pass in
    answer_alike (joined a.bases b.bases) (sum_of (reading_of a) (negative (reading_of b))) (sum_of ra (negative rb)) v kinds.1
    (sums_alike (reading_of a) ra (negative (reading_of b)) (negative rb) kinds.0 first (negatives_alike (reading_of b) rb second)) expands

-- and a tensor product
hash_alike : (a b v : Expansion) (ra rb : Reading) → Alike (reading_of a) ra → Alike (reading_of b) rb
    → Expands (a.bases ++ b.bases) (tensor (reading_of a) (reading_of b)) v → Alike (reading_of v) (tensor ra rb)
hash_alike a b v ra rb first second expands =
    answer_alike (a.bases ++ b.bases) (tensor (reading_of a) (reading_of b)) (tensor ra rb) v (sym (kinds-append a.bases b.bases))
    (tensors_alike (reading_of a) ra (reading_of b) rb first second) expands

-- and a product, which is a tensor product where a factor is a scalar
product_alike : (scalar : Bool) (a b v : Expansion) (ra rb : Reading) → Alike (reading_of a) ra → Alike (reading_of b) rb → ProductBy scalar a b (Ok v)
    → Alike (reading_of v) (if scalar then tensor ra rb else product ra rb)
product_alike true a b v ra rb first second h = hash_alike a b v ra rb first second (product_value true a b v h)
product_alike false a b v ra rb first second h =
    let parts = component_value a b v h in
    let kinds = common_kinds (degree_of_value a + degree_of_value b) a b parts.0 in
    answer_alike (joined a.bases b.bases) (product (reading_of a) (reading_of b)) (product ra rb) v kinds.1
    (products_alike (reading_of a) ra (reading_of b) rb kinds.0 first second) parts.1

-- one of two values is a scalar where one of their readings is
same_scalars : (a b : Expansion) (ra rb : Reading) → Alike (reading_of a) ra → Alike (reading_of b) rb → has_scalar a b ≡ (is_scalar ra || is_scalar rb)
same_scalars a b ra rb first second = λ i. nat_eq (length (first.kinds i)) 0 || nat_eq (length (second.kinds i)) 0

-- so a product is like the product that it means
times_alike : (a b v : Expansion) (ra rb : Reading) → Alike (reading_of a) ra → Alike (reading_of b) rb → RowOf Times a b (Ok v) → Alike (reading_of v) (combined Times ra rb)
times_alike a b v ra rb first second h =
    subst (λ (scalar : Bool). Alike (reading_of v) (if scalar then tensor ra rb else product ra rb)) (same_scalars a b ra rb first second)
    (product_alike (has_scalar a b) a b v ra rb first second h)

-- and a quotient, whose divisor is a scalar other than 0
over_alike : (a b v : Expansion) (ra rb : Reading) → Alike (reading_of a) ra → Alike (reading_of b) rb → length b.bases ≡ 0 → (ratio_of b).num ≢ pos 0
    → Expands a.bases (quotient (reading_of a) (reading_of b)) v → Alike (reading_of v) (combined Over ra rb)
over_alike a b v ra rb first second none some expands =
    let by : Ratio = ratio_of b in
    let by' : Ratio = ratio rb in
    let same : by.num *ℤ pos by'.den ≡ by'.num *ℤ pos by.den = second.agree [] (no_points b.bases none) in
    let some' : by'.num ≢ pos 0 = ratio_nonzero by by' second.left second.right same some in
    answer_alike a.bases (quotient (reading_of a) (reading_of b)) (combined Over ra rb) v refl
    (multiples_alike (reciprocal by).num (reciprocal by').num (reciprocal by).den (reciprocal by').den (reading_of a) ra
    (nonzero_abs by.num some) (nonzero_abs by'.num some') (reciprocal_agrees by by' second.left second.right same) first) expands

-- what the row of an operation allows is like what the operation means
row_alike : (o : Operator) (a b v : Expansion) (ra rb : Reading) → Alike (reading_of a) ra → Alike (reading_of b) rb → RowOf o a b (Ok v) → Alike (reading_of v) (combined o ra rb)
row_alike Plus a b v ra rb first second h =
    let parts = sum_value false a b v h in plus_alike a b v ra rb first second (max (degree_of_value a) (degree_of_value b)) parts.0 parts.1
row_alike Minus a b v ra rb first second h =
    let parts = sum_value true a b v h in minus_alike a b v ra rb first second (max (degree_of_value a) (degree_of_value b)) parts.0 parts.1
row_alike Hash a b v ra rb first second h = hash_alike a b v ra rb first second (tensor_value a b v h)
row_alike Times a b v ra rb first second h = times_alike a b v ra rb first second h
row_alike Over a b v ra rb first second h =
    let parts = quotient_value a b v h in over_alike a b v ra rb first second (parts.0 0 (Scalar 0) (omega arith)) (parts.0 1 (Scalar 0) (omega arith)) parts.1

-- a value that an operation answers is one that its row allows
allowed_value : (Allowed : Row) (v : Expansion) → Allows Allowed (Ok v) → Allowed (Ok v)
allowed_value Allowed v (Ok w, h, is) = let same : v ≡ w = cc in subst (λ (u : Expansion). Allowed (Ok u)) (sym same) h
allowed_value Allowed v (Err r, h, is) = absurd (cc)

-- so what an operation answers is like what it means
operation_alike : (o : Operator) (a b v : Expansion) (ra rb : Reading) → Alike (reading_of a) ra → Alike (reading_of b) rb → Operates o a b (Ok v) → Alike (reading_of v) (combined o ra rb)
operation_alike o a b v ra rb first second h = row_alike o a b v ra rb first second (allowed_value (RowOf o a b) v h)

-- an operation on a component of readings that are alike; a product of two components is one of the same kind
applied_alike : (operation : Operation) (n : ℕ) (a a' : Reading) → (operation ≡ mult → IsDoubled n (kinds_of a)) → Alike a a' → Alike (applied_reading operation n a) (applied_reading operation n a')
applied_alike operation n a a' doubled alike = record {
  kinds = λ i. kinds_after_at n operation (alike.kinds i);
  left = alike.left;
  right = alike.right;
  agree = λ ps points. applied_agrees operation n a a' ps doubled alike.kinds points alike.agree;
}

-- a conversion reads as its operand
conversion_alike : (at : Place) (to : BasisId) (a v : Expansion) (r : Reading) → Alike (reading_of a) r → ConversionRow at to a (Ok v) → Alike (reading_of v) r
conversion_alike at to a v r alike h = elim (conversion_value at to a v h) [
  | inl same ↦ subst (λ (w : Expansion). Alike (reading_of w) r) (sym same) alike
  | inr made ↦ answer_alike _ (reading_of a) r v (sym (kinds-replaced (position_of at) a.bases to (component_within at (length a.bases) made.there) (made.checks 0 (Scalar 0) (omega arith)))) alike made.expands
]

-- the product of two neighbours
multiplied_alike : (n : ℕ) (a v : Expansion) (r : Reading) → Alike (reading_of a) r → IsMultiplied n a v → Alike (reading_of v) (applied_reading mult n r)
multiplied_alike n a v r alike made =
    subst (λ k. Alike (reading_of v) (applied_reading mult k r)) made.place
    (answer_alike _ (applied_reading mult (length made.before) (reading_of a)) (applied_reading mult (length made.before) r) v
    (ap (λ bases. kinds_after_at (length made.before) mult (kinds_over bases)) made.bases ∙ kinds-multiplied made.before made.left made.right made.after made.join)
    (applied_alike mult (length made.before) (reading_of a) r (λ is. subst (λ bases. IsDoubled (length made.before) (kinds_over bases)) (sym made.bases) (neighbours_alike made.before made.left made.right made.after made.join)) alike)
    made.expands)

-- a value over QSym.M at a component is like its commuting image there
image_alike : (n : ℕ) (a : Expansion) → 1 ≤ denominator (reading_of a) → n < length a.bases → get_or a.bases n QsymM ≡ QsymM → Alike (reading_of a) (applied_reading commute n (reading_of a))
image_alike n a positive there same = record {
  kinds = sym (kinds-kept n a.bases there same);
  left = positive;
  right = positive;
  agree = λ ps points. image_agrees n a ps there same points;
}

-- the commuting image of a component
commuted_alike : (at : Place) (a v : Expansion) (r : Reading) → Alike (reading_of a) r → CommuteRow at a (Ok v) → Alike (reading_of v) (applied_reading commute (position_of at) r)
commuted_alike at a v r alike h =
    let n : ℕ = position_of at in
    let parts = commute_value at a v h in
    let there = component_within at (length a.bases) parts.0 in
    let images = applied_alike commute n (reading_of a) r (λ is. absurd (cc)) alike in
    elim parts.1 [
      | inl stays ↦ subst (λ (w : Expansion). Alike (reading_of w) (applied_reading commute n r)) (sym stays.1)
          (alike_trans (reading_of a) (applied_reading commute n (reading_of a)) (applied_reading commute n r) (image_alike n a alike.left there stays.0) images)
      | inr expands ↦ answer_alike _ (applied_reading commute n (reading_of a)) (applied_reading commute n r) v (sym (kinds-commuted n a.bases there)) images expands
    ]

-- a function on a component is like what it means
function_alike : (map : Linear) (at : Place) (a v : Expansion) (r : Reading) → Alike (reading_of a) r → LinearRow map at a (Ok v) → Alike (reading_of v) (applied_reading (operation_of map) (position_of at) r)
function_alike Coproduct at a v r alike h =
    answer_alike _ (applied_reading coproduct (position_of at) (reading_of a)) (applied_reading coproduct (position_of at) r) v (kinds-doubled (position_of at) a.bases)
    (applied_alike coproduct (position_of at) (reading_of a) r (λ is. absurd (cc)) alike) (coproduct_value at a v h)
function_alike Antipode at a v r alike h =
    let parts = antipode_value at a v h in
    answer_alike _ (applied_reading antipode (position_of at) (reading_of a)) (applied_reading antipode (position_of at) r) v
    (sym (kinds-antipode (position_of at) a.bases (component_within at (length a.bases) parts.0)))
    (applied_alike antipode (position_of at) (reading_of a) r (λ is. absurd (cc)) alike) parts.1
function_alike Counit at a v r alike h =
    answer_alike _ (applied_reading counit (position_of at) (reading_of a)) (applied_reading counit (position_of at) r) v (kinds-without (position_of at) a.bases)
    (applied_alike counit (position_of at) (reading_of a) r (λ is. absurd (cc)) alike) (counit_value at a v h)
function_alike Mult at a v r alike h = multiplied_alike (position_of at) a v r alike (mult_value at a v h)
function_alike Commute at a v r alike h = commuted_alike at a v r alike h

-- a number as a value is like the number
number_alike : (n : ℕ) → Alike (reading_of (number_value n)) (number n)
number_alike zero = record {
  kinds = refl;
  left = omega arith;
  right = omega arith;
  agree = λ ps points. omega (arith, ints);
}
number_alike (suc n) = alike_refl (number (suc n)) (omega arith)

-- an expression that comes to a value means a reading like it
abbrev pub AnswerMeant : Names → Expr → Answer → Type 0
AnswerMeant names x (Ok v) = (r : Reading) × Means names x r × Alike (reading_of v) r
AnswerMeant names x (Err r) = Unit {0}

-- steps from a value to a value combine a reading like the first to one like the last; none lead from a refusal to a value
abbrev FoldMeant : Names → Answer → Steps → Answer → Type 0
FoldMeant names first steps (Err r) = Unit {0}
FoldMeant names (Err r) steps (Ok v) = ⊥
FoldMeant names (Ok a) steps (Ok v) = (ra : Reading) → Alike (reading_of a) ra → (r : Reading) × Combine names ra steps r × Alike (reading_of v) r

-- no step leads on
done_meant : (names : Names) (answer : Answer) → FoldMeant names answer [] answer
done_meant names (Ok v) = λ ra alike. (ra, combined_all, alike)
done_meant names (Err r) = tt

-- one more step, in front of steps that do
step_meant : (names : Names) (a : Expansion) (o : Operator) (x : Expr) (steps : Steps) (operand next answer : Answer) → AnswerMeant names x operand → Applies o a operand next
    → FoldMeant names next steps answer → FoldMeant names (Ok a) ((o, x) ∷ steps) answer
step_meant names a o x steps operand next (Err r) meant applies fold = tt
step_meant names a o x steps operand (Err r) (Ok v) meant applies fold = absurd fold
step_meant names a o x steps (Err r) (Ok c) (Ok v) meant applies fold = absurd (cc)
step_meant names a o x steps (Ok b) (Ok c) (Ok v) meant applies fold = λ ra alike.
    let rest = fold (combined o ra meant.0) (operation_alike o a b c ra meant.0 alike meant.2 applies) in
    (rest.0, combine meant.1 rest.1, rest.2)

-- the first operand of a sum, with its sign
signed_alike : (minus : Bool) (a c : Expansion) (ra : Reading) → Alike (reading_of a) ra → Signs minus (Ok a) (Ok c) → Alike (reading_of c) (signed minus ra)
signed_alike false a c ra alike signs = let same : a ≡ c = cc in subst (λ (w : Expansion). Alike (reading_of w) ra) same alike
signed_alike true a c ra alike signs =
    answer_alike a.bases (negative (reading_of a)) (negative ra) c refl (negatives_alike (reading_of a) ra alike)
    (answers_value a.bases (negative (reading_of a)) c (allowed_value (NegationRow a) c signs))

-- a refusal with a sign is no value
signed_refusal : (minus : Bool) (r : EvaluationRefusal) (c : Expansion) → Signs minus (Err r) (Ok c) → ⊥
signed_refusal false r c signs = absurd (cc)
signed_refusal true r c signs = absurd (cc)

-- a conversion that comes to a value
conversion_meant : (names : Names) (to : BasisId) (x : Expr) (at : SourcePlace) (operand answer : Answer) → AnswerMeant names x operand → ActsOn (ConversionRow (place_of at) to) operand answer
    → AnswerMeant names (e.Convert to x at) answer
conversion_meant names to x at operand (Err r) meant acts = tt
conversion_meant names to x at (Err r) (Ok v) meant acts = absurd (cc)
conversion_meant names to x at (Ok a) (Ok v) meant acts =
    (meant.0, conversion_means meant.1, conversion_alike (place_of at) to a v meant.0 meant.2 (allowed_value (ConversionRow (place_of at) to a) v acts))

-- a function on a component that does
function_meant : (names : Names) (map : Linear) (x : Expr) (at : SourcePlace) (operand answer : Answer) → AnswerMeant names x operand → ActsOn (LinearRow map (place_of at)) operand answer
    → AnswerMeant names (e.Apply map x at) answer
function_meant names map x at operand (Err r) meant acts = tt
function_meant names map x at (Err r) (Ok v) meant acts = absurd (cc)
function_meant names map x at (Ok a) (Ok v) meant acts =
    (applied_reading (operation_of map) (position_of (place_of at)) meant.0, function_means meant.1, function_alike map (place_of at) a v meant.0 meant.2 (allowed_value (LinearRow map (place_of at) a) v acts))

-- a sum that comes to a value
sum_meant : (names : Names) (part : Signed) (parts : List Signed) (first with_sign answer : Answer) → AnswerMeant names part.value first → Signs part.minus first with_sign
    → FoldMeant names with_sign (steps_of_sum parts) answer → AnswerMeant names (e.Sum (part ∷ parts)) answer
sum_meant names part parts first with_sign (Err r) meant signs fold = tt
sum_meant names part parts first (Err r) (Ok v) meant signs fold = absurd fold
sum_meant names part parts (Err r) (Ok c) (Ok v) meant signs fold = absurd (signed_refusal part.minus r c signs)
sum_meant names part parts (Ok a) (Ok c) (Ok v) meant signs fold =
    let rest = fold (signed part.minus meant.0) (signed_alike part.minus a c meant.0 meant.2 signs) in
    (rest.0, sum_means part parts meant.1 rest.1, rest.2)

-- a tensor product that does
tensor_meant : (names : Names) (part : Expr) (parts : List Expr) (first answer : Answer) → AnswerMeant names part first
    → FoldMeant names first (steps_of_tensor parts) answer → AnswerMeant names (e.Tensor (part ∷ parts)) answer
tensor_meant names part parts first (Err r) meant fold = tt
tensor_meant names part parts (Err r) (Ok v) meant fold = absurd fold
tensor_meant names part parts (Ok a) (Ok v) meant fold =
    let rest = fold meant.0 meant.2 in (rest.0, tensor_means part parts meant.1 rest.1, rest.2)

-- a product that does
product_meant : (names : Names) (part : Factor) (parts : List Factor) (first answer : Answer) → AnswerMeant names part.value first
    → FoldMeant names first (steps_of_product parts) answer → AnswerMeant names (e.Product (part ∷ parts)) answer
product_meant names part parts first (Err r) meant fold = tt
product_meant names part parts (Err r) (Ok v) meant fold = absurd fold
product_meant names part parts (Ok a) (Ok v) meant fold =
    let rest = fold meant.0 meant.2 in (rest.0, product_means part parts meant.1 rest.1, rest.2)

-- every evaluation to a value has a meaning, and so have all steps, by induction on both
mutual
  pub answer_meant : {names : Names} {x : Expr} {answer : Answer} → AreValues names → Evaluates names x answer → AnswerMeant names x answer
  answer_meant values (evaluated_number {n = n}) = (number n, number_means, number_alike n)
  answer_meant values (evaluated_element {basis = basis} {code = code} spells) = (element basis code, element_means spells, alike_refl (element basis code) (omega arith))
  answer_meant {names = names} values (known {name = name} {v = v} is) =
      (reading_of v, name_means is, alike_refl (reading_of v) (known_value names name v values is).canonical.lowest.positive)
  answer_meant values (unknown is) = tt
  answer_meant {names = names} values (converted {to = to} {x = y} {at = at} {operand = operand} {answer = answer} evaluates acts) =
      conversion_meant names to y at operand answer (answer_meant values evaluates) acts
  answer_meant {names = names} values (applied {map = map} {x = y} {at = at} {operand = operand} {answer = answer} evaluates acts) =
      function_meant names map y at operand answer (answer_meant values evaluates) acts
  answer_meant {names = names} values (sum part parts {first = first} {signed = with_sign} {answer = answer} evaluates signs folds) =
      sum_meant names part parts first with_sign answer (answer_meant values evaluates) signs (fold_meant values folds)
  answer_meant {names = names} values (tensor_product part parts {first = first} {answer = answer} evaluates folds) =
      tensor_meant names part parts first answer (answer_meant values evaluates) (fold_meant values folds)
  answer_meant {names = names} values (evaluated_product part parts {first = first} {answer = answer} evaluates folds) =
      product_meant names part parts first answer (answer_meant values evaluates) (fold_meant values folds)

  fold_meant : {names : Names} {first answer : Answer} {steps : Steps} → AreValues names → Folds names first steps answer → FoldMeant names first steps answer
  fold_meant {names = names} values (done {answer = answer}) = done_meant names answer
  fold_meant values refused = tt
  fold_meant {names = names} values (step {a = a} {o = o} {x = x} {operand = operand} {next = next} {answer = answer} {steps = steps} evaluates applies folds) =
      step_meant names a o x steps operand next answer (answer_meant values evaluates) applies (fold_meant values folds)

-- the value of an expression reads as the expression means
pub meant : (names : Names) (x : Expr) (v : Expansion) → AreValues names → Evaluates names x (Ok v) → IsMeant names x v
meant names x v values evaluates =
    let found : (r : Reading) × Means names x r × Alike (reading_of v) r = answer_meant values evaluates in
    record {
      meaning = found.0;
      means = found.1;
      positive = found.2.right;
      reads = λ ps points. found.2.agree ps points;
    }
