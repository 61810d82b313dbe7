-- What a built expression comes to is a value, or a refusal.
use Rattle.std.proofs.Common.{◌≡◌, ◌≢◌, inl, inr, ℕ, zero, suc, ◌^◌, ◌<◌, ◌≤◌, Bool, true, false, Ok, Err, List, [], ◌∷◌, length, refl, sym, subst, arith, unsigned_abs}
use Rattle.std.proofs.Math.IntN.{ℤ, pos}
use Rattle.std.proofs.lemmas.Int.{ints}
use Rattle.realisations.specs.Combinations.{IsCanonical, HasKey, term_at}
use Rattle.realisations.specs.Indices.{AreIndices, total_degree}
use Rattle.linear_combos.proofs.Edits.{lowest_one, zero_canonical}
use Rattle.realisations.specs.Readings.{Terms}
use Rattle.basis_names.specs.declared.bases.BasisId.{BasisId}
use Rattle.session_tokens.specs.declared.lexeme.Linear.{Linear}
use Rattle.session_tokens.specs.declared.lexeme.Linear.TheVariants.{Coproduct, Antipode, Counit, Mult, Commute}
use Rattle.hopf_laws.specs.Bases.{least_limit}
use Rattle.hopf_laws.specs.Values.{Expansion, IsValue, reading_of}
use Rattle.basis_routes.specs.declared.place.Place.{Place}
use Rattle.basis_routes.specs.Conversions.{ConversionRow}
use Rattle.basis_routes.specs.Rows.{Row}
use Rattle.basis_routes.specs.Rules.{IsIndexWithin}
use Rattle.hopf_ops.specs.declared.operator.Operator.{Operator}
use Rattle.hopf_ops.specs.Operations.{NegationRow, RowOf}
use Rattle.hopf_ops.specs.ReadingOperations.{negative}
use Rattle.session_grammar.specs.declared.expression.Expr.{Expr}
use Rattle.session_evaluation.specs.Built.{IsBuilt, AreBuilt, built_step}
use Rattle.session_evaluation.specs.Evaluation.{Answer, number_value, element_value, Allows, Operates, Applies, ActsOn, Signs, Steps, Evaluates, number, element, known, unknown, converted, applied, sum, tensor_product, product, Folds, done, refused, step}
use Rattle.session_evaluation.specs.Functions.{place_of, LinearRow}
use Rattle.session_evaluation.specs.Names.{Names, AreValues}
use Rattle.session_evaluation.proofs.BuiltForms.{built_number-inv, built_conversion-inv, built_function-inv, built_sum-parts, built_tensor-parts, built_product-parts}
use Rattle.session_evaluation.proofs.KnownNames.{known_value}
use Rattle.basis_routes.proofs.ValueRows.{answers_value}
use Rattle.session_evaluation.proofs.RowValues.{operator_value, conversion_value, coproduct_value, antipode_value, counit_value, mult_value, commute_value}
use Rattle.session_evaluation.proofs.SpelledElements.{spelled_within}

-- The terms that are one term.
abbrev one_term : ℤ → List (List ℕ) → Terms
one_term num key = (num, key) ∷ []

-- One term over 1 is canonical, where its numerator is not 0 and has room.
term_canonical : (rank : ℕ) (num : ℤ) (key : List (List ℕ)) → num ≢ pos 0 → length key ≡ rank → unsigned_abs num < 2 ^ 127 → IsCanonical rank 1 (one_term num key)
term_canonical rank num key nonzero long small = record {
  ordered = record {
    rising = λ i j less in_range. absurd (omega (arith, less, in_range));
    nonzero = numerators;
    ranks = ranks;
    small = omega (arith, small);
  };
  lowest = lowest_one (one_term num key);
}
  where
    numerators : (i : ℕ) → i < length (one_term num key) → (term_at (one_term num key) i).0 ≢ pos 0
    numerators zero in_range = nonzero
    numerators (suc i) in_range = absurd (omega (arith, in_range))

    ranks : (i : ℕ) → i < length (one_term num key) → length ((term_at (one_term num key) i).1) ≡ rank
    ranks zero in_range = long
    ranks (suc i) in_range = absurd (omega (arith, in_range))

-- What holds of the key of one term holds of each key.
only_key : (P : List (List ℕ) → Type 0) (num : ℤ) (key : List (List ℕ)) → P key → (k : List (List ℕ)) → HasKey (one_term num key) k → P k
only_key P num key holds k (zero, in_range, is) = subst P is holds
only_key P num key holds k (suc i, in_range, is) = absurd (omega (arith, in_range))

-- A number below 2^127 is a value.
pub number_is_value : (n : ℕ) → n < 2 ^ 127 → IsValue (number_value n)
number_is_value zero small = record {
  short = omega arith;
  built = tt;
  rank = refl;
  canonical = zero_canonical 0;
  indices = λ key has. absurd (omega (arith, has.1));
  degrees = λ key has. absurd (omega (arith, has.1));
}
number_is_value (suc n) small = record {
  short = omega arith;
  built = tt;
  rank = refl;
  canonical = term_canonical 0 (pos (suc n)) [] (λ is. absurd (omega (arith, ints, is))) refl (omega (arith, small));
  indices = only_key (λ key. AreIndices [] key) (pos (suc n)) [] tt;
  degrees = λ key has. omega arith;
}

-- A basis element whose code is an index within the limit is a value.
pub element_is_value : (basis : BasisId) (code : List ℕ) → IsIndexWithin basis code → IsValue (element_value basis code)
element_is_value basis code within = record {
  short = omega arith;
  built = (within.built, tt);
  rank = refl;
  canonical = term_canonical 1 (pos 1) (code ∷ []) (λ is. absurd (omega (arith, ints, is))) refl (omega arith);
  indices = only_key (λ key. AreIndices ((basis ∷ [])) key) (pos 1) (code ∷ []) (within.index, tt);
  degrees = only_key (λ key. total_degree ((basis ∷ [])) key ≤ least_limit (basis ∷ [])) (pos 1) (code ∷ []) (omega (arith, within.degree));
}

-- An answer is good where its value is a value, and where it is a refusal.
abbrev pub IsGood : Answer → Type 0
IsGood (Ok v) = IsValue v
IsGood (Err r) = Unit {0}

-- What a row allows is good, where the values that it allows are.
allows_good : (Allowed : Row) (answer : Answer) → ((v : Expansion) → Allowed (Ok v) → IsValue v) → Allows Allowed answer → IsGood answer
allows_good Allowed answer values (Ok v, h, is) = subst IsGood (sym is) (values v h)
allows_good Allowed answer values (Err r, h, is) = subst IsGood (sym is) tt

-- The answer of an operation is good.
operates_good : (o : Operator) (a b : Expansion) (r : Answer) → Operates o a b r → IsGood r
operates_good o a b r h = allows_good (RowOf o a b) r (λ v allowed. (operator_value o a b v allowed).value) h

-- So is it where the second operand may have been refused.
pub applies_good : (o : Operator) (a : Expansion) (operand next : Answer) → Applies o a operand next → IsGood next
applies_good o a (Ok b) next h = operates_good o a b next h
applies_good o a (Err r) next h = subst IsGood (sym h) tt

-- So is that of an operation on one value, which may have been refused.
acts_good : (RowOn : Expansion → Row) (operand answer : Answer) → ((a v : Expansion) → IsValue a → RowOn a (Ok v) → IsValue v) → IsGood operand → ActsOn RowOn operand answer → IsGood answer
acts_good RowOn (Ok a) answer values good h = allows_good (RowOn a) answer (λ v. values a v good) h
acts_good RowOn (Err r) answer values good h = subst IsGood (sym h) tt

-- The first operand of a sum with its sign is good.
pub signs_good : (minus : Bool) (first signed : Answer) → IsGood first → Signs minus first signed → IsGood signed
signs_good false first signed good h = subst IsGood (sym h) good
signs_good true first signed good h = acts_good NegationRow first signed (λ a v value allowed. (answers_value a.bases (negative (reading_of a)) v allowed).value) good h

-- A conversion of a value is a value.
converted_value : (at : Place) (to : BasisId) (a v : Expansion) → IsValue a → ConversionRow at to a (Ok v) → IsValue v
converted_value at to a v value h = elim (conversion_value at to a v h) [
  | inl same ↦ subst IsValue (sym same) value
  | inr made ↦ made.expands.value
]

-- So is a function on a component of one.
mapped_value : (map : Linear) (at : Place) (a v : Expansion) → IsValue a → LinearRow map at a (Ok v) → IsValue v
mapped_value Coproduct at a v value h = (coproduct_value at a v h).value
mapped_value Antipode at a v value h = (antipode_value at a v h).1.value
mapped_value Counit at a v value h = (counit_value at a v h).value
mapped_value Mult at a v value h = (mult_value at a v h).expands.value
mapped_value Commute at a v value h = elim (commute_value at a v h).1 [
  | inl stays ↦ subst IsValue (sym stays.1) value
  | inr expands ↦ expands.value
]

-- A conversion of a good answer is good, and so is a function on a component of one.
pub conversion_good : (at : Place) (to : BasisId) (operand answer : Answer) → IsGood operand → ActsOn (ConversionRow at to) operand answer → IsGood answer
conversion_good at to operand answer good h = acts_good (ConversionRow at to) operand answer (converted_value at to) good h

pub function_good : (map : Linear) (at : Place) (operand answer : Answer) → IsGood operand → ActsOn (LinearRow map at) operand answer → IsGood answer
function_good map at operand answer good h = acts_good (LinearRow map at) operand answer (mapped_value map at) good h

module _ (names : Names) (values : AreValues names) where
  -- What a built expression comes to is good, and so is what its later operands leave.
  mutual
    pub evaluated_good : (x : Expr) (r : Answer) → IsBuilt x → Evaluates names x r → IsGood r
    evaluated_good x r built (number {n = n}) = number_is_value n (built_number-inv n built)
    evaluated_good x r built (element {basis = basis} {items = items} {code = code} spells) = element_is_value basis code (spelled_within basis items code spells)
    evaluated_good x r built (known {name = name} {v = v} is) = known_value names name v values is
    evaluated_good x r built (unknown is) = tt
    evaluated_good x r built (converted {to = to} {x = y} {at = at} {operand = operand} one acts) =
        conversion_good (place_of at) to operand r (evaluated_good y operand (built_conversion-inv to y at built).1 one) acts
    evaluated_good x r built (applied {map = map} {x = y} {at = at} {operand = operand} one acts) =
        function_good map (place_of at) operand r (evaluated_good y operand (built_function-inv map y at built).1 one) acts
    evaluated_good x r built (sum part parts {first = first} {signed = signed} one sign folds) =
        let parts_built = built_sum-parts part parts built in
        folds_good _ signed r parts_built.1 (signs_good part.minus first signed (evaluated_good part.value first parts_built.0 one) sign) folds
    evaluated_good x r built (tensor_product part parts {first = first} one folds) =
        let parts_built = built_tensor-parts part parts built in
        folds_good _ first r parts_built.1 (evaluated_good part first parts_built.0 one) folds
    evaluated_good x r built (product part parts {first = first} one folds) =
        let parts_built = built_product-parts part parts built in
        folds_good _ first r parts_built.1 (evaluated_good part.value first parts_built.0 one) folds

    folds_good : (steps : Steps) (start r : Answer) → AreBuilt steps → IsGood start → Folds names start steps r → IsGood r
    folds_good steps start r built good done = good
    folds_good steps start r built good refused = tt
    folds_good steps start r (built_step one more) good (step {a = a} {o = o} {operand = operand} {next = next} {steps = later} evaluates applies folds) =
        folds_good later next r more (applies_good o a operand next applies) folds

-- A value that a built expression comes to is a value.
pub evaluated_value : (names : Names) (x : Expr) (v : Expansion) → AreValues names → IsBuilt x → Evaluates names x (Ok v) → IsValue v
evaluated_value names x v values built evaluates = evaluated_good names values x (Ok v) built evaluates
