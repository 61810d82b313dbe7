-- Every refusal is told: want of memory is none.
use Rattle.std.proofs.Common.{◌≡◌, ◌≢◌, Bool, true, false, Result, Ok, Err, sym, subst}
use Rattle.basis_routes.specs.declared.refusal.Refusal.{Refusal}
use Rattle.basis_routes.specs.Conversions.{ConversionRow}
use Rattle.basis_routes.specs.Rows.{Row}
use Rattle.hopf_laws.specs.Values.{Expansion}
use Rattle.hopf_ops.specs.declared.operator.Operator.{Operator}
use Rattle.hopf_ops.specs.Operations.{RowOf, NegationRow, EqualRow}
use Rattle.session_grammar.specs.declared.expression.Expr.{Expr}
use Rattle.session_evaluation.specs.declared.refusal.EvaluationRefusal.{EvaluationRefusal}
use Rattle.hopf.specs.declared.statement.Outcome.TheVariants.{Refused}
use Rattle.session_evaluation.specs.Functions.{place_of, LinearRow}
use Rattle.session_evaluation.specs.Names.{Names}
use Rattle.session_evaluation.specs.Evaluation.{Answer, told, Allows, Steps, steps_of_sum, steps_of_tensor, steps_of_product, Applies, ActsOn, Signs, Evaluates, number, element, known, unknown, converted, applied, sum, tensor_product, product, Folds, done, refused, step, Compares, first_refused, second_refused, compared}
use Rattle.hopf.specs.Outcomes.{refused_as}
use Rattle.hopf.specs.Sessions.{IsTold}
use Rattle.hopf.proofs.RefusalsOfRows.{Tells, conversion_tells, operator_tells, negation_tells, function_tells, compared_tells}
use Rattle.basis_routes.specs.declared.refusal.Refusal.TheVariants as value
use Rattle.session_evaluation.specs.declared.refusal.EvaluationRefusal.TheVariants as refusal

-- a refusal of an operation is told where it is no want of memory
pub value_told : (r : Refusal) → r ≢ value.Memory → IsTold (Refused (refused_as (refusal.Value r)))
value_told r other = record {
  ended = λ is. cc;
  read = λ is. cc;
  evaluated = λ is. let same : r ≡ value.Memory = cc in other same;
}

-- a value, or a refusal that is told
abbrev pub IsToldAnswer : Answer → Type 0
IsToldAnswer (Ok v) = Unit {0}
IsToldAnswer (Err r) = IsTold (Refused (refused_as r))

same_told : (answer other : Answer) → answer ≡ other → IsToldAnswer other → IsToldAnswer answer
same_told answer other is told = subst (λ (a : Answer). IsToldAnswer a) (sym is) told

allows_told : (Allowed : Row) (answer : Answer) → Tells Allowed → Allows Allowed answer → IsToldAnswer answer
allows_told Allowed answer tells (Ok v, h, is) = same_told answer (Ok v) is tt
allows_told Allowed answer tells (Err r, h, is) = same_told answer (Err (refusal.Value r)) is (value_told r (tells r h))

applies_told : (o : Operator) (a : Expansion) (operand answer : Answer) → IsToldAnswer operand → Applies o a operand answer → IsToldAnswer answer
applies_told o a (Ok b) answer told h = allows_told (RowOf o a b) answer (operator_tells o a b) h
applies_told o a (Err r) answer told h = same_told answer (Err r) h told

acts_told : (RowOn : Expansion → Row) (operand answer : Answer) → ((a : Expansion) → Tells (RowOn a)) → IsToldAnswer operand → ActsOn RowOn operand answer → IsToldAnswer answer
acts_told RowOn (Ok a) answer tells told h = allows_told (RowOn a) answer (tells a) h
acts_told RowOn (Err r) answer tells told h = same_told answer (Err r) h told

signs_told : (minus : Bool) (first answer : Answer) → IsToldAnswer first → Signs minus first answer → IsToldAnswer answer
signs_told false first answer told h = same_told answer first h told
signs_told true first answer told h = acts_told NegationRow first answer negation_tells told h

mutual
  evaluated_told : (names : Names) (x : Expr) (answer : Answer) → Evaluates names x answer → IsToldAnswer answer
  evaluated_told names x answer number = tt
  evaluated_told names x answer (element spells) = tt
  evaluated_told names x answer (known is) = tt
  evaluated_told names x answer (unknown is) = record { ended = λ is. cc; read = λ is. cc; evaluated = λ is. cc }
  evaluated_told names x answer (converted {to = to} {x = y} {at = at} {operand = operand} h acts) =
      acts_told (ConversionRow (place_of at) to) operand answer (conversion_tells (place_of at) to) (evaluated_told names y operand h) acts
  evaluated_told names x answer (applied {map = map} {x = y} {at = at} {operand = operand} h acts) =
      acts_told (LinearRow map (place_of at)) operand answer (function_tells map (place_of at)) (evaluated_told names y operand h) acts
  evaluated_told names x answer (sum part parts {first = first} {signed = signed} h signs later) =
      folds_told names signed (steps_of_sum parts) answer (signs_told part.minus first signed (evaluated_told names part.value first h) signs) later
  evaluated_told names x answer (tensor_product part parts {first = first} h later) = folds_told names first (steps_of_tensor parts) answer (evaluated_told names part first h) later
  evaluated_told names x answer (product part parts {first = first} h later) = folds_told names first (steps_of_product parts) answer (evaluated_told names part.value first h) later

  folds_told : (names : Names) (first : Answer) (steps : Steps) (answer : Answer) → IsToldAnswer first → Folds names first steps answer → IsToldAnswer answer
  folds_told names first steps answer told done = told
  folds_told names first steps answer told refused = told
  folds_told names first steps answer told (step {a = a} {o = o} {x = x} {operand = operand} {next = next} {steps = later} h applies rest) =
      folds_told names next later answer (applies_told o a operand next (evaluated_told names x operand h) applies) rest

-- the refusal of an expression is told
pub refusal_told : (names : Names) (x : Expr) (r : EvaluationRefusal) → Evaluates names x (Err r) → IsTold (Refused (refused_as r))
refusal_told names x r h = evaluated_told names x (Err r) h

-- so is that of an equality
allowed_refusal : (a b : Expansion) (r : EvaluationRefusal) → Allows (EqualRow a b) (Err r) → IsTold (Refused (refused_as r))
allowed_refusal a b r (Ok same, row, is) = absurd (let both : ◌≡◌ {A = Result Bool EvaluationRefusal} (Err r) (Ok same) = is in cc)
allowed_refusal a b r (Err q, row, is) =
    let both : r ≡ refusal.Value q = cc in
    subst (λ (p : EvaluationRefusal). IsTold (Refused (refused_as p))) (sym both) (value_told q (compared_tells a b q row))

pub comparison_told : (names : Names) (x y : Expr) (r : EvaluationRefusal) → Compares names x y (Err r) → IsTold (Refused (refused_as r))
comparison_told names x y r (first_refused h) = refusal_told names x r h
comparison_told names x y r (second_refused h k) = refusal_told names y r k
comparison_told names x y r (compared {a = a} {b = b} h k allows) = allowed_refusal a b r allows
