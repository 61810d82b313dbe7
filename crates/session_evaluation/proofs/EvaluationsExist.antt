-- Every built expression comes to an answer.
use Rattle.std.proofs.Common.{◌≡◌, ℕ, Bool, true, false, Option, Some, None, Ok, Err, List, refl}
use Rattle.hopf_laws.specs.Values.{Expansion, IsValue}
use Rattle.basis_routes.specs.Rows.{Row}
use Rattle.hopf_ops.specs.declared.operator.Operator.{Operator}
use Rattle.session_grammar.specs.declared.expression.Expr.{Expr}
use Rattle.session_evaluation.specs.Built.{IsBuilt, built_number, built_element, built_name, built_conversion, built_function, built_sum, built_tensor, built_product, AreBuilt, no_steps, built_step}
use Rattle.session_evaluation.specs.Evaluation.{Answer, number_value, element_value, told, Operates, Applies, ActsOn, Signs, Steps, Evaluates, number, element, known, unknown, converted, applied, sum, tensor_product, product, Folds, done, refused, step}
use Rattle.session_evaluation.specs.Functions.{place_of}
use Rattle.session_evaluation.specs.Names.{Names, value_of, AreValues}
use Rattle.session_evaluation.proofs.GoodAnswers.{IsGood, applies_good, signs_good, evaluated_good}
use Rattle.session_evaluation.proofs.RowLaws.{RowLaws, row_laws, ActsOnce, negation_acts, conversion_acts, function_acts}
use Rattle.session_grammar.specs.declared.expression.Expr.TheVariants as e
use Rattle.session_evaluation.specs.declared.refusal.EvaluationRefusal.TheVariants as refusal

module _ (laws : RowLaws) where
  -- An operation on two values has an answer.
  operation_exists : (o : Operator) (a b : Expansion) → IsValue a → IsValue b → (r : Answer) × Operates o a b r
  operation_exists o a b ha hb = let found = (laws.operator o a b ha hb).some in (told found.0, (found.0, found.1, refl))

  -- There is one, where the operands are good.
  applies_exists : (o : Operator) (a : Expansion) (operand : Answer) → IsValue a → IsGood operand → (next : Answer) × Applies o a operand next
  applies_exists o a (Ok b) ha hb = operation_exists o a b ha hb
  applies_exists o a (Err r) ha hb = (Err r, refl)

-- So has one on one value that is good.
acts_exists : (RowOn : Expansion → Row) (operand : Answer) → ActsOnce RowOn → IsGood operand → (answer : Answer) × ActsOn RowOn operand answer
acts_exists RowOn (Ok a) acts good = let found = acts.some a good in (told found.0, (found.0, found.1, refl))
acts_exists RowOn (Err r) acts good = (Err r, refl)

-- So has the first operand of a sum, with its sign.
signs_exists : RowLaws → (minus : Bool) (first : Answer) → IsGood first → (signed : Answer) × Signs minus first signed
signs_exists laws false first good = (first, refl)
signs_exists laws true first good = acts_exists _ first (negation_acts laws) good

module _ (laws : RowLaws) (names : Names) (values : AreValues names) where
  -- A name comes to its value, or is unknown.
  name_exists : (name : List ℕ) (found : Option Expansion) → value_of names name ≡ found → (r : Answer) × Evaluates names (e.Named name) r
  name_exists name (Some v) is = (Ok v, known is)
  name_exists name None is = (Err (refusal.UnknownName name), unknown is)

  -- A built expression comes to an answer, and later operands leave one.
  mutual
    one_exists : (x : Expr) → IsBuilt x → (r : Answer) × Evaluates names x r
    one_exists x (built_number {n = n} small) = (Ok (number_value n), number)
    one_exists x (built_element {basis = basis} {code = code} spells) = (Ok (element_value basis code), element spells)
    one_exists x (built_name {name = name}) = name_exists name (value_of names name) refl
    one_exists x (built_conversion {to = to} {x = y} {at = at} basis built) =
        let operand = one_exists y built in
        let answer = acts_exists _ operand.0 (conversion_acts laws (place_of at) to basis) (evaluated_good names values y operand.0 built operand.1) in
        (answer.0, converted operand.1 answer.1)
    one_exists x (built_function {map = map} {x = y} {at = at} is built) =
        let operand = one_exists y built in
        let answer = acts_exists _ operand.0 (function_acts laws map (place_of at) is) (evaluated_good names values y operand.0 built operand.1) in
        (answer.0, applied operand.1 answer.1)
    one_exists x (built_sum part parts one more) =
        let first = one_exists part.value one in
        let good = evaluated_good names values part.value first.0 one first.1 in
        let signed = signs_exists laws part.minus first.0 good in
        let rest = folds_exist _ signed.0 more (signs_good part.minus first.0 signed.0 good signed.1) in
        (rest.0, sum part parts first.1 signed.1 rest.1)
    one_exists x (built_tensor part parts one more) =
        let first = one_exists part one in
        let rest = folds_exist _ first.0 more (evaluated_good names values part first.0 one first.1) in
        (rest.0, tensor_product part parts first.1 rest.1)
    one_exists x (built_product part parts one more) =
        let first = one_exists part.value one in
        let rest = folds_exist _ first.0 more (evaluated_good names values part.value first.0 one first.1) in
        (rest.0, product part parts first.1 rest.1)

    folds_exist : (steps : Steps) (start : Answer) → AreBuilt steps → IsGood start → (r : Answer) × Folds names start steps r
    folds_exist steps start no_steps good = (start, done)
    folds_exist steps (Err q) (built_step one more) good = (Err q, refused)
    folds_exist steps (Ok a) (built_step {o = o} {x = x} {steps = later} one more) good =
        let operand = one_exists x one in
        let next = applies_exists laws o a operand.0 good (evaluated_good names values x operand.0 one operand.1) in
        let rest = folds_exist later next.0 more (applies_good o a operand.0 next.0 next.1) in
        (rest.0, step operand.1 next.1 rest.1)

-- A built expression comes to an answer.
pub evaluation_exists : (names : Names) (x : Expr) → AreValues names → IsBuilt x → (r : Answer) × Evaluates names x r
evaluation_exists names x values built = one_exists row_laws names values x built
