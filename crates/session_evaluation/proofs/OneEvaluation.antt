-- A built expression comes to one answer.
use Rattle.std.proofs.Common.{◌≡◌, ℕ, Bool, true, false, Some, None, Ok, Err, List, [], ◌∷◌, refl, sym, ◌∙◌, ap, subst}
use Rattle.basis_names.specs.declared.bases.BasisId.{BasisId}
use Rattle.session_tokens.specs.declared.lexeme.Lexeme.{Lexeme}
use Rattle.session_tokens.specs.declared.lexeme.Linear.{Linear}
use Rattle.session_evaluation.specs.Elements.{Spells}
use Rattle.session_evaluation.proofs.SpelledElements.{spells_once}
use Rattle.hopf_laws.specs.Values.{Expansion, IsValue}
use Rattle.basis_routes.specs.Conversions.{ConversionRow}
use Rattle.basis_routes.specs.Rows.{Row, Answer as RowAnswer}
use Rattle.session_grammar.specs.declared.expression.Expr.{Expr, out-Expr}
use Rattle.session_grammar.specs.declared.expression.Expr.TheOpen.{Expr-F}
use Rattle.session_grammar.specs.declared.expression.Factor.{Factor}
use Rattle.session_grammar.specs.declared.expression.Place.{Place}
use Rattle.session_grammar.specs.declared.expression.Signed.{Signed}
use Rattle.hopf_ops.specs.declared.operator.Operator.{Operator}
use Rattle.hopf_ops.specs.Operations.{RowOf, NegationRow}
use Rattle.session_evaluation.specs.declared.refusal.EvaluationRefusal.{EvaluationRefusal}
use Rattle.session_evaluation.specs.Built.{IsBuilt, AreBuilt, built_step}
use Rattle.session_evaluation.specs.Names.{Names, value_of, AreValues}
use Rattle.session_evaluation.specs.Evaluation.{Answer, number_value, element_value, told, Allows, Applies, ActsOn, Signs, Steps, steps_of_sum, steps_of_tensor, steps_of_product, Evaluates, number, element, known, unknown, converted, applied, sum, tensor_product, product as product_answer, Folds, done, refused, step}
use Rattle.session_evaluation.specs.Functions.{place_of, LinearRow}
use Rattle.session_evaluation.proofs.BuiltForms.{built_conversion-inv, built_function-inv, built_sum-parts, built_tensor-parts, built_product-parts, out-number, out-element, out-name, out-convert, out-apply, out-sum, out-tensor, out-product}
use Rattle.session_evaluation.proofs.GoodAnswers.{IsGood, applies_good, signs_good, evaluated_good}
use Rattle.session_evaluation.proofs.RowLaws.{RowLaws, row_laws, ActsOnce, negation_acts, conversion_acts, function_acts}
use Rattle.session_grammar.specs.declared.expression.Expr.TheOpen as form
use Rattle.session_evaluation.specs.declared.refusal.EvaluationRefusal.TheVariants as refusal

-- A row that allows one answer allows one that is told.
allows_once : (Allowed : Row) (r s : Answer) → ((p q : RowAnswer) → Allowed p → Allowed q → p ≡ q) → Allows Allowed r → Allows Allowed s → r ≡ s
allows_once Allowed r s once (p, h, is) (q, k, is') = is ∙ ap told (once p q h k) ∙ sym is'

-- An operation after its operand comes to one answer.
applies_once : RowLaws → (o : Operator) (a : Expansion) (operand r s : Answer) → IsValue a → IsGood operand → Applies o a operand r → Applies o a operand s → r ≡ s
applies_once laws o a (Ok b) r s left right h k = allows_once (RowOf o a b) r s (laws.operator o a b left right).once h k
applies_once laws o a (Err x) r s left right h k = h ∙ sym k

-- So does one on one value that may have been refused.
acts_once : (RowOn : Expansion → Row) (operand r s : Answer) → ActsOnce RowOn → IsGood operand → ActsOn RowOn operand r → ActsOn RowOn operand s → r ≡ s
acts_once RowOn (Ok a) r s acts good h k = allows_once (RowOn a) r s (acts.once a good) h k
acts_once RowOn (Err x) r s acts good h k = h ∙ sym k

-- So does the first operand of a sum, with its sign.
signs_once : RowLaws → (minus : Bool) (first r s : Answer) → IsGood first → Signs minus first r → Signs minus first s → r ≡ s
signs_once laws false first r s good h k = h ∙ sym k
signs_once laws true first r s good h k = acts_once NegationRow first r s (negation_acts laws) good h k

-- what an expression comes to, at its outermost form
data Opened (names : Names) : Expr-F Expr Factor Signed → Answer → Type 0 where
  at_number : {n : ℕ} → Opened names (form.Number n) (Ok (number_value n))
  at_element : {basis : BasisId} {items : List Lexeme} {code : List ℕ} → Spells basis items code → Opened names (form.Element basis items) (Ok (element_value basis code))
  at_known : {name : List ℕ} {v : Expansion} → value_of names name ≡ Some v → Opened names (form.Named name) (Ok v)
  at_unknown : {name : List ℕ} → value_of names name ≡ None → Opened names (form.Named name) (Err (refusal.UnknownName name))
  at_conversion : {to : BasisId} {x : Expr} {at : Place} {operand answer : Answer} → Evaluates names x operand → ActsOn (ConversionRow (place_of at) to) operand answer
      → Opened names (form.Convert to x at) answer
  at_function : {map : Linear} {x : Expr} {at : Place} {operand answer : Answer} → Evaluates names x operand → ActsOn (LinearRow map (place_of at)) operand answer
      → Opened names (form.Apply map x at) answer
  at_sum : {part : Signed} {parts : List Signed} {first signed answer : Answer} → Evaluates names part.value first → Signs part.minus first signed
      → Folds names signed (steps_of_sum parts) answer → Opened names (form.Sum (part ∷ parts)) answer
  at_tensor : {part : Expr} {parts : List Expr} {first answer : Answer} → Evaluates names part first → Folds names first (steps_of_tensor parts) answer
      → Opened names (form.Tensor (part ∷ parts)) answer
  at_product : {part : Factor} {parts : List Factor} {first answer : Answer} → Evaluates names part.value first → Folds names first (steps_of_product parts) answer
      → Opened names (form.Product (part ∷ parts)) answer

-- An expression comes to its answer at its outermost form.
opened : (names : Names) (x : Expr) (r : Answer) → Evaluates names x r → Opened names (out-Expr x) r
opened names x r (number {n = n}) = subst (λ (y : Expr-F Expr Factor Signed). Opened names y r) (sym (out-number n)) at_number
opened names x r (element {basis = basis} {items = items} spells) = subst (λ (y : Expr-F Expr Factor Signed). Opened names y r) (sym (out-element basis items)) (at_element spells)
opened names x r (known {name = name} is) = subst (λ (y : Expr-F Expr Factor Signed). Opened names y r) (sym (out-name name)) (at_known is)
opened names x r (unknown {name = name} is) = subst (λ (y : Expr-F Expr Factor Signed). Opened names y r) (sym (out-name name)) (at_unknown is)
opened names x r (converted {to = to} {x = y} {at = at} h k) = subst (λ (z : Expr-F Expr Factor Signed). Opened names z r) (sym (out-convert to y at)) (at_conversion h k)
opened names x r (applied {map = map} {x = y} {at = at} h k) = subst (λ (z : Expr-F Expr Factor Signed). Opened names z r) (sym (out-apply map y at)) (at_function h k)
opened names x r (sum part parts h k l) = subst (λ (y : Expr-F Expr Factor Signed). Opened names y r) (sym (out-sum (part ∷ parts))) (at_sum h k l)
opened names x r (tensor_product part parts h l) = subst (λ (y : Expr-F Expr Factor Signed). Opened names y r) (sym (out-tensor (part ∷ parts))) (at_tensor h l)
opened names x r (product_answer part parts h l) = subst (λ (y : Expr-F Expr Factor Signed). Opened names y r) (sym (out-product (part ∷ parts))) (at_product h l)

-- so at the form that it is known to have
opened-at : (names : Names) (x : Expr) (y : Expr-F Expr Factor Signed) (r : Answer) → out-Expr x ≡ y → Evaluates names x r → Opened names y r
opened-at names x y r is h = subst (λ (z : Expr-F Expr Factor Signed). Opened names z r) is (opened names x r h)

-- Each form comes to one answer, where its parts do.

-- A number comes to its value alone.
number_once : (names : Names) (n : ℕ) (s : Answer) → Opened names (form.Number n) s → Ok (number_value n) ≡ s
number_once names n s at_number = refl

-- So does a basis element.
element_once : (names : Names) (basis : BasisId) (items : List Lexeme) (code : List ℕ) (s : Answer) → Spells basis items code → Opened names (form.Element basis items) s → Ok (element_value basis code) ≡ s
element_once names basis items code s spells (at_element {code = code'} spells') = ap (λ index. Ok (element_value basis index)) (spells_once basis items code code' spells spells')

-- So does a name that has a value.
known_once : (names : Names) (name : List ℕ) (v : Expansion) (s : Answer) → value_of names name ≡ Some v → Opened names (form.Named name) s → Ok v ≡ s
known_once names name v s is (at_known {v = w} is') = let same : Some v ≡ Some w = sym is ∙ is' in cc
known_once names name v s is (at_unknown is') = absurd (let both : Some v ≡ None = sym is ∙ is' in cc)

-- A name that has none is refused.
unknown_once : (names : Names) (name : List ℕ) (s : Answer) → value_of names name ≡ None → Opened names (form.Named name) s → Err (refusal.UnknownName name) ≡ s
unknown_once names name s is (at_known {v = w} is') = absurd (let both : Some w ≡ None = sym is' ∙ is in cc)
unknown_once names name s is (at_unknown is') = refl

-- A conversion comes to one answer.
conversion_once : (names : Names) (to : BasisId) (x : Expr) (at : Place) (operand r s : Answer) → ActsOnce (ConversionRow (place_of at) to) → IsGood operand → ActsOn (ConversionRow (place_of at) to) operand r
    → ((t : Answer) → Evaluates names x t → operand ≡ t) → Opened names (form.Convert to x at) s → r ≡ s
conversion_once names to x at operand r s acts good k one (at_conversion {operand = operand'} h' k') =
    acts_once (ConversionRow (place_of at) to) operand r s acts good k (subst (λ (t : Answer). ActsOn (ConversionRow (place_of at) to) t s) (sym (one operand' h')) k')

-- So does a function on a component.
function_once : (names : Names) (map : Linear) (x : Expr) (at : Place) (operand r s : Answer) → ActsOnce (LinearRow map (place_of at)) → IsGood operand → ActsOn (LinearRow map (place_of at)) operand r
    → ((t : Answer) → Evaluates names x t → operand ≡ t) → Opened names (form.Apply map x at) s → r ≡ s
function_once names map x at operand r s acts good k one (at_function {operand = operand'} h' k') =
    acts_once (LinearRow map (place_of at)) operand r s acts good k (subst (λ (t : Answer). ActsOn (LinearRow map (place_of at)) t s) (sym (one operand' h')) k')

-- A sum comes to one answer.
sum_once : RowLaws → (names : Names) (part : Signed) (parts : List Signed) (first signed r s : Answer) → IsGood first → Signs part.minus first signed
    → ((t : Answer) → Evaluates names part.value t → first ≡ t) → ((t : Answer) → Folds names signed (steps_of_sum parts) t → r ≡ t)
    → Opened names (form.Sum (part ∷ parts)) s → r ≡ s
sum_once laws names part parts first signed r s p k one_first one_fold (at_sum {first = first'} {signed = signed'} h' k' l') =
    let here : Signs part.minus first signed' = subst (λ (t : Answer). Signs part.minus t signed') (sym (one_first first' h')) k' in
    one_fold s (subst (λ (t : Answer). Folds names t (steps_of_sum parts) s) (sym (signs_once laws part.minus first signed signed' p k here)) l')

-- A tensor product comes to one answer.
tensor_once : (names : Names) (part : Expr) (parts : List Expr) (first r s : Answer)
    → ((t : Answer) → Evaluates names part t → first ≡ t) → ((t : Answer) → Folds names first (steps_of_tensor parts) t → r ≡ t)
    → Opened names (form.Tensor (part ∷ parts)) s → r ≡ s
tensor_once names part parts first r s one_first one_fold (at_tensor {first = first'} h' l') =
    one_fold s (subst (λ (t : Answer). Folds names t (steps_of_tensor parts) s) (sym (one_first first' h')) l')

-- A product comes to one answer.
product_once : (names : Names) (part : Factor) (parts : List Factor) (first r s : Answer)
    → ((t : Answer) → Evaluates names part.value t → first ≡ t) → ((t : Answer) → Folds names first (steps_of_product parts) t → r ≡ t)
    → Opened names (form.Product (part ∷ parts)) s → r ≡ s
product_once names part parts first r s one_first one_fold (at_product {first = first'} h' l') =
    one_fold s (subst (λ (t : Answer). Folds names t (steps_of_product parts) s) (sym (one_first first' h')) l')

-- The steps after an operand come to one answer.
step_once : RowLaws → (names : Names) (a : Expansion) (o : Operator) (x : Expr) (operand next r s : Answer) (steps : Steps) → IsValue a → IsGood operand → Applies o a operand next
    → ((t : Answer) → Evaluates names x t → operand ≡ t) → ((t : Answer) → Folds names next steps t → r ≡ t)
    → Folds names (Ok a) ((o, x) ∷ steps) s → r ≡ s
step_once laws names a o x operand next r s steps p q k one_operand one_fold (step {operand = operand'} {next = next'} h' k' l') =
    let here : Applies o a operand next' = subst (λ (t : Answer). Applies o a t next') (sym (one_operand operand' h')) k' in
    one_fold s (subst (λ (t : Answer). Folds names t steps s) (sym (applies_once laws o a operand next next' p q k here)) l')

-- Where no step is left, the answer is the one in hand.
done_once : (names : Names) (start s : Answer) → Folds names start [] s → start ≡ s
done_once names start s done = refl

-- A refusal stays through the steps.
refused_once : (names : Names) (x : EvaluationRefusal) (o : Operator) (y : Expr) (steps : Steps) (s : Answer) → Folds names (Err x) ((o, y) ∷ steps) s → Err x ≡ s
refused_once names x o y steps s refused = refl

module _ (laws : RowLaws) (names : Names) (values : AreValues names) where
  mutual
    -- A built expression comes to one answer.
    expression_once : (x : Expr) (r s : Answer) → IsBuilt x → Evaluates names x r → Evaluates names x s → r ≡ s
    expression_once x r s built (number {n = n}) second = number_once names n s (opened-at names x (form.Number n) s (out-number n) second)
    expression_once x r s built (element {basis = basis} {items = items} {code = code} spells) second =
        element_once names basis items code s spells (opened-at names x (form.Element basis items) s (out-element basis items) second)
    expression_once x r s built (known {name = name} {v = v} is) second = known_once names name v s is (opened-at names x (form.Named name) s (out-name name) second)
    expression_once x r s built (unknown {name = name} is) second = unknown_once names name s is (opened-at names x (form.Named name) s (out-name name) second)
    expression_once x r s built (converted {to = to} {x = y} {at = at} {operand = operand} h k) second =
        let parts_built = built_conversion-inv to y at built in
        conversion_once names to y at operand r s (conversion_acts laws (place_of at) to parts_built.0) (evaluated_good names values y operand parts_built.1 h) k
        (λ t h'. expression_once y operand t parts_built.1 h h')
        (opened-at names x (form.Convert to y at) s (out-convert to y at) second)
    expression_once x r s built (applied {map = map} {x = y} {at = at} {operand = operand} h k) second =
        let parts_built = built_function-inv map y at built in
        function_once names map y at operand r s (function_acts laws map (place_of at) parts_built.0) (evaluated_good names values y operand parts_built.1 h) k
        (λ t h'. expression_once y operand t parts_built.1 h h')
        (opened-at names x (form.Apply map y at) s (out-apply map y at) second)
    expression_once x r s built (sum part parts {first = first} {signed = signed} h k l) second =
        let parts_built = built_sum-parts part parts built in
        let good = evaluated_good names values part.value first parts_built.0 h in
        sum_once laws names part parts first signed r s good k
        (λ t h'. expression_once part.value first t parts_built.0 h h')
        (λ t l'. fold_once signed (steps_of_sum parts) r t parts_built.1 (signs_good part.minus first signed good k) l l')
        (opened-at names x (form.Sum (part ∷ parts)) s (out-sum (part ∷ parts)) second)
    expression_once x r s built (tensor_product part parts {first = first} h l) second =
        let parts_built = built_tensor-parts part parts built in
        tensor_once names part parts first r s
        (λ t h'. expression_once part first t parts_built.0 h h')
        (λ t l'. fold_once first (steps_of_tensor parts) r t parts_built.1 (evaluated_good names values part first parts_built.0 h) l l')
        (opened-at names x (form.Tensor (part ∷ parts)) s (out-tensor (part ∷ parts)) second)
    expression_once x r s built (product_answer part parts {first = first} h l) second =
        let parts_built = built_product-parts part parts built in
        product_once names part parts first r s
        (λ t h'. expression_once part.value first t parts_built.0 h h')
        (λ t l'. fold_once first (steps_of_product parts) r t parts_built.1 (evaluated_good names values part.value first parts_built.0 h) l l')
        (opened-at names x (form.Product (part ∷ parts)) s (out-product (part ∷ parts)) second)

    -- So do its later operands.
    fold_once : (start : Answer) (steps : Steps) (r s : Answer) → AreBuilt steps → IsGood start → Folds names start steps r → Folds names start steps s → r ≡ s
    fold_once start steps r s built good done second = done_once names start s second
    fold_once start steps r s built good (refused {r = x} {o = o} {x = y} {steps = later}) second = refused_once names x o y later s second
    fold_once start steps r s (built_step one more) good (step {a = a} {o = o} {x = x} {operand = operand} {next = next} {steps = later} h k l) second =
        step_once laws names a o x operand next r s later good (evaluated_good names values x operand one h) k
        (λ t h'. expression_once x operand t one h h')
        (λ t l'. fold_once next later r t more (applies_good o a operand next k) l l')
        second

-- A built expression comes to one answer.
pub evaluation_once : (names : Names) (x : Expr) (r s : Answer) → AreValues names → IsBuilt x → Evaluates names x r → Evaluates names x s → r ≡ s
evaluation_once names x r s values built h k = expression_once row_laws names values x r s built h k
