-- What an expression comes to: its value, or the refusal that comes first. Operands are evaluated from left to right.
use Rattle.std.specs.Prelude.{◌≡◌, ◌⊎◌, ℕ, pos, Bool, true, false, List, [], ◌∷◌, map, Some, None, Result, Ok, Err, if◌then◌else◌}
use Rattle.realisations.specs.Combinations.{terms_of}
use Rattle.basis_names.specs.declared.bases.BasisId.{BasisId}
use Rattle.session_tokens.specs.declared.lexeme.Lexeme.{Lexeme}
use Rattle.session_tokens.specs.declared.lexeme.Linear.{Linear}
use Rattle.session_evaluation.specs.Elements.{Spells}
use Rattle.session_evaluation.specs.Functions.{place_of, LinearRow}
use Rattle.hopf_laws.specs.Values.{Expansion}
use Rattle.basis_routes.specs.declared.refusal.Refusal.{Refusal}
use Rattle.basis_routes.specs.Conversions.{ConversionRow}
use Rattle.basis_routes.specs.Rows.{Row}
use Rattle.hopf_ops.specs.declared.operator.Operator.{Operator}
use Rattle.hopf_ops.specs.declared.operator.Operator.TheVariants.{Plus, Minus, Hash, Times, Over}
use Rattle.hopf_ops.specs.Operations.{RowOf, NegationRow, EqualRow}
use Rattle.session_grammar.specs.declared.expression.Expr.{Expr}
use Rattle.session_grammar.specs.declared.expression.Factor.{Factor}
use Rattle.session_grammar.specs.declared.expression.Place.{Place}
use Rattle.session_grammar.specs.declared.expression.Signed.{Signed}
use Rattle.session_evaluation.specs.declared.refusal.EvaluationRefusal.{EvaluationRefusal}
use Rattle.session_evaluation.specs.Names.{Names, value_of}
use Rattle.basis_routes.specs.declared.refusal.Refusal.TheVariants as value
use Rattle.session_grammar.specs.declared.expression.Expr.TheVariants as e
use Rattle.session_evaluation.specs.declared.refusal.EvaluationRefusal.TheVariants as refusal

-- a value, or why there is none
abbrev pub Answer : Type 0
Answer = Result Expansion EvaluationRefusal

-- want of memory, which may come at any time, or an answer of which this holds
abbrev pub OrMemory : {T : Type 0} → (Result T EvaluationRefusal → Type 0) → Result T EvaluationRefusal → Type 0
OrMemory P answer = (answer ≡ Err (refusal.Value value.Memory)) ⊎ P answer

-- the scalar that a number is
abbrev pub number_value : ℕ → Expansion
number_value n = record { bases = []; combination = record { rank = 0; den = 1; terms = terms_of (pos n) [] } }

-- a basis element
abbrev pub element_value : BasisId → List ℕ → Expansion
element_value basis code = record { bases = basis ∷ []; combination = record { rank = 1; den = 1; terms = (pos 1, code ∷ []) ∷ [] } }

-- the refusal of an operation is that of its statement
abbrev pub told : {T : Type 0} → Result T Refusal → Result T EvaluationRefusal
told (Ok v) = Ok v
told (Err r) = Err (refusal.Value r)

-- an operation answers what its row allows
abbrev pub Allows : {T : Type 0} → (Result T Refusal → Type 0) → Result T EvaluationRefusal → Type 0
Allows {T = T} Allowed answer = (r : Result T Refusal) × Allowed r × (answer ≡ told r)

-- an operation on two values
abbrev pub Operates : Operator → Expansion → Expansion → Answer → Type 0
Operates o a b answer = Allows (RowOf o a b) answer

-- the operation once its second operand was evaluated, which may have been refused
abbrev pub Applies : Operator → Expansion → Answer → Answer → Type 0
Applies o a (Ok b) answer = Operates o a b answer
Applies o a (Err r) answer = answer ≡ Err r

-- an operation on one value once this was evaluated, which may have been refused
abbrev pub ActsOn : (Expansion → Row) → Answer → Answer → Type 0
ActsOn RowOn (Ok a) answer = Allows (RowOn a) answer
ActsOn RowOn (Err r) answer = answer ≡ Err r

-- the first operand of a sum, with its sign
abbrev pub Signs : Bool → Answer → Answer → Type 0
Signs false first answer = answer ≡ first
Signs true first answer = ActsOn NegationRow first answer

-- The later operands of an expression, each with the operation before it.

abbrev pub Steps : Type 0
Steps = List (Operator × Expr)

abbrev pub steps_of_sum : List Signed → Steps
steps_of_sum parts = map (λ part. (if part.minus then Minus else Plus, part.value)) parts

abbrev pub steps_of_tensor : List Expr → Steps
steps_of_tensor parts = map (λ part. (Hash, part)) parts

abbrev pub steps_of_product : List Factor → Steps
steps_of_product parts = map (λ part. (if part.divides then Over else Times, part.value)) parts

-- An expression comes to an answer, in the names of a session.
mutual
  pub data Evaluates (names : Names) : Expr → Answer → Type 0 where
    number : {n : ℕ} → Evaluates names (e.Number n) (Ok (number_value n))
    element : {basis : BasisId} {items : List Lexeme} {code : List ℕ} → Spells basis items code → Evaluates names (e.Element basis items) (Ok (element_value basis code))
    known : {name : List ℕ} {v : Expansion} → value_of names name ≡ Some v → Evaluates names (e.Named name) (Ok v)
    unknown : {name : List ℕ} → value_of names name ≡ None → Evaluates names (e.Named name) (Err (refusal.UnknownName name))
    converted : {to : BasisId} {x : Expr} {at : Place} {operand answer : Answer} → Evaluates names x operand → ActsOn (ConversionRow (place_of at) to) operand answer
        → Evaluates names (e.Convert to x at) answer
    applied : {map : Linear} {x : Expr} {at : Place} {operand answer : Answer} → Evaluates names x operand → ActsOn (LinearRow map (place_of at)) operand answer
        → Evaluates names (e.Apply map x at) answer
    sum : (part : Signed) (parts : List Signed) {first signed answer : Answer} → Evaluates names part.value first → Signs part.minus first signed
        → Folds names signed (steps_of_sum parts) answer → Evaluates names (e.Sum (part ∷ parts)) answer
    tensor_product : (part : Expr) (parts : List Expr) {first answer : Answer} → Evaluates names part first
        → Folds names first (steps_of_tensor parts) answer → Evaluates names (e.Tensor (part ∷ parts)) answer
    product : (part : Factor) (parts : List Factor) {first answer : Answer} → Evaluates names part.value first
        → Folds names first (steps_of_product parts) answer → Evaluates names (e.Product (part ∷ parts)) answer

  -- operations are applied from left to right, each operand evaluated just before its operation; the first refusal is the answer
  pub data Folds (names : Names) : Answer → Steps → Answer → Type 0 where
    done : {answer : Answer} → Folds names answer [] answer
    refused : {r : EvaluationRefusal} {o : Operator} {x : Expr} {steps : Steps} → Folds names (Err r) ((o, x) ∷ steps) (Err r)
    step : {a : Expansion} {o : Operator} {x : Expr} {operand next answer : Answer} {steps : Steps} → Evaluates names x operand → Applies o a operand next
        → Folds names next steps answer → Folds names (Ok a) ((o, x) ∷ steps) answer

-- An equality of two expressions is true or false, or refused, in the names of a session: the first expression is evaluated, then the second, and then their values are compared; the first refusal is the answer.
pub data Compares (names : Names) (x y : Expr) : Result Bool EvaluationRefusal → Type 0 where
  first_refused : {r : EvaluationRefusal} → Evaluates names x (Err r) → Compares names x y (Err r)
  second_refused : {a : Expansion} {r : EvaluationRefusal} → Evaluates names x (Ok a) → Evaluates names y (Err r) → Compares names x y (Err r)
  compared : {a b : Expansion} {answer : Result Bool EvaluationRefusal} → Evaluates names x (Ok a) → Evaluates names y (Ok b) → Allows (EqualRow a b) answer → Compares names x y answer
