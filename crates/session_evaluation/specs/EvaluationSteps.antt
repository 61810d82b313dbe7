-- Nothing here need be believed: operands, and the steps of an expression as the evaluator takes them, for the contracts of private functions.
use Rattle.std.specs.Prelude.{◌≡◌, ℕ, Bool, true, false, List, [], Result, Ok, Err}
use Rattle.basis_names.specs.declared.bases.BasisId.{BasisId}
use Rattle.session_tokens.specs.declared.lexeme.Lexeme.{Lexeme}
use Rattle.hopf_laws.specs.Values.{Expansion}
use Rattle.hopf_ops.specs.declared.operator.Operator.{Operator}
use Rattle.hopf_ops.specs.declared.operator.Operator.TheVariants.{Minus}
use Rattle.session_grammar.specs.declared.expression.Expr.{Expr, out-Expr}
use Rattle.session_grammar.specs.declared.expression.Expr.TheOpen.{Expr-F}
use Rattle.session_grammar.specs.declared.expression.Factor.{Factor}
use Rattle.session_grammar.specs.declared.expression.Signed.{Signed}
use Rattle.session_evaluation.specs.declared.evaluation.Operand.{Operand}
use Rattle.session_evaluation.specs.declared.evaluation.Operand.TheVariants.{Known, Made}
use Rattle.session_evaluation.specs.declared.refusal.EvaluationRefusal.{EvaluationRefusal}
use Rattle.session_evaluation.specs.Elements.{Spells}
use Rattle.session_evaluation.specs.Evaluation.{Answer, Steps, element_value, steps_of_sum, steps_of_tensor, steps_of_product}
use Rattle.session_grammar.specs.declared.expression.Expr.TheOpen as form

-- the answer is the element that is spelled
abbrev pub IsElement : BasisId → List Lexeme → Answer → Type 0
IsElement basis items answer = (code : List ℕ) × Spells basis items code × (answer ≡ Ok (element_value basis code))

-- the value to operate on, of a name or made
abbrev pub held : Operand → Expansion
held (Known v) = v.now
held (Made v) = v

-- the same where evaluation may have refused it
abbrev pub answer_of : Result Operand EvaluationRefusal → Answer
answer_of (Ok a) = Ok (held a)
answer_of (Err r) = Err r

-- whether an operation, as a sign, is a minus
abbrev pub is_minus : Operator → Bool
is_minus Minus = true
is_minus _ = false

-- the operands of a sum, a tensor product or a product, each with the operation before it; the first one's counts only in a sum, as its sign
abbrev pub steps_in : Expr-F Expr Factor Signed → Steps
steps_in (form.Sum parts) = steps_of_sum parts
steps_in (form.Tensor parts) = steps_of_tensor parts
steps_in (form.Product parts) = steps_of_product parts
steps_in _ = []

abbrev pub steps_of : Expr → Steps
steps_of x = steps_in (out-Expr x)
