-- What evaluation asks of an expression, and every statement of the grammar in which nothing is refused has.
use Rattle.std.specs.Prelude.{ℕ, ◌^◌, ◌<◌, IsTrue, List, [], ◌∷◌}
use Rattle.basis_names.specs.declared.bases.BasisId.{BasisId}
use Rattle.built_bases.specs.Table.{is_built as is_built_basis}
use Rattle.built_forms.specs.Forms.{is_built_map}
use Rattle.session_tokens.specs.declared.lexeme.Lexeme.{Lexeme}
use Rattle.session_tokens.specs.declared.lexeme.Linear.{Linear}
use Rattle.session_evaluation.specs.Elements.{Spells}
use Rattle.session_grammar.specs.declared.expression.Expr.{Expr}
use Rattle.session_grammar.specs.declared.expression.Factor.{Factor}
use Rattle.session_grammar.specs.declared.expression.Place.{Place}
use Rattle.session_grammar.specs.declared.expression.Signed.{Signed}
use Rattle.session_grammar.specs.declared.expression.Statement.{Statement}
use Rattle.hopf_ops.specs.declared.operator.Operator.{Operator}
use Rattle.session_evaluation.specs.Evaluation.{Steps, steps_of_sum, steps_of_tensor, steps_of_product}
use Rattle.session_grammar.specs.declared.expression.Expr.TheVariants as e
use Rattle.session_grammar.specs.declared.expression.Statement.TheVariants as s

-- its forms are built, its numbers are below 2^127, its lists spell indices, and sums, tensors and products have a part
mutual
  pub data IsBuilt : Expr → Type 0 where
    built_number : {n : ℕ} → n < 2 ^ 127 → IsBuilt (e.Number n)
    built_element : {basis : BasisId} {items : List Lexeme} {code : List ℕ} → Spells basis items code → IsBuilt (e.Element basis items)
    built_name : {name : List ℕ} → IsBuilt (e.Named name)
    built_conversion : {to : BasisId} {x : Expr} {at : Place} → IsTrue (is_built_basis to) → IsBuilt x → IsBuilt (e.Convert to x at)
    built_function : {map : Linear} {x : Expr} {at : Place} → IsTrue (is_built_map map) → IsBuilt x → IsBuilt (e.Apply map x at)
    built_sum : (part : Signed) (parts : List Signed) → IsBuilt part.value → AreBuilt (steps_of_sum parts) → IsBuilt (e.Sum (part ∷ parts))
    built_tensor : (part : Expr) (parts : List Expr) → IsBuilt part → AreBuilt (steps_of_tensor parts) → IsBuilt (e.Tensor (part ∷ parts))
    built_product : (part : Factor) (parts : List Factor) → IsBuilt part.value → AreBuilt (steps_of_product parts) → IsBuilt (e.Product (part ∷ parts))

  pub data AreBuilt : Steps → Type 0 where
    no_steps : AreBuilt []
    built_step : {o : Operator} {x : Expr} {steps : Steps} → IsBuilt x → AreBuilt steps → AreBuilt ((o, x) ∷ steps)

-- a statement that is evaluated
pub data IsBuiltStatement : Statement → Type 0 where
  nothing : IsBuiltStatement s.Empty
  printed : {x : Expr} → IsBuilt x → IsBuiltStatement (s.Print x)
  assigned : {name : List ℕ} {x : Expr} → IsBuilt x → IsBuiltStatement (s.Assign name x)
  compared : {x y : Expr} → IsBuilt x → IsBuilt y → IsBuiltStatement (s.Equal x y)
