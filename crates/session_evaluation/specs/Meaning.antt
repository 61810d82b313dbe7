-- What an expression means: a reading, whatever bases its parts were entered in.
use Rattle.std.specs.Prelude.{◌≡◌, ◌≤◌, ◌↔◌, ℕ, pos, Bool, IsTrue, List, [], ◌∷◌, Some, map, if◌then◌else◌}
use Rattle.realisations.specs.Codes.{Code}
use Rattle.realisations.specs.Bases.{kind_of}
use Rattle.realisations.specs.Points.{ArePoints, Points}
use Rattle.realisations.specs.Readings.{Reading, leaf, applied, element, denominator, kinds_of, AgreeAt}
use Rattle.basis_names.specs.declared.bases.BasisId.{BasisId}
use Rattle.session_tokens.specs.declared.lexeme.Lexeme.{Lexeme}
use Rattle.session_tokens.specs.declared.lexeme.Linear.{Linear}
use Rattle.session_evaluation.specs.Elements.{Spells}
use Rattle.hopf_laws.specs.Values.{Expansion, reading_of}
use Rattle.session_grammar.specs.declared.expression.Expr.{Expr}
use Rattle.session_grammar.specs.declared.expression.Factor.{Factor}
use Rattle.session_grammar.specs.declared.expression.Place.{Place}
use Rattle.session_grammar.specs.declared.expression.Signed.{Signed}
use Rattle.basis_routes.specs.Places.{position_of}
use Rattle.hopf_ops.specs.declared.operator.Operator.{Operator}
use Rattle.session_evaluation.specs.Names.{Names, value_of}
use Rattle.session_evaluation.specs.Evaluation.{Steps, steps_of_sum, steps_of_tensor, steps_of_product}
use Rattle.session_grammar.specs.declared.expression.Expr.TheVariants as e
use Rattle.hopf_ops.specs.ReadingOperations.{combined, negative}
use Rattle.session_evaluation.specs.Functions.{operation_of, place_of}

-- a number, which has no component
abbrev pub number : ℕ → Reading
number n = leaf [] 1 ((pos n, []) ∷ [])

-- the first part of a sum, with its sign
abbrev pub signed : Bool → Reading → Reading
signed minus a = if minus then negative a else a

-- An expression means a reading, in the names of a session.
mutual
  pub data Means (names : Names) : Expr → Reading → Type 0 where
    number_means : {n : ℕ} → Means names (e.Number n) (number n)
    element_means : {basis : BasisId} {items : List Lexeme} {code : Code} → Spells basis items code → Means names (e.Element basis items) (element basis code)
    name_means : {name : List ℕ} {v : Expansion} → value_of names name ≡ Some v → Means names (e.Named name) (reading_of v)
    conversion_means : {to : BasisId} {x : Expr} {at : Place} {r : Reading} → Means names x r → Means names (e.Convert to x at) r
    function_means : {map : Linear} {x : Expr} {at : Place} {r : Reading} → Means names x r → Means names (e.Apply map x at) (applied (operation_of map) (position_of (place_of at)) r)
    sum_means : (part : Signed) (parts : List Signed) {first whole : Reading} → Means names part.value first
        → Combine names (signed part.minus first) (steps_of_sum parts) whole → Means names (e.Sum (part ∷ parts)) whole
    tensor_means : (part : Expr) (parts : List Expr) {first whole : Reading} → Means names part first
        → Combine names first (steps_of_tensor parts) whole → Means names (e.Tensor (part ∷ parts)) whole
    product_means : (part : Factor) (parts : List Factor) {first whole : Reading} → Means names part.value first
        → Combine names first (steps_of_product parts) whole → Means names (e.Product (part ∷ parts)) whole

  -- operations combine readings from left to right
  pub data Combine (names : Names) : Reading → Steps → Reading → Type 0 where
    combined_all : {whole : Reading} → Combine names whole [] whole
    combine : {a b whole : Reading} {o : Operator} {x : Expr} {steps : Steps} → Means names x b
        → Combine names (combined o a b) steps whole → Combine names a ((o, x) ∷ steps) whole

-- a value reads, at every tuple of points, as the expression means, over a positive denominator
pub record IsMeant (names : Names) (x : Expr) (v : Expansion) : Type 0 where
  pub meaning : Reading
  pub means : Means names x meaning
  pub positive : 1 ≤ denominator meaning
  pub reads : (ps : Points) → ArePoints (map kind_of v.bases) ps → AgreeAt (reading_of v) meaning ps

-- two expressions have meanings, over positive denominators and at points of the same kinds, and these agree at all tuples of points exactly where the answer is true
pub record TellsSame (names : Names) (x y : Expr) (answer : Bool) : Type 0 where
  pub first : Reading
  pub second : Reading
  pub means_first : Means names x first
  pub means_second : Means names y second
  pub positive_first : 1 ≤ denominator first
  pub positive_second : 1 ≤ denominator second
  pub kinds : kinds_of first ≡ kinds_of second
  pub tells : IsTrue answer ↔ ((ps : Points) → ArePoints (kinds_of first) ps → AgreeAt first second ps)
