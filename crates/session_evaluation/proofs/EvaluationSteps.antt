-- How the calls of an evaluation follow the cases of its definition.
use Rattle.std.proofs.Common.{◌≡◌, ◌⊎◌, ℕ, ◌<◌, inl, inr, Bool, true, false, if◌then◌else◌, List, [], ◌∷◌, length, Option, Some, None, option_copied, Ok, Err, Bor, refl, sym, ◌∙◌, ap, subst, arith}
use Rattle.basis_names.specs.declared.bases.BasisId.{BasisId}
use Rattle.session_tokens.specs.declared.lexeme.Lexeme.{Lexeme}
use Rattle.session_tokens.specs.declared.lexeme.Linear.{Linear}
use Rattle.hopf_laws.specs.Values.{Expansion}
use Rattle.basis_routes.specs.Conversions.{ConversionRow}
use Rattle.session_grammar.specs.declared.expression.Expr.{Expr}
use Rattle.session_grammar.specs.declared.expression.Place.{Place}
use Rattle.session_evaluation.specs.Functions.{place_of, LinearRow}
use Rattle.hopf_ops.specs.declared.operator.Operator.{Operator}
use Rattle.hopf_ops.specs.declared.operator.Operator.TheVariants.{Plus, Minus, Times, Over}
use Rattle.session_evaluation.specs.declared.refusal.EvaluationRefusal.{EvaluationRefusal}
use Rattle.session_evaluation.specs.Names.{Names, value_of}
use Rattle.session_evaluation.specs.Built.{IsBuilt, built_number, built_element, built_name, built_conversion, built_function, built_sum, built_tensor, built_product, AreBuilt, built_step}
use Rattle.session_evaluation.specs.Evaluation.{Answer, Steps, steps_of_tensor, steps_of_product, OrMemory, number_value, Allows, Operates, Applies, Signs, Evaluates, number, element, known, unknown, converted, applied, sum, tensor_product, product, Folds, done, refused, step}
use Rattle.session_evaluation.specs.EvaluationSteps.{IsElement, is_minus, steps_in, steps_of}
use Rattle.session_evaluation.proofs.BuiltForms.{out-number, out-element, out-name, out-convert, out-apply, out-sum, out-tensor, out-product}
use Rattle.basis_routes.specs.declared.refusal.Refusal.TheVariants as value
use Rattle.session_grammar.specs.declared.expression.Expr.TheVariants as e
use Rattle.session_evaluation.specs.declared.refusal.EvaluationRefusal.TheVariants as refusal

-- the value of a name was found
pub found : (names : Names) (name looked : List ℕ) (r : Option (Bor Expansion)) (b : Bor Expansion) (v : Expansion) → option_copied r ≡ value_of names looked → looked ≡ name → r ≡ Some b → v ≡ b.now
    → Evaluates names (e.Named name) (Ok v)
found names name looked r b v copied same is v_is =
    known (ap (value_of names) (sym same) ∙ sym copied ∙ ap option_copied is ∙ ap Some (sym v_is))

-- the name has no value, or its refusal wanted memory
pub lost : (names : Names) (name looked : List ℕ) (r : Option (Bor Expansion)) (q : EvaluationRefusal) → option_copied r ≡ value_of names looked → looked ≡ name → r ≡ None
    → (q ≡ refusal.Value value.Memory) ⊎ (q ≡ refusal.UnknownName name) → OrMemory (Evaluates names (e.Named name)) (Err q)
lost names name looked r q copied same is (inl memory) = inl (ap Err memory)
lost names name looked r q copied same is (inr told) =
    inr (subst (λ (p : EvaluationRefusal). Evaluates names (e.Named name) (Err p)) (sym told) (unknown (ap (value_of names) (sym same) ∙ sym copied ∙ ap option_copied is)))

-- an expression of another name
pub renamed : (names : Names) (x y : Expr) (answer : Answer) → x ≡ y → OrMemory (Evaluates names y) answer → OrMemory (Evaluates names x) answer
renamed names x y answer is h = subst (λ (z : Expr). OrMemory (Evaluates names z) answer) (sym is) h

pub number_evaluates : (names : Names) (n : ℕ) (answer : Answer) → OrMemory (λ a. a ≡ Ok (number_value n)) answer → OrMemory (Evaluates names (e.Number n)) answer
number_evaluates names n answer (inl memory) = inl memory
number_evaluates names n answer (inr is) = inr (subst (λ (a : Answer). Evaluates names (e.Number n) a) (sym is) number)

-- an answer that is no refusal did not want memory
not_memory : (P : Answer → Type 0) (a : Expansion) → OrMemory P (Ok a) → P (Ok a)
not_memory P a (inl memory) = absurd (cc)
not_memory P a (inr h) = h

-- a conversion of an operand that was evaluated
pub conversion_evaluates : (names : Names) (to : BasisId) (x : Expr) (at : Place) (a : Expansion) (answer : Answer) → OrMemory (Evaluates names x) (Ok a)
    → OrMemory (Allows (ConversionRow (place_of at) to a)) answer → OrMemory (Evaluates names (e.Convert to x at)) answer
conversion_evaluates names to x at a answer h (inl memory) = inl memory
conversion_evaluates names to x at a answer h (inr allows) = inr (converted (not_memory (Evaluates names x) a h) allows)

-- one whose operand is refused, or wants memory
pub conversion_refused : (names : Names) (to : BasisId) (x : Expr) (at : Place) (q : EvaluationRefusal) → OrMemory (Evaluates names x) (Err q) → OrMemory (Evaluates names (e.Convert to x at)) (Err q)
conversion_refused names to x at q (inl memory) = inl memory
conversion_refused names to x at q (inr h) = inr (converted h refl)

-- a function on an operand that was evaluated
pub function_evaluates : (names : Names) (map : Linear) (x : Expr) (at : Place) (a : Expansion) (answer : Answer) → OrMemory (Evaluates names x) (Ok a)
    → OrMemory (Allows (LinearRow map (place_of at) a)) answer → OrMemory (Evaluates names (e.Apply map x at)) answer
function_evaluates names map x at a answer h (inl memory) = inl memory
function_evaluates names map x at a answer h (inr allows) = inr (applied (not_memory (Evaluates names x) a h) allows)

-- one whose operand is refused, or wants memory
pub function_refused : (names : Names) (map : Linear) (x : Expr) (at : Place) (q : EvaluationRefusal) → OrMemory (Evaluates names x) (Err q) → OrMemory (Evaluates names (e.Apply map x at)) (Err q)
function_refused names map x at q (inl memory) = inl memory
function_refused names map x at q (inr h) = inr (applied h refl)

pub element_evaluates : (names : Names) (basis : BasisId) (items : List Lexeme) (answer : Answer) → OrMemory (IsElement basis items) answer → OrMemory (Evaluates names (e.Element basis items)) answer
element_evaluates names basis items answer (inl memory) = inl memory
element_evaluates names basis items answer (inr (code, spells, is)) = inr (subst (λ (a : Answer). Evaluates names (e.Element basis items) a) (sym is) (element spells))

-- a value of which this holds is kept, for which memory may want
pub kept : (P : Answer → Type 0) (v : Expansion) (answer : Answer) → OrMemory P (Ok v) → OrMemory (λ r. r ≡ Ok v) answer → OrMemory P answer
kept P v answer h (inl memory) = inl memory
kept P v answer h (inr is) = subst (OrMemory P) (sym is) h

-- where it is not kept, memory wants
pub wanting : (P : Answer → Type 0) (v : Expansion) (q : EvaluationRefusal) → OrMemory (λ r. r ≡ Ok v) (Err q) → OrMemory P (Err q)
wanting P v q (inl memory) = inl memory
wanting P v q (inr is) = absurd (cc)

-- what is kept is the value
pub kept_is : (v w : Expansion) → OrMemory (λ r. r ≡ Ok v) (Ok w) → w ≡ v
kept_is v w (inl memory) = absurd (cc)
kept_is v w (inr is) = cc

-- One more step: the operand is evaluated, and then the operation applied.
abbrev pub TakesStep : Names → Operator → Expansion → Expr → Answer → Type 0
TakesStep names o a x next = (operand : Answer) × Evaluates names x operand × Applies o a operand next

-- an operand was evaluated, and then the operation applied
pub takes_step : (names : Names) (o : Operator) (a b : Expansion) (x : Expr) (next : Answer) → OrMemory (Evaluates names x) (Ok b) → OrMemory (Operates o a b) next → OrMemory (TakesStep names o a x) next
takes_step names o a b x next h (inl memory) = inl memory
takes_step names o a b x next h (inr operates) = inr (Ok b, not_memory (Evaluates names x) b h, operates)

-- the operand is refused, or wants memory
pub refused_step : (names : Names) (o : Operator) (a : Expansion) (x : Expr) (q : EvaluationRefusal) → OrMemory (Evaluates names x) (Err q) → OrMemory (TakesStep names o a x) (Err q)
refused_step names o a x q (inl memory) = inl memory
refused_step names o a x q (inr h) = inr (Err q, h, refl)

-- a refusal stays
pub stays : (names : Names) (r : EvaluationRefusal) (steps : Steps) → Folds names (Err r) steps (Err r)
stays names r [] = done
stays names r ((o, x) ∷ steps) = refused

-- What is left of an expression while its parts are evaluated: steps that are built, and what they come to from here is what the whole comes to.
pub record Remains (names : Names) (whole : Expr) (so_far : Expansion) (steps : Steps) : Type 0 where
  pub built : AreBuilt steps
  pub onward : (answer : Answer) → Folds names (Ok so_far) steps answer → Evaluates names whole answer

first_built : (o : Operator) (x : Expr) (steps : Steps) → AreBuilt ((o, x) ∷ steps) → IsBuilt x
first_built o x steps (built_step h later) = h

later_built : (o : Operator) (x : Expr) (steps : Steps) → AreBuilt ((o, x) ∷ steps) → AreBuilt steps
later_built o x steps (built_step h later) = later

-- the next operand is built
pub remains_built : (names : Names) (whole : Expr) (a : Expansion) (o : Operator) (x : Expr) (steps : Steps) → Remains names whole a ((o, x) ∷ steps) → IsBuilt x
remains_built names whole a o x steps h = first_built o x steps h.built

one_step : (names : Names) (o : Operator) (a : Expansion) (x : Expr) (next answer : Answer) (steps : Steps) → TakesStep names o a x next → Folds names next steps answer
    → Folds names (Ok a) ((o, x) ∷ steps) answer
one_step names o a x next answer steps (operand, h, applies) later = step h applies later

-- one step was taken
pub remains_step : (names : Names) (whole : Expr) (a b : Expansion) (o : Operator) (x : Expr) (steps : Steps) → Remains names whole a ((o, x) ∷ steps)
    → OrMemory (TakesStep names o a x) (Ok b) → Remains names whole b steps
remains_step names whole a b o x steps h (inl memory) = absurd (cc)
remains_step names whole a b o x steps h (inr takes) = record {
  built = later_built o x steps h.built;
  onward = λ answer later. h.onward answer (one_step names o a x (Ok b) answer steps takes later);
}

-- it was refused
pub remains_refused : (names : Names) (whole : Expr) (a : Expansion) (o : Operator) (x : Expr) (steps : Steps) (q : EvaluationRefusal) → Remains names whole a ((o, x) ∷ steps)
    → OrMemory (TakesStep names o a x) (Err q) → OrMemory (Evaluates names whole) (Err q)
remains_refused names whole a o x steps q h (inl memory) = inl memory
remains_refused names whole a o x steps q h (inr takes) = inr (h.onward (Err q) (one_step names o a x (Err q) (Err q) steps takes (stays names q steps)))

-- nothing is left
pub remains_done : (names : Names) (whole : Expr) (a : Expansion) → Remains names whole a [] → OrMemory (Evaluates names whole) (Ok a)
remains_done names whole a h = inr (h.onward (Ok a) done)

-- How an expression begins: its first operand and the later ones are built, and what these come to is what it comes to.
pub data Begun (names : Names) (x : Expr) : Steps → Type 0 where
  begun : {o : Operator} {y : Expr} {rest : Steps} → IsBuilt y → AreBuilt rest
      → ((first signed answer : Answer) → Evaluates names y first → Signs (is_minus o) first signed → Folds names signed rest answer → Evaluates names x answer) → Begun names x ((o, y) ∷ rest)

minus_is : (minus : Bool) → is_minus (if minus then Minus else Plus) ≡ minus
minus_is true = refl
minus_is false = refl

factor_has_none : (divides : Bool) → is_minus (if divides then Over else Times) ≡ false
factor_has_none true = refl
factor_has_none false = refl

-- a sum, a tensor product or a product begins so
pub begins : (names : Names) (x : Expr) → IsBuilt x → 0 < length (steps_of x) → Begun names x (steps_of x)
begins names x (built_number {n = n} small) some = absurd (omega (arith, some, ap (λ form. length (steps_in form)) (out-number n)))
begins names x (built_element {basis = basis} {items = items} spells) some = absurd (omega (arith, some, ap (λ form. length (steps_in form)) (out-element basis items)))
begins names x (built_name {name = name}) some = absurd (omega (arith, some, ap (λ form. length (steps_in form)) (out-name name)))
begins names x (built_conversion {to = to} {x = y} {at = at} basis built) some = absurd (omega (arith, some, ap (λ form. length (steps_in form)) (out-convert to y at)))
begins names x (built_function {map = map} {x = y} {at = at} is built) some = absurd (omega (arith, some, ap (λ form. length (steps_in form)) (out-apply map y at)))
begins names x (built_sum part parts h later) some =
    subst (Begun names x) (sym (ap steps_in (out-sum (part ∷ parts))))
    (begun h later (λ first signed answer one signs rest. sum part parts one (subst (λ (minus : Bool). Signs minus first signed) (minus_is part.minus) signs) rest))
begins names x (built_tensor part parts h later) some =
    subst (Begun names x) (sym (ap steps_in (out-tensor (part ∷ parts))))
    (begun h later (λ first signed answer one signs rest. tensor_product part parts one (subst (λ (a : Answer). Folds names a (steps_of_tensor parts) answer) signs rest)))
begins names x (built_product part parts h later) some =
    subst (Begun names x) (sym (ap steps_in (out-product (part ∷ parts))))
    (begun h later (λ first signed answer one signs rest. product part parts one
    (subst (λ (a : Answer). Folds names a (steps_of_product parts) answer) (subst (λ (minus : Bool). Signs minus first signed) (factor_has_none part.divides) signs) rest)))

-- the first operand is built
pub begun_built : (names : Names) (x : Expr) (o : Operator) (y : Expr) (rest : Steps) → Begun names x ((o, y) ∷ rest) → IsBuilt y
begun_built names x o y rest (begun h later onward) = h

signs_refused : (minus : Bool) (q : EvaluationRefusal) → Signs minus (Err q) (Err q)
signs_refused true q = refl
signs_refused false q = refl

-- it is refused
pub begun_refused : (names : Names) (x : Expr) (o : Operator) (y : Expr) (rest : Steps) (q : EvaluationRefusal) → Begun names x ((o, y) ∷ rest) → OrMemory (Evaluates names y) (Err q)
    → OrMemory (Evaluates names x) (Err q)
begun_refused names x o y rest q (begun h later onward) (inl memory) = inl memory
begun_refused names x o y rest q (begun h later onward) (inr one) = inr (onward (Err q) (Err q) (Err q) one (signs_refused (is_minus o) q) (stays names q rest))

-- its sign wants memory
pub sign_refused : (names : Names) (x : Expr) (o : Operator) (y : Expr) (rest : Steps) (a : Expansion) (q : EvaluationRefusal) → Begun names x ((o, y) ∷ rest) → OrMemory (Evaluates names y) (Ok a)
    → OrMemory (Signs (is_minus o) (Ok a)) (Err q) → OrMemory (Evaluates names x) (Err q)
sign_refused names x o y rest a q (begun h later onward) one (inl memory) = inl memory
sign_refused names x o y rest a q (begun h later onward) one (inr signs) = inr (onward (Ok a) (Err q) (Err q) (not_memory (Evaluates names y) a one) signs (stays names q rest))

-- the later operands remain after it
pub begun_remains : (names : Names) (x : Expr) (o : Operator) (y : Expr) (rest : Steps) (a v : Expansion) → Begun names x ((o, y) ∷ rest) → OrMemory (Evaluates names y) (Ok a)
    → OrMemory (Signs (is_minus o) (Ok a)) (Ok v) → Remains names x v rest
begun_remains names x o y rest a v (begun h later onward) one signs = record {
  built = later;
  onward = λ answer more. onward (Ok a) (Ok v) answer (not_memory (Evaluates names y) a one) (not_memory (Signs (is_minus o) (Ok a)) v signs) more;
}
