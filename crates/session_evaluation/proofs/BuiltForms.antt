-- What a built expression has, by its form.
use Rattle.std.proofs.Common.{◌≡◌, ℕ, ◌^◌, ◌<◌, IsTrue, List, ◌∷◌, refl, sym, ◌∙◌, ap, subst}
use Rattle.basis_names.specs.declared.bases.BasisId.{BasisId}
use Rattle.built_bases.specs.Table.{is_built as is_built_basis}
use Rattle.built_forms.specs.Forms.{is_built_map}
use Rattle.session_tokens.specs.declared.lexeme.Lexeme.{Lexeme}
use Rattle.session_grammar.specs.declared.expression.Place.{Place}
use Rattle.session_evaluation.specs.Elements.{Spells, IsSpelled}
use Rattle.session_tokens.specs.declared.lexeme.Linear.{Linear}
use Rattle.session_grammar.specs.declared.expression.Expr.{Expr, out-Expr}
use Rattle.session_grammar.specs.declared.expression.Expr.TheOpen.{Expr-F}
use Rattle.session_grammar.specs.declared.expression.Expr.TheViews.{out-roll-Expr}
use Rattle.session_grammar.specs.declared.expression.Factor.{Factor}
use Rattle.session_grammar.specs.declared.expression.Signed.{Signed}
use Rattle.session_evaluation.specs.Built.{IsBuilt, built_number, built_element, built_name, built_conversion, built_function, built_sum, built_tensor, built_product, AreBuilt}
use Rattle.session_evaluation.specs.Evaluation.{steps_of_sum, steps_of_tensor, steps_of_product}
use Rattle.session_grammar.specs.declared.expression.Expr.TheOpen as o
use Rattle.session_grammar.specs.declared.expression.Expr.TheVariants as e

-- The same as a built expression, of the forms that a pattern can see.
pub data BuiltForm : Expr-F Expr Factor Signed → Type 0 where
  number_form : {n : ℕ} → n < 2 ^ 127 → BuiltForm (o.Number n)
  element_form : {basis : BasisId} {items : List Lexeme} {code : List ℕ} → Spells basis items code → BuiltForm (o.Element basis items)
  name_form : {name : List ℕ} → BuiltForm (o.Named name)
  conversion_form : {to : BasisId} {x : Expr} {at : Place} → IsTrue (is_built_basis to) → IsBuilt x → BuiltForm (o.Convert to x at)
  function_form : {map : Linear} {x : Expr} {at : Place} → IsTrue (is_built_map map) → IsBuilt x → BuiltForm (o.Apply map x at)
  sum_form : (part : Signed) (parts : List Signed) → IsBuilt part.value → AreBuilt (steps_of_sum parts) → BuiltForm (o.Sum (part ∷ parts))
  tensor_form : (part : Expr) (parts : List Expr) → IsBuilt part → AreBuilt (steps_of_tensor parts) → BuiltForm (o.Tensor (part ∷ parts))
  product_form : (part : Factor) (parts : List Factor) → IsBuilt part.value → AreBuilt (steps_of_product parts) → BuiltForm (o.Product (part ∷ parts))

-- A number shows its form.
pub out-number : (n : ℕ) → out-Expr (e.Number n) ≡ o.Number n
out-number n = ap out-Expr (sym (e.rolls-Number n)) ∙ out-roll-Expr (o.Number n)

-- A basis element shows its form.
pub out-element : (b : BasisId) (items : List Lexeme) → out-Expr (e.Element b items) ≡ o.Element b items
out-element b items = ap out-Expr (sym (e.rolls-Element b items)) ∙ out-roll-Expr (o.Element b items)

-- A name shows its form.
pub out-name : (name : List ℕ) → out-Expr (e.Named name) ≡ o.Named name
out-name name = ap out-Expr (sym (e.rolls-Named name)) ∙ out-roll-Expr (o.Named name)

-- A conversion shows its form.
pub out-convert : (b : BasisId) (x : Expr) (p : Place) → out-Expr (e.Convert b x p) ≡ o.Convert b x p
out-convert b x p = ap out-Expr (sym (e.rolls-Convert b x p)) ∙ out-roll-Expr (o.Convert b x p)

-- A linear function shows its form.
pub out-apply : (f : Linear) (x : Expr) (p : Place) → out-Expr (e.Apply f x p) ≡ o.Apply f x p
out-apply f x p = ap out-Expr (sym (e.rolls-Apply f x p)) ∙ out-roll-Expr (o.Apply f x p)

-- A pairing shows its form.
out-pair : (x y : Expr) → out-Expr (e.Pair x y) ≡ o.Pair x y
out-pair x y = ap out-Expr (sym (e.rolls-Pair x y)) ∙ out-roll-Expr (o.Pair x y)

-- A conversion along bases shows its form.
out-along : (x : Expr) (k : ℕ) (bs : List BasisId) → out-Expr (e.Along x k bs) ≡ o.Along x k bs
out-along x k bs = ap out-Expr (sym (e.rolls-Along x k bs)) ∙ out-roll-Expr (o.Along x k bs)

-- A sum shows its form.
pub out-sum : (parts : List Signed) → out-Expr (e.Sum parts) ≡ o.Sum parts
out-sum parts = ap out-Expr (sym (e.rolls-Sum parts)) ∙ out-roll-Expr (o.Sum parts)

-- A tensor product shows its form.
pub out-tensor : (parts : List Expr) → out-Expr (e.Tensor parts) ≡ o.Tensor parts
out-tensor parts = ap out-Expr (sym (e.rolls-Tensor parts)) ∙ out-roll-Expr (o.Tensor parts)

-- A product shows its form.
pub out-product : (parts : List Factor) → out-Expr (e.Product parts) ≡ o.Product parts
out-product parts = ap out-Expr (sym (e.rolls-Product parts)) ∙ out-roll-Expr (o.Product parts)

-- A built expression has a built form.
pub built_form : (x : Expr) → IsBuilt x → BuiltForm (out-Expr x)
built_form x (built_number {n = n} small) = subst BuiltForm (sym (out-number n)) (number_form small)
built_form x (built_element {basis = basis} {items = items} spells) = subst BuiltForm (sym (out-element basis items)) (element_form spells)
built_form x (built_name {name = name}) = subst BuiltForm (sym (out-name name)) name_form
built_form x (built_conversion {to = to} {x = y} {at = at} basis built) = subst BuiltForm (sym (out-convert to y at)) (conversion_form basis built)
built_form x (built_function {map = map} {x = y} {at = at} is built) = subst BuiltForm (sym (out-apply map y at)) (function_form is built)
built_form x (built_sum part parts first rest) = subst BuiltForm (sym (out-sum (part ∷ parts))) (sum_form part parts first rest)
built_form x (built_tensor part parts first rest) = subst BuiltForm (sym (out-tensor (part ∷ parts))) (tensor_form part parts first rest)
built_form x (built_product part parts first rest) = subst BuiltForm (sym (out-product (part ∷ parts))) (product_form part parts first rest)

-- The same, where the form is known.
form_at : (x : Expr) (form : Expr-F Expr Factor Signed) → out-Expr x ≡ form → IsBuilt x → BuiltForm form
form_at x form is built = subst BuiltForm is (built_form x built)

-- A built number is below 2^127.
pub built_number-inv : (n : ℕ) → IsBuilt (e.Number n) → n < 2 ^ 127
built_number-inv n built = below (form_at (e.Number n) (o.Number n) (out-number n) built)
  where
    below : {n : ℕ} → BuiltForm (o.Number n) → n < 2 ^ 127
    below (number_form small) = small

-- The list of a built element spells an index.
pub built_element-inv : (basis : BasisId) (items : List Lexeme) → IsBuilt (e.Element basis items) → IsSpelled basis items
built_element-inv basis items built = spelled (form_at (e.Element basis items) (o.Element basis items) (out-element basis items) built)
  where
    spelled : {basis : BasisId} {items : List Lexeme} → BuiltForm (o.Element basis items) → IsSpelled basis items
    spelled (element_form {code = code} spells) = (code, spells)

-- A built conversion is one of a built operand to a built basis.
pub built_conversion-inv : (to : BasisId) (x : Expr) (at : Place) → IsBuilt (e.Convert to x at) → IsTrue (is_built_basis to) × IsBuilt x
built_conversion-inv to x at built = taken (form_at (e.Convert to x at) (o.Convert to x at) (out-convert to x at) built)
  where
    taken : {to : BasisId} {x : Expr} {at : Place} → BuiltForm (o.Convert to x at) → IsTrue (is_built_basis to) × IsBuilt x
    taken (conversion_form basis built) = (basis, built)

-- A built function is one that is built, of a built operand.
pub built_function-inv : (map : Linear) (x : Expr) (at : Place) → IsBuilt (e.Apply map x at) → IsTrue (is_built_map map) × IsBuilt x
built_function-inv map x at built = taken (form_at (e.Apply map x at) (o.Apply map x at) (out-apply map x at) built)
  where
    taken : {map : Linear} {x : Expr} {at : Place} → BuiltForm (o.Apply map x at) → IsTrue (is_built_map map) × IsBuilt x
    taken (function_form is built) = (is, built)

-- A built sum has a built first part and built later parts.
pub built_sum-inv : (parts : List Signed) → IsBuilt (e.Sum parts)
    → (first : Signed) × (rest : List Signed) × (parts ≡ first ∷ rest) × IsBuilt first.value × AreBuilt (steps_of_sum rest)
built_sum-inv parts built = taken (form_at (e.Sum parts) (o.Sum parts) (out-sum parts) built)
  where
    taken : {parts : List Signed} → BuiltForm (o.Sum parts)
        → (first : Signed) × (rest : List Signed) × (parts ≡ first ∷ rest) × IsBuilt first.value × AreBuilt (steps_of_sum rest)
    taken (sum_form first rest one more) = (first, rest, refl, one, more)

-- The parts of a built sum are built.
pub built_sum-parts : (part : Signed) (parts : List Signed) → IsBuilt (e.Sum (part ∷ parts)) → IsBuilt part.value × AreBuilt (steps_of_sum parts)
built_sum-parts part parts built = taken (form_at (e.Sum (part ∷ parts)) (o.Sum (part ∷ parts)) (out-sum (part ∷ parts)) built)
  where
    taken : {part : Signed} {parts : List Signed} → BuiltForm (o.Sum (part ∷ parts)) → IsBuilt part.value × AreBuilt (steps_of_sum parts)
    taken (sum_form part parts one more) = (one, more)

-- A built tensor product has a built first part and built later parts.
pub built_tensor-inv : (parts : List Expr) → IsBuilt (e.Tensor parts)
    → (first : Expr) × (rest : List Expr) × (parts ≡ first ∷ rest) × IsBuilt first × AreBuilt (steps_of_tensor rest)
built_tensor-inv parts built = taken (form_at (e.Tensor parts) (o.Tensor parts) (out-tensor parts) built)
  where
    taken : {parts : List Expr} → BuiltForm (o.Tensor parts)
        → (first : Expr) × (rest : List Expr) × (parts ≡ first ∷ rest) × IsBuilt first × AreBuilt (steps_of_tensor rest)
    taken (tensor_form first rest one more) = (first, rest, refl, one, more)

-- The parts of a built tensor product are built.
pub built_tensor-parts : (part : Expr) (parts : List Expr) → IsBuilt (e.Tensor (part ∷ parts)) → IsBuilt part × AreBuilt (steps_of_tensor parts)
built_tensor-parts part parts built = taken (form_at (e.Tensor (part ∷ parts)) (o.Tensor (part ∷ parts)) (out-tensor (part ∷ parts)) built)
  where
    taken : {part : Expr} {parts : List Expr} → BuiltForm (o.Tensor (part ∷ parts)) → IsBuilt part × AreBuilt (steps_of_tensor parts)
    taken (tensor_form part parts one more) = (one, more)

-- A built product has a built first factor and built later factors.
pub built_product-inv : (parts : List Factor) → IsBuilt (e.Product parts)
    → (first : Factor) × (rest : List Factor) × (parts ≡ first ∷ rest) × IsBuilt first.value × AreBuilt (steps_of_product rest)
built_product-inv parts built = taken (form_at (e.Product parts) (o.Product parts) (out-product parts) built)
  where
    taken : {parts : List Factor} → BuiltForm (o.Product parts)
        → (first : Factor) × (rest : List Factor) × (parts ≡ first ∷ rest) × IsBuilt first.value × AreBuilt (steps_of_product rest)
    taken (product_form first rest one more) = (first, rest, refl, one, more)

-- The parts of a built product are built.
pub built_product-parts : (part : Factor) (parts : List Factor) → IsBuilt (e.Product (part ∷ parts)) → IsBuilt part.value × AreBuilt (steps_of_product parts)
built_product-parts part parts built = taken (form_at (e.Product (part ∷ parts)) (o.Product (part ∷ parts)) (out-product (part ∷ parts)) built)
  where
    taken : {part : Factor} {parts : List Factor} → BuiltForm (o.Product (part ∷ parts)) → IsBuilt part.value × AreBuilt (steps_of_product parts)
    taken (product_form part parts one more) = (one, more)

-- No pairing is built.
pub not_pair : (x y : Expr) → IsBuilt (e.Pair x y) → ⊥
not_pair x y built = elim (form_at (e.Pair x y) (o.Pair x y) (out-pair x y) built) [ ]

-- No conversion along a list of bases is built.
pub not_along : (x : Expr) (k : ℕ) (bs : List BasisId) → IsBuilt (e.Along x k bs) → ⊥
not_along x k bs built = elim (form_at (e.Along x k bs) (o.Along x k bs) (out-along x k bs) built) [ ]
