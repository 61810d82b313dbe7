-- An expression has one meaning, and what it means decides its value.
use Rattle.std.proofs.Common.{◌≡◌, ℕ, Ok, Some, List, [], ◌∷◌, map, refl, sym, ◌∙◌, ap, subst}
use Rattle.realisations.specs.Points.{ArePoints}
use Rattle.realisations.specs.Readings.{Reading, applied, element}
use Rattle.realisations.specs.Bases.{kind_of}
use Rattle.realisations.proofs.Agreement.{agree_refl, agree_trans}
use Rattle.basis_names.specs.declared.bases.BasisId.{BasisId}
use Rattle.session_tokens.specs.declared.lexeme.Lexeme.{Lexeme}
use Rattle.session_evaluation.specs.Elements.{Spells}
use Rattle.hopf_laws.specs.Values.{Expansion, Expands, reading_of}
use Rattle.session_grammar.specs.declared.expression.Expr.{Expr, out-Expr}
use Rattle.session_grammar.specs.declared.expression.Expr.TheOpen.{Expr-F}
use Rattle.session_grammar.specs.declared.expression.Factor.{Factor}
use Rattle.session_grammar.specs.declared.expression.Place.{Place}
use Rattle.session_grammar.specs.declared.expression.Signed.{Signed}
use Rattle.session_tokens.specs.declared.lexeme.Linear.{Linear}
use Rattle.basis_routes.specs.Places.{position_of}
use Rattle.session_evaluation.specs.Functions.{operation_of, place_of}
use Rattle.hopf_ops.specs.declared.operator.Operator.{Operator}
use Rattle.session_evaluation.specs.Names.{Names, value_of, AreValues}
use Rattle.session_evaluation.specs.Evaluation.{Steps, steps_of_sum, steps_of_tensor, steps_of_product, Evaluates}
use Rattle.session_evaluation.specs.Laws.{SameMeaning}
use Rattle.session_evaluation.specs.Meaning.{number, signed, Means, number_means, element_means, name_means, conversion_means, function_means, sum_means, tensor_means, product_means, Combine, combined_all, combine}
use Rattle.session_evaluation.proofs.GoodAnswers.{evaluated_value}
use Rattle.session_evaluation.proofs.Meanings.{Alike, answer_meant}
use Rattle.session_evaluation.proofs.SpelledElements.{spells_once}
use Rattle.hopf_laws.proofs.Uniqueness.{expands_once}
use Rattle.session_evaluation.proofs.BuiltForms.{out-number, out-element, out-name, out-convert, out-apply, out-sum, out-tensor, out-product}
use Rattle.session_grammar.specs.declared.expression.Expr.TheOpen as form
use Rattle.hopf_ops.specs.ReadingOperations.{combined}

-- what an expression means, at its outermost form
data OpenedMeaning (names : Names) : Expr-F Expr Factor Signed → Reading → Type 0 where
  at_number : {n : ℕ} → OpenedMeaning names (form.Number n) (number n)
  at_element : {basis : BasisId} {items : List Lexeme} {code : List ℕ} → Spells basis items code → OpenedMeaning names (form.Element basis items) (element basis code)
  at_name : {name : List ℕ} {v : Expansion} → value_of names name ≡ Some v → OpenedMeaning names (form.Named name) (reading_of v)
  at_conversion : {to : BasisId} {x : Expr} {at : Place} {r : Reading} → Means names x r → OpenedMeaning names (form.Convert to x at) r
  at_function : {map : Linear} {x : Expr} {at : Place} {r : Reading} → Means names x r → OpenedMeaning names (form.Apply map x at) (applied (operation_of map) (position_of (place_of at)) r)
  at_sum : {part : Signed} {parts : List Signed} {first whole : Reading} → Means names part.value first
      → Combine names (signed part.minus first) (steps_of_sum parts) whole → OpenedMeaning names (form.Sum (part ∷ parts)) whole
  at_tensor : {part : Expr} {parts : List Expr} {first whole : Reading} → Means names part first → Combine names first (steps_of_tensor parts) whole
      → OpenedMeaning names (form.Tensor (part ∷ parts)) whole
  at_product : {part : Factor} {parts : List Factor} {first whole : Reading} → Means names part.value first → Combine names first (steps_of_product parts) whole
      → OpenedMeaning names (form.Product (part ∷ parts)) whole

-- An expression means its reading at its outermost form.
opened_meaning : (names : Names) (x : Expr) (r : Reading) → Means names x r → OpenedMeaning names (out-Expr x) r
opened_meaning names x r (number_means {n = n}) = subst (λ (y : Expr-F Expr Factor Signed). OpenedMeaning names y r) (sym (out-number n)) at_number
opened_meaning names x r (element_means {basis = basis} {items = items} spells) =
    subst (λ (y : Expr-F Expr Factor Signed). OpenedMeaning names y r) (sym (out-element basis items)) (at_element spells)
opened_meaning names x r (name_means {name = name} is) = subst (λ (y : Expr-F Expr Factor Signed). OpenedMeaning names y r) (sym (out-name name)) (at_name is)
opened_meaning names x r (conversion_means {to = to} {x = y} {at = at} h) = subst (λ (z : Expr-F Expr Factor Signed). OpenedMeaning names z r) (sym (out-convert to y at)) (at_conversion h)
opened_meaning names x r (function_means {map = map} {x = y} {at = at} h) = subst (λ (z : Expr-F Expr Factor Signed). OpenedMeaning names z r) (sym (out-apply map y at)) (at_function h)
opened_meaning names x r (sum_means part parts h l) = subst (λ (y : Expr-F Expr Factor Signed). OpenedMeaning names y r) (sym (out-sum (part ∷ parts))) (at_sum h l)
opened_meaning names x r (tensor_means part parts h l) =
    subst (λ (y : Expr-F Expr Factor Signed). OpenedMeaning names y r) (sym (out-tensor (part ∷ parts))) (at_tensor h l)
opened_meaning names x r (product_means part parts h l) =
    subst (λ (y : Expr-F Expr Factor Signed). OpenedMeaning names y r) (sym (out-product (part ∷ parts))) (at_product h l)

-- So it does at the form that it is known to have.
meaning-at : (names : Names) (x : Expr) (y : Expr-F Expr Factor Signed) (r : Reading) → out-Expr x ≡ y → Means names x r → OpenedMeaning names y r
meaning-at names x y r is h = subst (λ (z : Expr-F Expr Factor Signed). OpenedMeaning names z r) is (opened_meaning names x r h)

-- Each form means one reading, where its parts do.

-- A number means one reading.
number_once : (names : Names) (n : ℕ) (s : Reading) → OpenedMeaning names (form.Number n) s → number n ≡ s
number_once names n s at_number = refl

-- So does a basis element.
element_once : (names : Names) (basis : BasisId) (items : List Lexeme) (code : List ℕ) (s : Reading) → Spells basis items code → OpenedMeaning names (form.Element basis items) s → element basis code ≡ s
element_once names basis items code s spells (at_element {code = code'} spells') = ap (λ index. element basis index) (spells_once basis items code code' spells spells')

-- So does a name.
name_once : (names : Names) (name : List ℕ) (v : Expansion) (s : Reading) → value_of names name ≡ Some v → OpenedMeaning names (form.Named name) s → reading_of v ≡ s
name_once names name v s is (at_name {v = w} is') =
    let both : Some v ≡ Some w = sym is ∙ is' in
    let same : v ≡ w = cc in
    ap reading_of same

-- So does a conversion, which means what its operand means.
conversion_once : (names : Names) (to : BasisId) (x : Expr) (at : Place) (r s : Reading) → ((t : Reading) → Means names x t → r ≡ t) → OpenedMeaning names (form.Convert to x at) s → r ≡ s
conversion_once names to x at r s one (at_conversion h) = one s h

-- So does a function on a component.
function_once : (names : Names) (map : Linear) (x : Expr) (at : Place) (r s : Reading) → ((t : Reading) → Means names x t → r ≡ t) → OpenedMeaning names (form.Apply map x at) s
    → applied (operation_of map) (position_of (place_of at)) r ≡ s
function_once names map x at r s one (at_function {r = t} h) = ap (applied (operation_of map) (position_of (place_of at))) (one t h)

-- So does a sum.
sum_once : (names : Names) (part : Signed) (parts : List Signed) (first r s : Reading)
    → ((t : Reading) → Means names part.value t → first ≡ t) → ((t : Reading) → Combine names (signed part.minus first) (steps_of_sum parts) t → r ≡ t)
    → OpenedMeaning names (form.Sum (part ∷ parts)) s → r ≡ s
sum_once names part parts first r s one_first one_whole (at_sum {first = first'} h l) =
    one_whole s (subst (λ (t : Reading). Combine names (signed part.minus t) (steps_of_sum parts) s) (sym (one_first first' h)) l)

-- So does a tensor product.
tensor_once : (names : Names) (part : Expr) (parts : List Expr) (first r s : Reading)
    → ((t : Reading) → Means names part t → first ≡ t) → ((t : Reading) → Combine names first (steps_of_tensor parts) t → r ≡ t)
    → OpenedMeaning names (form.Tensor (part ∷ parts)) s → r ≡ s
tensor_once names part parts first r s one_first one_whole (at_tensor {first = first'} h l) =
    one_whole s (subst (λ (t : Reading). Combine names t (steps_of_tensor parts) s) (sym (one_first first' h)) l)

-- So does a product.
product_once : (names : Names) (part : Factor) (parts : List Factor) (first r s : Reading)
    → ((t : Reading) → Means names part.value t → first ≡ t) → ((t : Reading) → Combine names first (steps_of_product parts) t → r ≡ t)
    → OpenedMeaning names (form.Product (part ∷ parts)) s → r ≡ s
product_once names part parts first r s one_first one_whole (at_product {first = first'} h l) =
    one_whole s (subst (λ (t : Reading). Combine names t (steps_of_product parts) s) (sym (one_first first' h)) l)

-- Where no operation is left, the whole is the reading in hand.
all_once : (names : Names) (a s : Reading) → Combine names a [] s → a ≡ s
all_once names a s combined_all = refl

-- An operation and those after it combine to one reading.
combine_once : (names : Names) (a b : Reading) (o : Operator) (x : Expr) (steps : Steps) (r s : Reading)
    → ((t : Reading) → Means names x t → b ≡ t) → ((t : Reading) → Combine names (combined o a b) steps t → r ≡ t)
    → Combine names a ((o, x) ∷ steps) s → r ≡ s
combine_once names a b o x steps r s one_operand one_whole (combine {b = b'} h l) =
    one_whole s (subst (λ (t : Reading). Combine names (combined o a t) steps s) (sym (one_operand b' h)) l)

mutual
  -- An expression means one reading.
  pub means_once : (names : Names) (x : Expr) (r s : Reading) → Means names x r → Means names x s → r ≡ s
  means_once names x r s (number_means {n = n}) second = number_once names n s (meaning-at names x (form.Number n) s (out-number n) second)
  means_once names x r s (element_means {basis = basis} {items = items} {code = code} spells) second =
      element_once names basis items code s spells (meaning-at names x (form.Element basis items) s (out-element basis items) second)
  means_once names x r s (name_means {name = name} {v = v} is) second = name_once names name v s is (meaning-at names x (form.Named name) s (out-name name) second)
  means_once names x r s (conversion_means {to = to} {x = y} {at = at} h) second =
      conversion_once names to y at r s (λ t h'. means_once names y r t h h') (meaning-at names x (form.Convert to y at) s (out-convert to y at) second)
  means_once names x r s (function_means {map = map} {x = y} {at = at} {r = q} h) second =
      function_once names map y at q s (λ t h'. means_once names y q t h h') (meaning-at names x (form.Apply map y at) s (out-apply map y at) second)
  means_once names x r s (sum_means part parts {first = first} h l) second =
      sum_once names part parts first r s
      (λ t h'. means_once names part.value first t h h')
      (λ t l'. whole_once names (signed part.minus first) (steps_of_sum parts) r t l l')
      (meaning-at names x (form.Sum (part ∷ parts)) s (out-sum (part ∷ parts)) second)
  means_once names x r s (tensor_means part parts {first = first} h l) second =
      tensor_once names part parts first r s
      (λ t h'. means_once names part first t h h')
      (λ t l'. whole_once names first (steps_of_tensor parts) r t l l')
      (meaning-at names x (form.Tensor (part ∷ parts)) s (out-tensor (part ∷ parts)) second)
  means_once names x r s (product_means part parts {first = first} h l) second =
      product_once names part parts first r s
      (λ t h'. means_once names part.value first t h h')
      (λ t l'. whole_once names first (steps_of_product parts) r t l l')
      (meaning-at names x (form.Product (part ∷ parts)) s (out-product (part ∷ parts)) second)

  -- So operations combine readings to one.
  whole_once : (names : Names) (a : Reading) (steps : Steps) (r s : Reading) → Combine names a steps r → Combine names a steps s → r ≡ s
  whole_once names a steps r s combined_all second = all_once names a s second
  whole_once names a steps r s (combine {b = b} {o = o} {x = x} {steps = later} h l) second =
      combine_once names a b o x later r s
      (λ t h'. means_once names x b t h h')
      (λ t l'. whole_once names (combined o a b) later r t l l')
      second

-- The value of an expression is like each reading that the expression means.
means_alike : (names : Names) (x : Expr) (v : Expansion) (r : Reading) → AreValues names → Evaluates names x (Ok v) → Means names x r → Alike (reading_of v) r
means_alike names x v r values evaluates means =
    let found : (m : Reading) × Means names x m × Alike (reading_of v) m = answer_meant values evaluates in
    subst (λ (m : Reading). Alike (reading_of v) m) (means_once names x found.0 r found.1 means) found.2

-- Expressions that mean the same, and have values over the same bases, have the same value.
pub same_meaning : SameMeaning
same_meaning names names' x y v w r s values values' built built' evaluates evaluates' means means' over agree =
    let first : Alike (reading_of v) r = means_alike names x v r values evaluates means in
    let second : Alike (reading_of w) s = means_alike names' y w s values' evaluates' means' in
    let this : Expands v.bases (reading_of w) v = record {
      value = evaluated_value names x v values built evaluates;
      over = refl;
      reads = λ ps points.
          agree_trans (reading_of v) r (reading_of w) ps first.right (first.agree ps points)
          (agree_trans r s (reading_of w) ps second.right (agree ps points) (sym (second.agree ps (subst (λ (bs : List BasisId). ArePoints (map kind_of bs) ps) over points))));
    } in
    let that : Expands v.bases (reading_of w) w = record {
      value = evaluated_value names' y w values' built' evaluates';
      over = sym over;
      reads = λ ps points. agree_refl (reading_of w) ps;
    } in
    expands_once v.bases (reading_of w) v w second.left this that
