-- A step of an evaluation, by the part of the expression that is read for it.
use Rattle.std.proofs.Common.{◌≡◌, ℕ, ◌+◌, ◌<◌, ◌≤◌, List, ◌∷◌, length, map, drop, slice_index_or, sym, ◌∙◌, ap, arith, add-one, drop-cons}
use Rattle.std.proofs.lemmas.List.{drop-map, length-map}
use Rattle.session_grammar.specs.declared.expression.Expr.{Expr, size-Expr}
use Rattle.session_grammar.specs.declared.expression.Factor.{Factor}
use Rattle.session_grammar.specs.declared.expression.Signed.{Signed}
use Rattle.hopf_ops.specs.declared.operator.Operator.{Operator}
use Rattle.session_evaluation.specs.Evaluation.{Steps}
use Rattle.session_evaluation.specs.EvaluationSteps.{steps_of}
use Rattle.session_grammar.proofs.expression.Expr.TheLaws.{the_size}
use Rattle.session_grammar.proofs.expression.Factor.TheLaws.{the_size as factor_size}
use Rattle.session_grammar.proofs.expression.Signed.TheLaws.{the_size as signed_size}
use Rattle.session_grammar.specs.declared.expression.Expr.TheVariants as e
use Rattle.session_grammar.specs.declared.expression.Expr.TheViews.{sized-Tensor, sized-Sum, sized-Product, size_is-Signed, size_is-Factor}
use denote.Param.Weighed.{most, at_most}

drop_read : {A : Type 0} (xs : List A) (i : ℕ) (x : A) → i < length xs → x ≡ slice_index_or xs i x → drop i xs ≡ x ∷ drop (i + 1) xs
drop_read xs i x lt read = drop-cons xs i x lt ∙ (λ k. sym read k ∷ drop (sym (add-one i) k) xs)

-- its place is within the parts
among : {A : Type 0} (f : A → Operator × Expr) (x : Expr) (parts : List A) (i : ℕ) → steps_of x ≡ map f parts → i < length (steps_of x) → i < length parts
among {A = A} f x parts i are lt = let same : length (map f parts) ≡ length parts = length-map parts f in omega (arith, lt, ap length are, same)

part_read : {A : Type 0} (parts slice : List A) (i : ℕ) (part : A) → slice ≡ parts → part ≡ slice_index_or slice i part → part ≡ slice_index_or parts i part
part_read {A = A} parts slice i part whole read = read ∙ ap (λ (ps : List A). slice_index_or ps i part) whole

-- the step at a place, by the part that is read there
pub step_read : {A : Type 0} (f : A → Operator × Expr) (x : Expr) (parts slice : List A) (i : ℕ) (part : A) (o : Operator) (y : Expr) → steps_of x ≡ map f parts → slice ≡ parts
    → i < length (steps_of x) → part ≡ slice_index_or slice i part → (o, y) ≡ f part → drop i (steps_of x) ≡ (o, y) ∷ drop (i + 1) (steps_of x)
step_read f x parts slice i part o y are whole lt read is =
    ap (drop i) are ∙ drop-map f i parts ∙ ap (map f) (drop_read parts i part (among f x parts i are lt) (part_read parts slice i part whole read))
    ∙ (λ k. sym is k ∷ sym (drop-map f (i + 1) parts) k) ∙ ap (λ (steps : Steps). (o, y) ∷ drop (i + 1) steps) (sym are)

-- the part that is read there is no deeper than the deepest part
pub read_at_most : {A : Type 0} (depth : A → ℕ) (f : A → Operator × Expr) (x : Expr) (parts slice : List A) (i : ℕ) (part : A) → steps_of x ≡ map f parts → slice ≡ parts
    → i < length (steps_of x) → part ≡ slice_index_or slice i part → depth part ≤ most depth parts
read_at_most depth f x parts slice i part are whole lt read =
    let deep = at_most depth parts i part (among f x parts i are lt) in
    omega (arith, deep, ap depth (part_read parts slice i part whole read))

-- so the operand is smaller than the expression
pub tensor_smaller : (x y : Expr) (parts : List Expr) → x ≡ e.Tensor parts → the_size y ≤ most (λ (p : Expr). the_size p) parts → size-Expr y < size-Expr x
tensor_smaller x y parts is deep = omega (arith, deep, ap size-Expr is, sized-Tensor parts)

pub sum_smaller : (x y : Expr) (parts : List Signed) (part : Signed) → x ≡ e.Sum parts → signed_size part ≤ most (λ (p : Signed). signed_size p) parts → y ≡ part.value → size-Expr y < size-Expr x
sum_smaller x y parts part is deep same = omega (arith, deep, ap size-Expr is, ap size-Expr same, sized-Sum parts, size_is-Signed part)

pub product_smaller : (x y : Expr) (parts : List Factor) (part : Factor) → x ≡ e.Product parts → factor_size part ≤ most (λ (p : Factor). factor_size p) parts → y ≡ part.value → size-Expr y < size-Expr x
product_smaller x y parts part is deep same = omega (arith, deep, ap size-Expr is, ap size-Expr same, sized-Product parts, size_is-Factor part)
