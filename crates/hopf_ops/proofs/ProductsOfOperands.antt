-- The row of a product: with a scalar it is that of the tensor product; else, once the common checks pass, both operands are converted, and then comes their product.
use Rattle.std.proofs.Common.{◌≡◌, ◌⊎◌, ℕ, zero, suc, ◌+◌, ◌*◌, ◌≤◌, Bool, true, false, List, map, length, Ok, Err, inl, inr, refl, sym, ◌∙◌, ap, subst, arith}
use Rattle.std.specs.Prelude.{IfOk, ◌||◌, nat_eq}
use Rattle.std.proofs.Math.Dec.{eqb-suc-zero}
use Rattle.std.proofs.lemmas.List.{length-map}
use Rattle.std.proofs.lemmas.Result.{IfOk-weaker}
use Rattle.basis_names.specs.declared.bases.BasisId.{BasisId}
use Rattle.realisations.specs.Bases.{kind_of}
use Rattle.realisations.specs.Readings.{product}
use Rattle.hopf_laws.specs.Bases.{AreBuilt, least_limit}
use Rattle.hopf_laws.specs.Values.{Expansion, IsValue, Expands, reading_of, degree_of_value}
use Rattle.basis_routes.specs.declared.refusal.Refusal.{Refusal}
use Rattle.basis_routes.specs.Checks.{Tests}
use Rattle.basis_routes.specs.Conversions.{Converts}
use Rattle.basis_routes.specs.Joins.{LieIn}
use Rattle.basis_routes.specs.Rows.{Answer, Row, Checked, Then, Answers, OrMemory}
use Rattle.hopf_ops.specs.Answers.{AreTargets}
use Rattle.hopf_ops.specs.Operations.{has_scalar, product_room, ComponentRow, ProductBy, ProductOver, ProductRow}
use Rattle.basis_routes.proofs.ContainedBases.{lies_kinds}
use Rattle.basis_routes.proofs.ConversionsExist.{converts_some}
use Rattle.basis_routes.proofs.ConvertedRows.{converts_expands}
use Rattle.basis_routes.proofs.OnceRows.{converts_once}
use Rattle.hopf_ops.proofs.ConvertedOperands.{product_of_converted}
use Rattle.hopf_ops.proofs.RowsInSteps.{step_passes, step_refuses, tests_row}

or_true : (p : Bool) → (p || true) ≡ true
or_true true = refl
or_true false = refl

-- where one of two values has no component
scalar-there : (m n : ℕ) → (m ≡ 0) ⊎ (n ≡ 0) → (nat_eq m 0 || nat_eq n 0) ≡ true
scalar-there m n (inl none) = ap (λ (k : ℕ). nat_eq k 0 || nat_eq n 0) none
scalar-there m n (inr none) = ap (λ (k : ℕ). nat_eq m 0 || nat_eq k 0) none ∙ or_true (nat_eq m 0)

no_scalar : (m n : ℕ) → 1 ≤ m → 1 ≤ n → (nat_eq m 0 || nat_eq n 0) ≡ false
no_scalar zero n some some' = absurd (omega (arith, some))
no_scalar (suc m) zero some some' = absurd (omega (arith, some'))
no_scalar (suc m) (suc n) some some' = λ i. eqb-suc-zero m i || eqb-suc-zero n i

has_scalar-ranks : (a b : Expansion) → has_scalar a b ≡ (nat_eq (length a.bases) 0 || nat_eq (length b.bases) 0)
has_scalar-ranks a b = λ i. nat_eq (length-map a.bases kind_of i) 0 || nat_eq (length-map b.bases kind_of i) 0

-- the row of a product with a scalar
pub scalar_row : (a b : Expansion) (answer : Answer) → (length a.bases ≡ 0) ⊎ (length b.bases ≡ 0) → OrMemory (ProductBy true a b) answer → OrMemory (ProductRow a b) answer
scalar_row a b answer none row =
    subst (λ (scalar : Bool). OrMemory (ProductBy scalar a b) answer) (sym (has_scalar-ranks a b ∙ scalar-there (length a.bases) (length b.bases) none)) row

-- and of one component by component
pub component_row : (a b : Expansion) (answer : Answer) → 1 ≤ length a.bases → 1 ≤ length b.bases → OrMemory (ComponentRow a b) answer → OrMemory (ProductRow a b) answer
component_row a b answer some some' row =
    subst (λ (scalar : Bool). OrMemory (ProductBy scalar a b) answer) (sym (has_scalar-ranks a b ∙ no_scalar (length a.bases) (length b.bases) some some')) row

module _ (targets : List BasisId) (a b : Expansion) where
  -- the product rule of what the operands came to, and the answer
  abbrev Last : Expansion → Expansion → Row
  Last x y = Checked (product_room (5 * (degree_of_value x + degree_of_value y)) x y) (Answers targets (product (reading_of a) (reading_of b)))

  rest_of_product : (x y : Expansion) (answer : Answer) → map kind_of targets ≡ map kind_of a.bases → Expands targets (reading_of a) x → Expands targets (reading_of b) y
      → Tests (product_room (5 * (degree_of_value x + degree_of_value y)) x y) answer → IfOk answer (Expands x.bases (product (reading_of x) (reading_of y)))
      → OrMemory (Last x y) answer
  rest_of_product x y answer kinds hx hy tests value =
      tests_row (product_room (5 * (degree_of_value x + degree_of_value y)) x y) targets (product (reading_of a) (reading_of b)) answer tests
      (IfOk-weaker answer (Expands x.bases (product (reading_of x) (reading_of y))) (Expands targets (product (reading_of a) (reading_of b)))
      (λ v h. product_of_converted targets a b x y v kinds hx hy (subst (λ (bases : List BasisId). Expands bases (product (reading_of x) (reading_of y)) v) hx.over h)) value)

  -- both operands are converted, and then comes their product
  pub product_passes : (x y : Expansion) (degree : ℕ) (answer : Answer) → AreTargets targets degree a b → Converts targets a (Ok x) → Converts targets b (Ok y)
      → Tests (product_room (5 * (degree_of_value x + degree_of_value y)) x y) answer → IfOk answer (Expands x.bases (product (reading_of x) (reading_of y)))
      → OrMemory (ProductOver targets a b) answer
  product_passes x y degree answer are hx hy tests value =
      step_passes (Converts targets a) (λ (v : Expansion). Then (Converts targets b) (Last v)) x answer hx
      (step_passes (Converts targets b) (Last x) y answer hy
      (rest_of_product x y answer (lies_kinds a.bases targets are.left) (converts_expands targets a x are.left_value (lies_kinds a.bases targets are.left) hx)
      (converts_expands targets b y are.right_value (lies_kinds b.bases targets are.right) hy) tests value))

  -- the first operand is refused
  pub product_first : (r : Refusal) → OrMemory (Converts targets a) (Err r) → OrMemory (ProductOver targets a b) (Err r)
  product_first r hx = step_refuses (Converts targets a) (λ (v : Expansion). Then (Converts targets b) (Last v)) r hx

  -- or the second one
  pub product_second : (x : Expansion) (r : Refusal) → Converts targets a (Ok x) → OrMemory (Converts targets b) (Err r) → OrMemory (ProductOver targets a b) (Err r)
  product_second x r hx hy =
      step_passes (Converts targets a) (λ (v : Expansion). Then (Converts targets b) (Last v)) x (Err r) hx (step_refuses (Converts targets b) (Last x) r hy)

-- what a value is converted to has no greater degree: so has the value that there is, and there is no other one
converted_degree : (targets : List BasisId) (v w : Expansion) → IsValue v → LieIn v.bases targets → AreBuilt targets → degree_of_value v ≤ least_limit targets
    → Converts targets v (Ok w) → degree_of_value w ≤ degree_of_value v
converted_degree targets v w is inside built within h =
    let some = converts_some targets v is inside built within in
    some.holds w (converts_once targets v is some.answer (Ok w) some.allowed h)

-- so the degrees of what both came to are within the limit of their bases
pub degrees_converted : (targets : List BasisId) (a b x y : Expansion) → AreTargets targets (degree_of_value a + degree_of_value b) a b → Converts targets a (Ok x) → Converts targets b (Ok y)
    → degree_of_value x + degree_of_value y ≤ least_limit x.bases
degrees_converted targets a b x y are hx hy =
    let first = converted_degree targets a x are.left_value are.left are.built (omega (arith, are.within)) hx in
    let second = converted_degree targets b y are.right_value are.right are.built (omega (arith, are.within)) hy in
    let over : x.bases ≡ targets = (converts_expands targets a x are.left_value (lies_kinds a.bases targets are.left) hx).over in
    subst (λ (bases : List BasisId). degree_of_value x + degree_of_value y ≤ least_limit bases) (sym over) (omega (arith, are.within, first, second))
