-- The row of a product allows exactly one answer, whose value reads as the product of the operands.
use Rattle.std.proofs.Common.{◌≡◌, ℕ, zero, suc, ◌+◌, ◌*◌, ◌≤◌, Bool, true, false, ◌||◌, if◌then◌else◌, List, ◌++◌, length, map, Ok, refl, sym, ◌∙◌, ap, subst, arith}
use Rattle.std.proofs.Math.Nat.{mul-pos}
use Rattle.std.specs.Prelude.{All, nat_eq}
use Rattle.std.proofs.lemmas.Bool.{eqb-false}
use Rattle.std.proofs.lemmas.List.{length-map}
use Rattle.basis_names.specs.declared.bases.BasisId.{BasisId}
use Rattle.realisations.specs.Bases.{kind_of}
use Rattle.realisations.specs.Readings.{Reading, product, tensor}
use Rattle.hopf_laws.specs.Bases.{least_limit}
use Rattle.hopf_laws.specs.Values.{Expansion, IsValue, Expands, reading_of, degree_of_value}
use Rattle.basis_routes.specs.declared.checks.Check.{Check}
use Rattle.basis_routes.specs.Checks.{Passes}
use Rattle.basis_routes.specs.Conversions.{BothConvert}
use Rattle.basis_routes.specs.Joins.{joined}
use Rattle.basis_routes.specs.Rows.{Answer, Row, Checked, Answers, Decides}
use Rattle.basis_routes.proofs.ContainedBases.{lies_kinds, lies_length}
use Rattle.basis_routes.proofs.ConversionsExist.{IsConverted, both_convert_some}
use Rattle.basis_routes.proofs.Degrees.{degree-small}
use Rattle.basis_routes.proofs.OnceRows.{IsOnce, checked_once, answers_once, both_convert_once}
use Rattle.basis_routes.proofs.SomeRows.{Any, checked_some, answers_some}
use Rattle.basis_routes.proofs.ValueRows.{checked_value, answers_value, both_convert_value}
use Rattle.hopf_ops.specs.Operations.{common_checks, has_scalar, product_room, ProductOver, ComponentRow, ProductBy, ProductRow, product_bases}
use Rattle.hopf_ops.specs.ReadingOperations.{is_scalar, product_or_tensor}
use Rattle.hopf_ops.proofs.BuiltJoins.{targets_of}
use Rattle.hopf_ops.proofs.ConvertedOperands.{den-positive, product_of_converted}
use Rattle.hopf_ops.proofs.ProductsExist.{product_value}
use Rattle.hopf_ops.proofs.ScalarProductsExist.{scalar_product_value}
use Rattle.hopf_ops.proofs.SumsExist.{common_checks_are}
use Rattle.hopf_ops.proofs.TensorRows.{product_room_are, scalar_products_decide}

first_false : (p q : Bool) → (p || q) ≡ false → p ≡ false
first_false true q e = e
first_false false q e = refl

-- what is no scalar has a component
some_components : (m : ℕ) (q : Bool) → (nat_eq m 0 || q) ≡ false → 1 ≤ m
some_components zero q e = absurd (eqb-false 0 0 (first_false (nat_eq 0 0) q e) refl)
some_components (suc m) q e = omega arith

some_of_first : (a b : Expansion) → has_scalar a b ≡ false → 1 ≤ length a.bases
some_of_first a b scalar = some_components (length a.bases) (is_scalar (reading_of b)) (ap (λ n. nat_eq n 0 || is_scalar (reading_of b)) (sym (length-map a.bases kind_of)) ∙ scalar)

module _ (a b : Expansion) (ha : IsValue a) (hb : IsValue b) where
  abbrev targets : List BasisId
  targets = joined a.bases b.bases

  abbrev reading : Reading
  reading = product (reading_of a) (reading_of b)

  abbrev degree : ℕ
  degree = degree_of_value a + degree_of_value b

  -- the product rule of what the operands came to
  abbrev room_of_both : Expansion → Expansion → List Check
  room_of_both x y = product_room (5 * (degree_of_value x + degree_of_value y)) x y

  abbrev Last : Expansion → Expansion → Row
  Last x y = Checked (room_of_both x y) (Answers targets reading)

  component_row_once : IsOnce (ComponentRow a b)
  component_row_once =
      checked_once (common_checks degree a b) (BothConvert targets a b Last)
      (both_convert_once targets a b Last ha hb
      (λ x y hx hy. checked_once (room_of_both x y) (Answers targets reading) (answers_once targets reading (mul-pos (den-positive a ha) (den-positive b hb)))))

  -- the product of what the operands came to
  product_of_both : (x y : Expansion) → 1 ≤ length targets → map kind_of targets ≡ map kind_of a.bases → degree ≤ least_limit targets → IsConverted targets a x → IsConverted targets b y
      → All Passes (room_of_both x y) → (v : Expansion) × Expands targets reading v
  product_of_both x y some kinds within hx hy room =
      let over = hx.expands.over in
      let small : degree_of_value x + degree_of_value y ≤ least_limit x.bases =
      subst (λ (bs : List BasisId). degree_of_value x + degree_of_value y ≤ least_limit bs) (sym over) (omega (arith, within, hx.less, hy.less)) in
      let v = product_value x y hx.expands.value hy.expands.value (hy.expands.over ∙ sym over) (subst (λ (bs : List BasisId). 1 ≤ length bs) (sym over) some) small room in (
        v.0,
        product_of_converted targets a b x y v.0 kinds hx.expands hy.expands (subst (λ (bs : List BasisId). Expands bs (product (reading_of x) (reading_of y)) v.0) over v.1),
      )

  component_row_some : 1 ≤ length a.bases → (answer : Answer) × ComponentRow a b answer
  component_row_some some =
      let row = checked_some (common_checks degree a b) (BothConvert targets a b Last) Any (common_checks_are degree a b)
      (λ pass.
      let are = targets_of degree a b ha hb pass in
      let long : length a.bases ≡ length targets = lies_length a.bases targets are.left in
      both_convert_some targets a b Last Any ha hb are.left are.right are.built (omega (arith, are.within)) (omega (arith, are.within))
      (λ x y hx hy.
      checked_some (room_of_both x y) (Answers targets reading) Any
      (product_room_are (5 * (degree_of_value x + degree_of_value y)) x y (omega (arith, degree-small x hx.expands.value, degree-small y hy.expands.value)))
      (λ room.
      let v = product_of_both x y (omega (arith, some, long)) (lies_kinds a.bases targets are.left) are.within hx hy room in
      answers_some targets reading Any v.0 v.1 tt))) in
      (row.answer, row.allowed)

  component_row_reads : (v : Expansion) → ComponentRow a b (Ok v) → Expands targets reading v
  component_row_reads v h =
      let both = (checked_value (common_checks degree a b) (BothConvert targets a b Last) v h).1 in
      let last = both_convert_value targets a b Last v both in
      answers_value targets reading v (checked_value (room_of_both last.0 last.1) (Answers targets reading) v last.4).1

  component_products_decide : 1 ≤ length a.bases → Decides (ComponentRow a b) targets reading
  component_products_decide some = record {
    once = component_row_once;
    some = component_row_some some;
    reads = component_row_reads;
    kinds = λ v h. lies_kinds a.bases targets (targets_of degree a b ha hb (checked_value (common_checks degree a b) (ProductOver targets a b) v h).0).left;
  }

  -- by whether one of the operands is a scalar
  by_scalar : (s : Bool) → has_scalar a b ≡ s
      → Decides (ProductBy s a b) (if s then a.bases ++ b.bases else joined a.bases b.bases) (if s then tensor (reading_of a) (reading_of b) else product (reading_of a) (reading_of b))
  by_scalar true is = scalar_products_decide a b ha hb (λ pass. scalar_product_value a b ha hb is pass)
  by_scalar false is = component_products_decide (some_of_first a b is)

-- a product
pub products_decide : (a b : Expansion) → IsValue a → IsValue b → Decides (ProductRow a b) (product_bases a b) (product_or_tensor (reading_of a) (reading_of b))
products_decide a b ha hb = by_scalar a b ha hb (has_scalar a b) refl
