-- The row of a tensor product allows exactly one answer, whose value reads as the tensor product; so does that of a product with a scalar.
use Rattle.std.proofs.Common.{◌≡◌, ℕ, ◌+◌, ◌≤◌, List, [], ◌∷◌, ◌++◌, map, length, refl, ap, arith}
use Rattle.std.proofs.Math.Nat.{mul-pos}
use Rattle.std.specs.Prelude.{All}
use Rattle.std.proofs.lemmas.List.Elements.{All-cons, All-nil}
use Rattle.hopf_num.specs.declared.room.Need.TheVariants.{Denominator, Product}
use Rattle.basis_names.specs.declared.bases.BasisId.{BasisId}
use Rattle.realisations.specs.Bases.{kind_of}
use Rattle.realisations.specs.Combinations.{norm_of}
use Rattle.realisations.specs.Readings.{tensor}
use Rattle.hopf_laws.specs.Bases.{least_limit}
use Rattle.hopf_laws.specs.Values.{Expansion, IsValue, Expands, reading_of, degree_of_value}
use Rattle.basis_routes.specs.declared.checks.Check.TheVariants.{RankWithin, DegreeWithin, Room}
use Rattle.basis_routes.specs.Checks.{Passes, IsCheck}
use Rattle.basis_routes.specs.Rows.{Checked, Answers, Decides}
use Rattle.basis_routes.proofs.DecidedRows.{checked_answers_decide}
use Rattle.hopf_ops.specs.Operations.{TensorRow, product_room, tensor_checks}
use Rattle.hopf_ops.proofs.ConvertedOperands.{den-positive}
use Rattle.hopf_ops.proofs.TensorsExist.{tensor_exists}

-- the kinds of bases, and of others behind them
kinds-append : (lefts rights : List BasisId) → map kind_of (lefts ++ rights) ≡ map kind_of lefts ++ map kind_of rights
kinds-append [] rights = refl
kinds-append (left ∷ lefts) rights = ap (λ ks. kind_of left ∷ ks) (kinds-append lefts rights)

-- the product rule can be tested
pub product_room_are : (shift : ℕ) (a b : Expansion) → shift ≤ 120 → All IsCheck (product_room shift a b)
product_room_are shift a b small =
    let dens = Room (Denominator a.combination.den b.combination.den) in
    let norms = Room (Product (norm_of a.combination.terms) (norm_of b.combination.terms) shift) in
    All-cons IsCheck dens (norms ∷ []) tt (All-cons IsCheck norms [] small (All-nil IsCheck))

tensor_checks_are : (a b : Expansion) → All IsCheck (tensor_checks a b)
tensor_checks_are a b =
    let ranks = RankWithin (length a.bases + length b.bases) in
    let within = DegreeWithin (degree_of_value a + degree_of_value b) (least_limit (a.bases ++ b.bases)) in
    All-cons IsCheck ranks (within ∷ product_room 0 a b) tt (All-cons IsCheck within (product_room 0 a b) tt (product_room_are 0 a b (omega arith)))

-- a tensor product
pub tensors_decide : (a b : Expansion) → IsValue a → IsValue b → Decides (TensorRow a b) (a.bases ++ b.bases) (tensor (reading_of a) (reading_of b))
tensors_decide a b ha hb =
    checked_answers_decide (tensor_checks a b) (a.bases ++ b.bases) (tensor (reading_of a) (reading_of b)) (tensor_checks_are a b)
    (λ pass. record { positive = mul-pos (den-positive a ha) (den-positive b hb); exists = tensor_exists a b ha hb pass; kinds = kinds-append a.bases b.bases })

-- and a product with a scalar
pub scalar_products_decide : (a b : Expansion) → IsValue a → IsValue b → (All Passes (product_room 0 a b) → (v : Expansion) × Expands (a.bases ++ b.bases) (tensor (reading_of a) (reading_of b)) v)
    → Decides (Checked (product_room 0 a b) (Answers (a.bases ++ b.bases) (tensor (reading_of a) (reading_of b)))) (a.bases ++ b.bases) (tensor (reading_of a) (reading_of b))
scalar_products_decide a b ha hb exists =
    checked_answers_decide (product_room 0 a b) (a.bases ++ b.bases) (tensor (reading_of a) (reading_of b)) (product_room_are 0 a b (omega arith))
    (λ pass. record { positive = mul-pos (den-positive a ha) (den-positive b hb); exists = exists pass; kinds = kinds-append a.bases b.bases })
