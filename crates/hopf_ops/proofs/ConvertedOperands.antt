-- Operations on converted operands read as on the operands that were given.
use Rattle.std.proofs.Common.{◌≡◌, ℕ, ◌≤◌, Bool, true, false, List, map, refl, sym, ◌∙◌, ap, subst, arith}
use Rattle.std.proofs.Math.IntN.{negsuc}
use Rattle.std.proofs.Math.Nat.{mul-pos}
use Rattle.realisations.specs.Bases.{kind_of}
use Rattle.realisations.specs.Points.{Kind, ArePoints}
use Rattle.realisations.specs.Readings.{Reading, product, multiple, denominator, AgreeAt}
use Rattle.realisations.proofs.Agreement.{agree_trans, sum_agrees, multiple_agrees, product_agrees}
use Rattle.basis_names.specs.declared.bases.BasisId.{BasisId}
use Rattle.hopf_laws.specs.Values.{Expansion, IsValue, Expands, reading_of}
use Rattle.hopf_ops.specs.ReadingOperations.{sum_or_difference}

-- a value that expands a reading expands each one that agrees with it
pub expands_agreeing : (bases : List BasisId) (q r : Reading) (v : Expansion) → 1 ≤ denominator q → ((ps : List (List ℕ)) → ArePoints (map kind_of bases) ps → AgreeAt q r ps) → Expands bases q v → Expands bases r v
expands_agreeing bases q r v positive agree h = record {
  value = h.value;
  over = h.over;
  reads = λ ps points. agree_trans (reading_of v) q r ps positive (h.reads ps points) (agree ps points);
}

-- the denominator of a value is positive
pub den-positive : (v : Expansion) → IsValue v → 1 ≤ denominator (reading_of v)
den-positive v is = is.canonical.lowest.positive

-- so is that of a sum or a difference
pub sum-positive : (minus : Bool) (a b : Expansion) → IsValue a → IsValue b → 1 ≤ denominator (sum_or_difference minus (reading_of a) (reading_of b))
sum-positive false a b ha hb = mul-pos (den-positive a ha) (den-positive b hb)
sum-positive true a b ha hb = mul-pos (den-positive a ha) (mul-pos {m = 1} (omega arith) (den-positive b hb))

sums_of_converted : (minus : Bool) (targets : List BasisId) (a b x y : Expansion) → Expands targets (reading_of a) x → Expands targets (reading_of b) y
    → (ps : List (List ℕ)) → ArePoints (map kind_of targets) ps → AgreeAt (sum_or_difference minus (reading_of x) (reading_of y)) (sum_or_difference minus (reading_of a) (reading_of b)) ps
sums_of_converted false targets a b x y hx hy ps points = sum_agrees (reading_of x) (reading_of a) (reading_of y) (reading_of b) ps (hx.reads ps points) (hy.reads ps points)
sums_of_converted true targets a b x y hx hy ps points =
    sum_agrees (reading_of x) (reading_of a) (multiple (negsuc 0) 1 (reading_of y)) (multiple (negsuc 0) 1 (reading_of b)) ps (hx.reads ps points)
    (multiple_agrees (negsuc 0) (negsuc 0) 1 1 (reading_of y) (reading_of b) ps refl (hy.reads ps points))

-- the sum of what the operands came to is their sum
pub sum_of_converted : (minus : Bool) (targets : List BasisId) (a b x y v : Expansion) → Expands targets (reading_of a) x → Expands targets (reading_of b) y
    → Expands targets (sum_or_difference minus (reading_of x) (reading_of y)) v → Expands targets (sum_or_difference minus (reading_of a) (reading_of b)) v
sum_of_converted minus targets a b x y v hx hy h =
    expands_agreeing targets (sum_or_difference minus (reading_of x) (reading_of y)) (sum_or_difference minus (reading_of a) (reading_of b)) v (sum-positive minus x y hx.value hy.value)
    (sums_of_converted minus targets a b x y hx hy) h

-- and their product is the product of the operands
pub product_of_converted : (targets : List BasisId) (a b x y v : Expansion) → map kind_of targets ≡ map kind_of a.bases → Expands targets (reading_of a) x → Expands targets (reading_of b) y
    → Expands targets (product (reading_of x) (reading_of y)) v → Expands targets (product (reading_of a) (reading_of b)) v
product_of_converted targets a b x y v kinds hx hy h =
    let over : map kind_of x.bases ≡ map kind_of targets = ap (λ (bs : List BasisId). map kind_of bs) hx.over in
    let at_targets : (qs : List (List ℕ)) → ArePoints (map kind_of x.bases) qs → ArePoints (map kind_of targets) qs = λ qs points. subst (λ (ks : List Kind). ArePoints ks qs) over points in
    expands_agreeing targets (product (reading_of x) (reading_of y)) (product (reading_of a) (reading_of b)) v (mul-pos (den-positive x hx.value) (den-positive y hy.value))
    (λ ps points.
    product_agrees (reading_of x) (reading_of a) (reading_of y) (reading_of b) ps (over ∙ kinds) (subst (λ (ks : List Kind). ArePoints ks ps) (sym over) points)
    (λ qs here. hx.reads qs (at_targets qs here)) (λ qs here. hy.reads qs (at_targets qs here)))
    h
