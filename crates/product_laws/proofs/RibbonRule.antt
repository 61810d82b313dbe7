-- The rule of the product of two ribbons.
use Rattle.std.proofs.Common.{ℕ, ◌+◌, ◌*◌, ◌^◌, ◌≤◌, List, [], ◌∷◌, length, arith}
use Rattle.std.specs.List.{sum}
use Rattle.std.proofs.Math.Nat.{pow-le-pow_right}
use Rattle.std.proofs.lemmas.Nat.{pow_pos}
use Rattle.basis_names.specs.declared.bases.BasisId.TheVariants.{NcsfR}
use Rattle.realisations.specs.IndexKinds.{IsComposition}
use Rattle.product_laws.specs.Laws.{RibbonLaw}
use Rattle.product_laws.specs.Products.{AreOfDegree}
use Rattle.product_laws.specs.Ribbons.{ribbon_products}
use Rattle.product_laws.proofs.Parts.{positive_sum, sum-append, sum-near_concatenation, composition-append, composition-near_concatenation}
use Rattle.product_laws.proofs.Ribbons.{ribbons_read}

-- the ribbons are compositions of the sum of the sizes
ribbon_indices : (i j : List ℕ) → IsComposition i → IsComposition j → AreOfDegree NcsfR (sum i + sum j) (ribbon_products i j)
ribbon_indices [] j hi hj = ((hj, omega arith), tt)
ribbon_indices (a ∷ i) [] hi hj = ((hi, omega arith), tt)
ribbon_indices (a ∷ i) (b ∷ j) hi hj = (
  (composition-append (a ∷ i) (b ∷ j) hi hj, sum-append (a ∷ i) (b ∷ j)),
  ((composition-near_concatenation (a ∷ i) (b ∷ j) hi hj, sum-near_concatenation (a ∷ i) (b ∷ j) tt), tt),
)

-- two terms within the norm of an answer: where the degree is 0 there is one
few_ribbons : (i j : List ℕ) → IsComposition i → IsComposition j → length (ribbon_products i j) ≤ 2 ^ (5 * (sum i + sum j))
few_ribbons [] j hi hj = omega (arith, pow_pos (5 * (sum [] + sum j)))
few_ribbons (a ∷ i) [] hi hj = omega (arith, pow_pos (5 * (sum (a ∷ i) + sum [])))
few_ribbons (a ∷ i) (b ∷ j) hi hj =
    let some : 1 ≤ 5 * (sum (a ∷ i) + sum (b ∷ j)) = omega (arith, positive_sum (a ∷ i) hi tt) in
    omega (arith, pow-le-pow_right {n = 2} (omega arith) {i = 1} {j = 5 * (sum (a ∷ i) + sum (b ∷ j))} some)

pub ribbon_rule : RibbonLaw
ribbon_rule i j hi hj = record { reads = ribbons_read i j hi hj; indices = ribbon_indices i j hi hj; few = few_ribbons i j hi hj }
