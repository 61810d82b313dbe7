-- The law of existence for products with a scalar, which are tensor products.
use Rattle.std.proofs.Common.{◌≡◌, ℕ, ◌+◌, ◌*◌, ◌^◌, ◌<◌, ◌≤◌, ◌⊎◌, inl, inr, Bool, true, false, ◌++◌, length, refl, ◌∙◌, sym, arith}
use Rattle.std.specs.Prelude.{All, nat_eq, ◌||◌}
use Rattle.std.proofs.lemmas.Bool.{eqb-true}
use Rattle.std.proofs.lemmas.List.{length-map}
use Rattle.realisations.specs.Combinations.{norm_of}
use Rattle.realisations.specs.Bases.{kind_of}
use Rattle.realisations.specs.Readings.{tensor}
use Rattle.hopf_laws.specs.Values.{Expansion, IsValue, Expands, reading_of}
use Rattle.basis_routes.specs.Checks.{Passes}
use Rattle.hopf_ops.specs.Operations.{has_scalar, product_room}
use Rattle.hopf_ops.proofs.ProductsOfValues.{room_of_dens, room_of_norms}
use Rattle.hopf_ops.proofs.TensorsExist.{tensor_value}
use Rattle.hopf_ops.proofs.TensorsOfValues.{scalar_within}

one_true : (p q : Bool) → (p || q) ≡ true → (p ≡ true) ⊎ (q ≡ true)
one_true true q e = inl refl
one_true false q e = inr e

-- one of two numbers is 0 where a test of both says so
one_none : (m n : ℕ) → (nat_eq m 0 || nat_eq n 0) ≡ true → (m ≡ 0) ⊎ (n ≡ 0)
one_none m n e = elim (one_true (nat_eq m 0) (nat_eq n 0) e) [
  | inl left ↦ inl (eqb-true m 0 left)
  | inr right ↦ inr (eqb-true n 0 right)
]

-- a scalar adds nothing to the rank
scalar_short : (m n : ℕ) → m ≤ 3 → n ≤ 3 → (m ≡ 0) ⊎ (n ≡ 0) → m + n ≤ 3
scalar_short m n hm hn (inl none) = omega arith
scalar_short m n hm hn (inr none) = omega arith

-- where the checks of a product with a scalar pass, the tensor product has a value
pub scalar_product_value : (a b : Expansion) → IsValue a → IsValue b → has_scalar a b ≡ true → All Passes (product_room 0 a b)
    → (v : Expansion) × Expands (a.bases ++ b.bases) (tensor (reading_of a) (reading_of b)) v
scalar_product_value a b ha hb scalar pass =
    let none : (length a.bases ≡ 0) ⊎ (length b.bases ≡ 0) = one_none (length a.bases) (length b.bases) (sym (λ i. nat_eq (length-map a.bases kind_of i) 0 || nat_eq (length-map b.bases kind_of i) 0) ∙ scalar) in
    let norms : norm_of a.combination.terms * norm_of b.combination.terms * 2 ^ 0 < 2 ^ 127 = room_of_norms 0 a b pass in
    tensor_value a b ha hb (scalar_short (length a.bases) (length b.bases) ha.short hb.short none) (scalar_within a b ha hb none) (room_of_dens 0 a b pass) (omega (arith, norms))
