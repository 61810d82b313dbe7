-- Four sums change places.
use Rattle.std.proofs.Common.{◌≡◌, List, ◌∙◌}
use Rattle.std.proofs.Math.IntN.{ℤ}
use Rattle.antipode_laws.proofs.IntegerSums.{sum_over, sum_over_same, sum_over-swap}

-- the first two after the last two
pub four_sums : {X Y Z W : Type 0} (t : X → Y → Z → W → ℤ) (xs : List X) (ys : List Y) (zs : List Z) (ws : Z → List W) →
    sum_over (λ x. sum_over (λ y. sum_over (λ z. sum_over (λ w. t x y z w) (ws z)) zs) ys) xs
    ≡ sum_over (λ z. sum_over (λ w. sum_over (λ x. sum_over (λ y. t x y z w) ys) xs) (ws z)) zs
four_sums t xs ys zs ws =
    sum_over_same _ _ (λ x. sum_over-swap (λ y z. sum_over (λ w. t x y z w) (ws z)) ys zs) xs
    ∙ sum_over-swap (λ x z. sum_over (λ y. sum_over (λ w. t x y z w) (ws z)) ys) xs zs
    ∙ sum_over_same _ _
    (λ z. sum_over_same _ _ (λ x. sum_over-swap (λ y w. t x y z w) ys (ws z)) xs
    ∙ sum_over-swap (λ x w. sum_over (λ y. t x y z w) ys) xs (ws z))
    zs
