-- Sums over two lists.
use Rattle.std.proofs.Common.{◌≡◌, ℕ, ◌+◌, ◌*◌, List, [], ◌∷◌, refl, sym, ◌∙◌, ap, arith}
use Rattle.realisations.proofs.Sums.{sums, sums-add, sums-scale, sums_none}

-- the order of two sums does not matter
pub sums_swap : {X Y : Type 0} (f : X → Y → ℕ) (xs : List X) (ys : List Y) → sums (λ x. sums (λ y. f x y) ys) xs ≡ sums (λ y. sums (λ x. f x y) xs) ys
sums_swap f [] ys = sym (sums_none (λ y. 0) (λ y. refl) ys)
sums_swap f (x ∷ xs) ys = ap (λ n. sums (λ y. f x y) ys + n) (sums_swap f xs ys) ∙ sym (sums-add (λ y. f x y) (λ y. sums (λ x. f x y) xs) ys)

-- a factor comes out of a sum on the right
pub sums-scale_right : {X : Type 0} (k : ℕ) (f : X → ℕ) (xs : List X) → sums (λ x. f x * k) xs ≡ sums f xs * k
sums-scale_right k f [] = omega arith
sums-scale_right k f (x ∷ xs) = omega (arith, sums-scale_right k f xs)

-- a product of two sums
pub sums_times : {X Y : Type 0} (f : X → ℕ) (g : Y → ℕ) (xs : List X) (ys : List Y) → sums f xs * sums g ys ≡ sums (λ x. sums (λ y. f x * g y) ys) xs
sums_times f g [] ys = omega arith
sums_times f g (x ∷ xs) ys = omega (arith, sums_times f g xs ys, sums-scale (f x) g ys)
