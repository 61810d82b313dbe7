-- Sums of an integer function over lists.
use Rattle.std.proofs.Common.{◌≡◌, List, [], ◌∷◌, ◌++◌, map, refl, sym, ◌∙◌, ap, arith}
use Rattle.std.proofs.Math.IntN.{ℤ, pos, ◌+ℤ◌, ◌*ℤ◌, *ℤ-zero}
use Rattle.std.specs.List.{All, flat_map}
use Rattle.std.proofs.lemmas.List.Elements.{All-head, All-tail}
use Rattle.std.proofs.lemmas.Int.{ints}
use Rattle.realisations.specs.Lists.{int_sum}
use Rattle.hopf_num.proofs.Ring.{*ℤ-+ℤ}

-- the sum of a function over a list
abbrev pub sum_over : {X : Type 0} → (X → ℤ) → List X → ℤ
sum_over f xs = int_sum (map f xs)

-- over two lists in a row
pub sum_over-append : {X : Type 0} (f : X → ℤ) (xs ys : List X) → sum_over f (xs ++ ys) ≡ sum_over f xs +ℤ sum_over f ys
sum_over-append f [] ys = omega (arith, ints)
sum_over-append f (x ∷ xs) ys = omega (arith, ints, sum_over-append f xs ys)

-- over a list of images
pub sum_over-map : {X Y : Type 0} (f : Y → ℤ) (g : X → Y) (xs : List X) → sum_over f (map g xs) ≡ sum_over (λ x. f (g x)) xs
sum_over-map f g [] = refl
sum_over-map f g (x ∷ xs) = ap (λ z. f (g x) +ℤ z) (sum_over-map f g xs)

-- over a list of lists
pub sum_over-flat_map : {X Y : Type 0} (f : Y → ℤ) (g : X → List Y) (xs : List X) → sum_over f (flat_map g xs) ≡ sum_over (λ x. sum_over f (g x)) xs
sum_over-flat_map f g [] = refl
sum_over-flat_map f g (x ∷ xs) = sum_over-append f (g x) (flat_map g xs) ∙ ap (λ n. sum_over f (g x) +ℤ n) (sum_over-flat_map f g xs)

-- of a sum of two functions
pub sum_over-add : {X : Type 0} (f g : X → ℤ) (xs : List X) → sum_over (λ x. f x +ℤ g x) xs ≡ sum_over f xs +ℤ sum_over g xs
sum_over-add f g [] = refl
sum_over-add f g (x ∷ xs) = omega (arith, ints, sum_over-add f g xs)

-- of a multiple
pub sum_over-scale : {X : Type 0} (z : ℤ) (f : X → ℤ) (xs : List X) → sum_over (λ x. z *ℤ f x) xs ≡ z *ℤ sum_over f xs
sum_over-scale z f [] = sym (*ℤ-zero z)
sum_over-scale z f (x ∷ xs) = omega (arith, ints, sum_over-scale z f xs, *ℤ-+ℤ z (f x) (sum_over f xs))

-- functions that are the same at each element
pub sum_over_same : {X : Type 0} (f g : X → ℤ) (xs : List X) → All (λ x. f x ≡ g x) xs → sum_over f xs ≡ sum_over g xs
sum_over_same f g [] same = refl
sum_over_same {X} f g (x ∷ xs) same =
    let P = λ (y : X). f y ≡ g y in
    omega (arith, ints, All-head P x xs same, sum_over_same f g xs (All-tail P x xs same))

-- of a function that is 0
pub sum_over_none : {X : Type 0} (f : X → ℤ) → ((x : X) → f x ≡ pos 0) → (xs : List X) → sum_over f xs ≡ pos 0
sum_over_none f none [] = refl
sum_over_none f none (x ∷ xs) = omega (arith, ints, none x, sum_over_none f none xs)

-- sums change places
pub sum_over_both : {X Y : Type 0} (f : X → Y → ℤ) (xs : List X) (ys : List Y) → sum_over (λ x. sum_over (f x) ys) xs ≡ sum_over (λ y. sum_over (λ x. f x y) xs) ys
sum_over_both f [] ys = sym (sum_over_none (λ y. pos 0) (λ y. refl) ys)
sum_over_both f (x ∷ xs) ys = ap (λ z. sum_over (f x) ys +ℤ z) (sum_over_both f xs ys) ∙ sym (sum_over-add (f x) (λ y. sum_over (λ v. f v y) xs) ys)
