-- Sums of an integer function over a list.
use Rattle.std.proofs.Common.{◌≡◌, ℕ, zero, suc, List, [], ◌∷◌, ◌++◌, map, refl, sym, ◌∙◌, ap, arith}
use Rattle.std.proofs.Math.IntN.{ℤ, pos, ◌+ℤ◌, ◌*ℤ◌, neg_ℤ, *ℤ_comm, *ℤ-zero, zero-*ℤ}
use Rattle.hopf_num.proofs.Ring.{*ℤ-+ℤ, +ℤ-*ℤ, *ℤ-neg_ℤ}
use Rattle.std.proofs.lemmas.Int.{ints}
use Rattle.std.specs.List.{flat_map}
use Rattle.realisations.specs.Lists.{int_sum, with_sign}

abbrev pub sum_over : {X : Type 0} → (X → ℤ) → List X → ℤ
sum_over f xs = int_sum (map f xs)

pub sum_over-append : {X : Type 0} (f : X → ℤ) (xs ys : List X) → sum_over f (xs ++ ys) ≡ sum_over f xs +ℤ sum_over f ys
sum_over-append f [] ys = omega (arith, ints)
sum_over-append f (x ∷ xs) ys = omega (arith, ints, sum_over-append f xs ys)

pub sum_over-map : {X Y : Type 0} (f : Y → ℤ) (g : X → Y) (xs : List X) → sum_over f (map g xs) ≡ sum_over (λ x. f (g x)) xs
sum_over-map f g [] = refl
sum_over-map f g (x ∷ xs) = ap (λ n. f (g x) +ℤ n) (sum_over-map f g xs)

pub sum_over-flat_map : {X Y : Type 0} (f : Y → ℤ) (g : X → List Y) (xs : List X) → sum_over f (flat_map g xs) ≡ sum_over (λ x. sum_over f (g x)) xs
sum_over-flat_map f g [] = refl
sum_over-flat_map f g (x ∷ xs) = sum_over-append f (g x) (flat_map g xs) ∙ ap (λ n. sum_over f (g x) +ℤ n) (sum_over-flat_map f g xs)

pub sum_over_same : {X : Type 0} (f g : X → ℤ) → ((x : X) → f x ≡ g x) → (xs : List X) → sum_over f xs ≡ sum_over g xs
sum_over_same f g h [] = refl
sum_over_same f g h (x ∷ xs) = omega (arith, ints, h x, sum_over_same f g h xs)

pub sum_over-add : {X : Type 0} (f g : X → ℤ) (xs : List X) → sum_over (λ x. f x +ℤ g x) xs ≡ sum_over f xs +ℤ sum_over g xs
sum_over-add f g [] = refl
sum_over-add f g (x ∷ xs) = omega (arith, ints, sum_over-add f g xs)

pub sum_over-neg : {X : Type 0} (f : X → ℤ) (xs : List X) → sum_over (λ x. neg_ℤ (f x)) xs ≡ neg_ℤ (sum_over f xs)
sum_over-neg f [] = refl
sum_over-neg f (x ∷ xs) = omega (arith, ints, sum_over-neg f xs)

pub sum_over-zero : {X : Type 0} (xs : List X) → sum_over (λ x. pos 0) xs ≡ pos 0
sum_over-zero [] = refl
sum_over-zero (x ∷ xs) = omega (arith, ints, sum_over-zero xs)

pub with_sign-add : (k : ℕ) (y z : ℤ) → with_sign k (y +ℤ z) ≡ with_sign k y +ℤ with_sign k z
with_sign-add zero y z = refl
with_sign-add (suc k) y z = omega (arith, ints, with_sign-add k y z)

pub with_sign-zero : (k : ℕ) → with_sign k (pos 0) ≡ pos 0
with_sign-zero zero = refl
with_sign-zero (suc k) = omega (arith, ints, with_sign-zero k)

-- a sign goes into a sum
pub with_sign-sum_over : {X : Type 0} (k : ℕ) (f : X → ℤ) (xs : List X) → with_sign k (sum_over f xs) ≡ sum_over (λ x. with_sign k (f x)) xs
with_sign-sum_over k f [] = with_sign-zero k
with_sign-sum_over k f (x ∷ xs) = omega (arith, ints, with_sign-add k (f x) (sum_over f xs), with_sign-sum_over k f xs)

pub with_sign-neg : (k : ℕ) (z : ℤ) → with_sign k (neg_ℤ z) ≡ neg_ℤ (with_sign k z)
with_sign-neg zero z = refl
with_sign-neg (suc k) z = ap neg_ℤ (with_sign-neg k z)

-- two sums change places
pub sum_over-swap : {X Y : Type 0} (f : X → Y → ℤ) (xs : List X) (ys : List Y) →
    sum_over (λ x. sum_over (λ y. f x y) ys) xs ≡ sum_over (λ y. sum_over (λ x. f x y) xs) ys
sum_over-swap f [] ys = sym (sum_over-zero ys)
sum_over-swap f (x ∷ xs) ys =
    ap (λ z. sum_over (λ y. f x y) ys +ℤ z) (sum_over-swap f xs ys)
    ∙ sym (sum_over-add (λ y. f x y) (λ y. sum_over (λ x. f x y) xs) ys)

-- a factor goes into a sum
pub times-sum_over : {X : Type 0} (z : ℤ) (f : X → ℤ) (xs : List X) → z *ℤ sum_over f xs ≡ sum_over (λ x. z *ℤ f x) xs
times-sum_over z f [] = *ℤ-zero z
times-sum_over z f (x ∷ xs) = omega (arith, ints, *ℤ-+ℤ z (f x) (sum_over f xs), times-sum_over z f xs)

pub sum_over-times : {X : Type 0} (f : X → ℤ) (z : ℤ) (xs : List X) → sum_over f xs *ℤ z ≡ sum_over (λ x. f x *ℤ z) xs
sum_over-times f z [] = zero-*ℤ z
sum_over-times f z (x ∷ xs) = omega (arith, ints, +ℤ-*ℤ (f x) (sum_over f xs) z, sum_over-times f z xs)

pub with_sign-times : (k : ℕ) (y z : ℤ) → with_sign k (y *ℤ z) ≡ y *ℤ with_sign k z
with_sign-times zero y z = refl
with_sign-times (suc k) y z = ap neg_ℤ (with_sign-times k y z) ∙ sym (*ℤ-neg_ℤ y (with_sign k z))

pub with_sign-times_right : (k : ℕ) (y z : ℤ) → with_sign k (y *ℤ z) ≡ with_sign k y *ℤ z
with_sign-times_right k y z = ap (with_sign k) (*ℤ_comm y z) ∙ with_sign-times k z y ∙ *ℤ_comm z (with_sign k y)

-- a sum of one value
pub one_value : {X : Type 0} (f : X → ℤ) (x : X) → sum_over f (x ∷ []) ≡ f x
one_value f x = omega (arith, ints)
