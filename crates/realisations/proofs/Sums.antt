-- Sums of a function over a list, and over the cuts of a number.
use Rattle.std.proofs.Common.{◌≡◌, ℕ, zero, suc, ◌+◌, ◌*◌, List, [], ◌∷◌, ◌++◌, map, refl, ◌∙◌, ap, arith, zero-add}
use Rattle.std.specs.List.{flat_map}
use Rattle.realisations.specs.Exponents.{number_cuts}

abbrev pub sums : {X : Type 0} → (X → ℕ) → List X → ℕ
sums f [] = 0
sums f (x ∷ xs) = f x + sums f xs

pub sums-append : {X : Type 0} (f : X → ℕ) (xs ys : List X) → sums f (xs ++ ys) ≡ sums f xs + sums f ys
sums-append f [] ys = omega arith
sums-append f (x ∷ xs) ys = omega (arith, sums-append f xs ys)

pub sums-map : {X Y : Type 0} (f : Y → ℕ) (g : X → Y) (xs : List X) → sums f (map g xs) ≡ sums (λ x. f (g x)) xs
sums-map f g [] = refl
sums-map f g (x ∷ xs) = ap (λ n. f (g x) + n) (sums-map f g xs)

pub sums-flat_map : {X Y : Type 0} (f : Y → ℕ) (g : X → List Y) (xs : List X) → sums f (flat_map g xs) ≡ sums (λ x. sums f (g x)) xs
sums-flat_map f g [] = refl
sums-flat_map f g (x ∷ xs) = sums-append f (g x) (flat_map g xs) ∙ ap (λ n. sums f (g x) + n) (sums-flat_map f g xs)

pub sums_same : {X : Type 0} (f g : X → ℕ) → ((x : X) → f x ≡ g x) → (xs : List X) → sums f xs ≡ sums g xs
sums_same f g h [] = refl
sums_same f g h (x ∷ xs) = omega (arith, h x, sums_same f g h xs)

pub sums-add : {X : Type 0} (f g : X → ℕ) (xs : List X) → sums (λ x. f x + g x) xs ≡ sums f xs + sums g xs
sums-add f g [] = refl
sums-add f g (x ∷ xs) = omega (arith, sums-add f g xs)

pub sums-scale : {X : Type 0} (k : ℕ) (f : X → ℕ) (xs : List X) → sums (λ x. k * f x) xs ≡ k * sums f xs
sums-scale k f [] = omega arith
sums-scale k f (x ∷ xs) = omega (arith, sums-scale k f xs)

-- 1 where the numbers are equal, else 0, by recursion
abbrev pub one_if_same : ℕ → ℕ → ℕ
one_if_same zero zero = 1
one_if_same zero (suc j) = 0
one_if_same (suc i) zero = 0
one_if_same (suc i) (suc j) = one_if_same i j

-- a sum over the cuts of a number
abbrev pub over_cuts : ℕ → (ℕ → ℕ → ℕ) → ℕ
over_cuts n f = sums (λ e. f e.0 e.1) (number_cuts n)

pub over_cuts-suc : (n : ℕ) (f : ℕ → ℕ → ℕ) → over_cuts (suc n) f ≡ f 0 (suc n) + over_cuts n (λ i j. f (suc i) j)
over_cuts-suc n f = ap (λ m. f 0 (suc n) + m) (sums-map (λ e. f e.0 e.1) (λ e. (suc e.0, e.1)) (number_cuts n))

pub over_cuts_none : (n : ℕ) (f : ℕ → ℕ → ℕ) → ((i j : ℕ) → f i j ≡ 0) → over_cuts n f ≡ 0
over_cuts_none zero f h = omega (arith, h 0 0)
over_cuts_none (suc n) f h = omega (arith, over_cuts-suc n f, h 0 (suc n), over_cuts_none n (λ i j. f (suc i) j) (λ i j. h (suc i) j))

-- only the cut (a, b) counts, which is a cut of a + b
pub over_cuts_single : (n a b c : ℕ) → over_cuts n (λ i j. one_if_same a i * (one_if_same b j * c)) ≡ one_if_same (a + b) n * c
over_cuts_single zero zero zero c = omega arith
over_cuts_single zero zero (suc b) c = rw zero-add (omega arith)
over_cuts_single zero (suc a) b c = let e : suc a + b ≡ suc (a + b) = omega arith in rw e (omega arith)
over_cuts_single (suc n) zero b c =
    let e : 0 + b ≡ b = omega arith in rw e (omega (arith, over_cuts-suc n (λ i j. one_if_same 0 i * (one_if_same b j * c)), over_cuts_none n (λ i j. 0 * (one_if_same b j * c)) (λ i j. omega arith)))
over_cuts_single (suc n) (suc a) b c =
    let e : suc a + b ≡ suc (a + b) = omega arith in
    rw e (omega (arith, over_cuts-suc n (λ i j. one_if_same (suc a) i * (one_if_same b j * c)), over_cuts_single n a b c))

pub sums_none : {X : Type 0} (f : X → ℕ) → ((x : X) → f x ≡ 0) → (xs : List X) → sums f xs ≡ 0
sums_none f h [] = refl
sums_none f h (x ∷ xs) = omega (arith, h x, sums_none f h xs)

-- the sum of a product of two sums of two weighted functions
pub sums_four : {X : Type 0} (a b c d : ℕ) (f g h i : X → ℕ) (xs : List X) →
    sums (λ x. (a * f x + b * g x) * (c * h x + d * i x)) xs
    ≡ a * (c * sums (λ x. f x * h x) xs) + a * (d * sums (λ x. f x * i x) xs)
    + b * (c * sums (λ x. g x * h x) xs) + b * (d * sums (λ x. g x * i x) xs)
sums_four a b c d f g h i [] = omega arith
sums_four a b c d f g h i (x ∷ xs) = omega (arith, sums_four a b c d f g h i xs)
