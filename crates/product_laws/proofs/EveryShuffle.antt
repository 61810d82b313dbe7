-- What is true of each shuffle of two words, and how many there are.
use Rattle.std.proofs.Common.{◌≡◌, ℕ, zero, suc, ◌+◌, ◌^◌, ◌≤◌, Bool, List, [], ◌∷◌, map, length, refl, arith}
use Rattle.std.specs.List.{AllByRecursion}
use Rattle.std.proofs.lemmas.List.{length-append, length-map}
use Rattle.std.proofs.lemmas.Nat.{pow_pos}
use Rattle.realisations.specs.Lists.{count}
use Rattle.realisations.specs.Words.{shuffles}
use Rattle.realisations.proofs.Every.{every-append, every-map}
use Rattle.realisations.proofs.Sums.{sums}

-- each shuffle has as many letters of a kind as both words
abbrev pub CountsAsBoth : List ℕ → List ℕ → List ℕ → Type 0
CountsAsBoth u v w = ((test : ℕ → Bool) → count test w ≡ count test u + count test v) × (length w ≡ length u + length v)

-- the letters of a shuffle are those of both words
pub counts_of_shuffles : (u v : List ℕ) → AllByRecursion (CountsAsBoth u v) (shuffles u v)
counts_of_shuffles [] v = ((λ test. omega arith, omega arith), tt)
counts_of_shuffles (x ∷ u) [] = ((λ test. omega arith, omega arith), tt)
counts_of_shuffles (x ∷ u) (y ∷ v) =
    every-append (CountsAsBoth (x ∷ u) (y ∷ v)) (map (λ w. x ∷ w) (shuffles u (y ∷ v))) (map (λ w. y ∷ w) (shuffles (x ∷ u) v))
    (every-map (CountsAsBoth u (y ∷ v)) (CountsAsBoth (x ∷ u) (y ∷ v)) (λ w. x ∷ w) (λ w h. (λ test. omega (arith, h.0 test), omega (arith, h.1))) (shuffles u (y ∷ v)) (counts_of_shuffles u (y ∷ v)))
    (every-map (CountsAsBoth (x ∷ u) v) (CountsAsBoth (x ∷ u) (y ∷ v)) (λ w. y ∷ w) (λ w h. (λ test. omega (arith, h.0 test), omega (arith, h.1))) (shuffles (x ∷ u) v) (counts_of_shuffles (x ∷ u) v))

length-shuffles : (x : ℕ) (u : List ℕ) (y : ℕ) (v : List ℕ) → length (shuffles (x ∷ u) (y ∷ v)) ≡ length (shuffles u (y ∷ v)) + length (shuffles (x ∷ u) v)
length-shuffles x u y v =
    omega (
      arith,
      length-append (map (λ w. x ∷ w) (shuffles u (y ∷ v))) (map (λ w. y ∷ w) (shuffles (x ∷ u) v)),
      length-map (shuffles u (y ∷ v)) (λ w. x ∷ w),
      length-map (shuffles (x ∷ u) v) (λ w. y ∷ w),
    )

-- there are at most 2^n shuffles of n letters
pub few_shuffles : (n : ℕ) (u v : List ℕ) → length u + length v ≡ n → length (shuffles u v) ≤ 2 ^ n
few_shuffles n [] v e = omega (arith, pow_pos n)
few_shuffles n (x ∷ u) [] e = omega (arith, pow_pos n)
few_shuffles zero (x ∷ u) (y ∷ v) e = absurd (omega (arith, e))
few_shuffles (suc n) (x ∷ u) (y ∷ v) e =
    omega (arith, length-shuffles x u y v, few_shuffles n u (y ∷ v) (omega (arith, e)), few_shuffles n (x ∷ u) v (omega (arith, e)))

-- functions that are equal on the elements of a list have equal sums
pub sums_same_on : {X : Type 0} (P : X → Type 0) (f g : X → ℕ) → ((x : X) → P x → f x ≡ g x) → (xs : List X) → AllByRecursion P xs → sums f xs ≡ sums g xs
sums_same_on P f g e [] h = refl
sums_same_on P f g e (x ∷ xs) h = omega (arith, e x h.0, sums_same_on P f g e xs h.1)
