-- Sums over the shuffles of two words.
use Rattle.std.proofs.Common.{◌≡◌, ℕ, ◌+◌, List, [], ◌∷◌, ◌++◌, map, refl, ◌∙◌, arith}
use Rattle.realisations.specs.Words.{shuffles}
use Rattle.realisations.proofs.Sums.{sums, sums-append, sums-map}

-- the sum of a function over the shuffles
abbrev pub over_shuffles : (List ℕ → ℕ) → List ℕ → List ℕ → ℕ
over_shuffles f u v = sums f (shuffles u v)

-- a shuffle begins with the first letter of one of the words
pub over_shuffles-step : (f : List ℕ → ℕ) (x : ℕ) (u : List ℕ) (y : ℕ) (v : List ℕ)
    → over_shuffles f (x ∷ u) (y ∷ v) ≡ over_shuffles (λ w. f (x ∷ w)) u (y ∷ v) + over_shuffles (λ w. f (y ∷ w)) (x ∷ u) v
over_shuffles-step f x u y v =
    sums-append f (map (λ w. x ∷ w) (shuffles u (y ∷ v))) (map (λ w. y ∷ w) (shuffles (x ∷ u) v))
    ∙ omega (arith, sums-map f (λ w. x ∷ w) (shuffles u (y ∷ v)), sums-map f (λ w. y ∷ w) (shuffles (x ∷ u) v))

-- the shuffles of mapped words are the mapped shuffles
pub over_shuffles-map : (f : List ℕ → ℕ) (g : ℕ → ℕ) (u v : List ℕ) → over_shuffles f (map g u) (map g v) ≡ over_shuffles (λ w. f (map g w)) u v
over_shuffles-map f g [] v = refl
over_shuffles-map f g (x ∷ u) [] = refl
over_shuffles-map f g (x ∷ u) (y ∷ v) =
    omega (
      arith,
      over_shuffles-step f (g x) (map g u) (g y) (map g v),
      over_shuffles-step (λ w. f (map g w)) x u y v,
      over_shuffles-map (λ w. f (g x ∷ w)) g u (y ∷ v),
      over_shuffles-map (λ w. f (g y ∷ w)) g (x ∷ u) v,
    )

-- what holds for a pair of words, and stays so under each first letter, holds of their shuffles: functions that agree at all words to which R leads agree on the shuffles
pub over_shuffles_same : (R : List ℕ → List ℕ → Type 0) → ((x : ℕ) (u v w : List ℕ) → R (u ++ v) w → R ((x ∷ u) ++ v) (x ∷ w))
    → ((y : ℕ) (u v w : List ℕ) → R (u ++ v) w → R (u ++ (y ∷ v)) (y ∷ w)) → ((u : List ℕ) → R (u ++ []) u) → ((v : List ℕ) → R v v)
    → (f g : List ℕ → ℕ) (u v : List ℕ) → ((w : List ℕ) → R (u ++ v) w → f w ≡ g w) → over_shuffles f u v ≡ over_shuffles g u v
over_shuffles_same R left right nil_right nil_left f g [] v same = omega (arith, same v (nil_left v))
over_shuffles_same R left right nil_right nil_left f g (x ∷ u) [] same = omega (arith, same (x ∷ u) (nil_right (x ∷ u)))
over_shuffles_same R left right nil_right nil_left f g (x ∷ u) (y ∷ v) same =
    omega (
      arith,
      over_shuffles-step f x u y v,
      over_shuffles-step g x u y v,
      over_shuffles_same R left right nil_right nil_left (λ w. f (x ∷ w)) (λ w. g (x ∷ w)) u (y ∷ v) (λ w r. same (x ∷ w) (left x u (y ∷ v) w r)),
      over_shuffles_same R left right nil_right nil_left (λ w. f (y ∷ w)) (λ w. g (y ∷ w)) (x ∷ u) v (λ w r. same (y ∷ w) (right y (x ∷ u) v w r)),
    )
