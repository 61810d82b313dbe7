-- Raising all letters of a word keeps the places where it rises, its descent composition and its decreasing tree.
use Rattle.std.proofs.Common.{◌≡◌, ℕ, suc, ◌+◌, List, [], ◌∷◌, refl, arith}
use Rattle.std.specs.Prelude.{nat_lt}
use Rattle.std.proofs.lemmas.Bool.Decides.{nat_tests}
use Rattle.realisations.specs.Descents.{places_where, ascents, descent_composition}
use Rattle.realisations.specs.Trees.{decreasing_tree}
use Rattle.realisations.specs.Words.{raise}
use Rattle.realisations.proofs.Every.{every-any}
use Rattle.realisations.proofs.RisingMaps.{Letters, descent_composition-map, decreasing_tree-map}

-- the ascents
pub ascents-raise : (g : ℕ) (w : List ℕ) → ascents (raise g w) ≡ ascents w
ascents-raise g w = places 1 w
  where
    places : (k : ℕ) (w : List ℕ) → places_where (λ x y. nat_lt x y) k (raise g w) ≡ places_where (λ x y. nat_lt x y) k w
    places k [] = refl
    places k (x ∷ []) = refl
    places k (x ∷ y ∷ w) = let e : nat_lt (g + x) (g + y) ≡ nat_lt x y = grind (arith, nat_tests) in rw (e, places (suc k) (y ∷ w)) refl

module _ (g : ℕ) (w : List ℕ) where
  any_letters : Letters (λ x. Unit {0}) w
  any_letters = every-any (λ x. Unit {0}) (λ x. tt) w

  -- the descent composition
  pub descent_composition-raise : descent_composition (raise g w) ≡ descent_composition w
  descent_composition-raise = descent_composition-map (λ x. Unit {0}) (λ x. g + x) (λ x y hx hy h. omega arith) w any_letters

  -- the decreasing tree
  pub decreasing_tree-raise : decreasing_tree (raise g w) ≡ decreasing_tree w
  decreasing_tree-raise = decreasing_tree-map (λ x. Unit {0}) (λ x. g + x) (λ x y hx hy h. omega arith) w any_letters
