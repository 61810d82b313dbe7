-- Knuth moves of words (Knuth 1970).
use Rattle.std.specs.Prelude.{ℕ, ◌<◌, List, ◌∷◌, ◌++◌}

-- a Knuth move of three neighbouring letters x < y < z in a word, in either direction, or none: xzy and zxy, or yxz and yzx, take each other's place
pub data Move : List ℕ → List ℕ → Type 0 where
  still : (w : List ℕ) → Move w w
  xzy : (p s : List ℕ) (x y z : ℕ) → x < y → y < z → Move (p ++ (x ∷ z ∷ y ∷ s)) (p ++ (z ∷ x ∷ y ∷ s))
  zxy : (p s : List ℕ) (x y z : ℕ) → x < y → y < z → Move (p ++ (z ∷ x ∷ y ∷ s)) (p ++ (x ∷ z ∷ y ∷ s))
  yxz : (p s : List ℕ) (x y z : ℕ) → x < y → y < z → Move (p ++ (y ∷ x ∷ z ∷ s)) (p ++ (y ∷ z ∷ x ∷ s))
  yzx : (p s : List ℕ) (x y z : ℕ) → x < y → y < z → Move (p ++ (y ∷ z ∷ x ∷ s)) (p ++ (y ∷ x ∷ z ∷ s))

-- a chain of Knuth moves
pub data Chain : List ℕ → List ℕ → Type 0 where
  done : (w : List ℕ) → Chain w w
  step : (u v w : List ℕ) → Move u v → Chain v w → Chain u w
