-- The standardisation of a word depends on the order of its letters alone.
use Rattle.std.proofs.Common.{◌≡◌, ℕ, List, [], ◌∷◌, map}
use Rattle.std.specs.Prelude.{nat_lt}
use Rattle.realisations.specs.Standardisation.{standardise}
use Rattle.realisations.proofs.RisingMaps.{Letters}
use Rattle.basis_representatives.proofs.SameOrder.{SameBelow, SameOrder, standardise_same}

-- two maps that order the images of the numbers with P alike
module _ (P : ℕ → Type 0) (f g : ℕ → ℕ) (same : (k l : ℕ) → P k → P l → nat_lt (f k) (f l) ≡ nat_lt (g k) (g l)) where
  same_below : (x : ℕ) → P x → (w : List ℕ) → Letters P w → SameBelow (f x) (map f w) (g x) (map g w)
  same_below x hx [] h = tt
  same_below x hx (y ∷ w) h = (same y x h.0 hx, same_below x hx w h.1)

  same_order : (w : List ℕ) → Letters P w → SameOrder (map f w) (map g w)
  same_order [] h = tt
  same_order (x ∷ w) h = (same_below x h.0 w h.1, same_order w h.1)

  -- give words with the same standardisation
  pub standardise-same_order : (w : List ℕ) → Letters P w → standardise (map f w) ≡ standardise (map g w)
  standardise-same_order w h = standardise_same (map f w) (map g w) (same_order w h)
