-- The descents and the ascents of a word as bits.
use Rattle.std.proofs.Common.{◌≡◌, ℕ, suc, Bool, true, false, if◌then◌else◌, List, [], ◌∷◌, refl, sym, ap, subst}
use Rattle.std.specs.Prelude.{nat_lt}
use Rattle.realisations.specs.Descents.{places_where, longer_first, descent_composition}
use Rattle.realisations.specs.IndexKinds.{IsComposition}
use Rattle.basis_representatives.proofs.Bits.{composition_of}
use Rattle.basis_representatives.proofs.Places.{places}
use Rattle.basis_representatives.proofs.DescentBits.{IsComposition-composition_of}

-- for each letter and the next one, whether they pass a test
abbrev pub steps : (ℕ → ℕ → Bool) → List ℕ → List Bool
steps test [] = []
steps test (x ∷ []) = []
steps test (x ∷ y ∷ w) = test x y ∷ steps test (y ∷ w)

-- the first of two letters is the greater one
abbrev pub falls : ℕ → ℕ → Bool
falls x y = nat_lt y x

-- the second of two letters is the greater one
abbrev pub rises : ℕ → ℕ → Bool
rises x y = nat_lt x y

-- the places of a word that pass a test are those of its bits
pub places_where-steps : (test : ℕ → ℕ → Bool) (k : ℕ) (w : List ℕ) → places_where test k w ≡ places k (steps test w)
places_where-steps test k [] = refl
places_where-steps test k (x ∷ []) = refl
places_where-steps test k (x ∷ y ∷ w) = by_test (test x y) (places_where-steps test (suc k) (y ∷ w))
  where
    by_test : (b : Bool) → places_where test (suc k) (y ∷ w) ≡ places (suc k) (steps test (y ∷ w))
        → (if b then k ∷ places_where test (suc k) (y ∷ w) else places_where test (suc k) (y ∷ w)) ≡ places k (b ∷ steps test (y ∷ w))
    by_test true e = ap (λ ps. k ∷ ps) e
    by_test false e = e

-- the descent composition of a word with a letter is that of its bits
pub descent_composition-steps : (x : ℕ) (w : List ℕ) → descent_composition (x ∷ w) ≡ composition_of (steps falls (x ∷ w))
descent_composition-steps x [] = refl
descent_composition-steps x (y ∷ w) = by_test (nat_lt y x) (descent_composition-steps y w)
  where
    by_test : (b : Bool) → descent_composition (y ∷ w) ≡ composition_of (steps falls (y ∷ w))
        → (if b then 1 ∷ descent_composition (y ∷ w) else longer_first (descent_composition (y ∷ w))) ≡ composition_of (b ∷ steps falls (y ∷ w))
    by_test true e = ap (λ ps. 1 ∷ ps) e
    by_test false e = ap longer_first e

-- a descent composition is a composition
pub IsComposition-descent_composition : (w : List ℕ) → IsComposition (descent_composition w)
IsComposition-descent_composition [] = tt
IsComposition-descent_composition (x ∷ w) = subst IsComposition (sym (descent_composition-steps x w)) (IsComposition-composition_of (steps falls (x ∷ w)))
