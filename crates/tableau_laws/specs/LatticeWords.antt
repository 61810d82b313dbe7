-- Lattice words: the codes of standard tableaux, letter by letter.
use Rattle.std.specs.Prelude.{◌≡◌, ℕ, suc, ◌<◌, ◌≤◌, List, take}
use Rattle.realisations.specs.Standardisation.{count_same}
use Rattle.realisations.proofs.RisingMaps.{Letters}

-- a lattice word: its letters are positive, and in each of its fronts each letter r + 1 stands at most as often as r
pub record IsLatticeWord (code : List ℕ) : Type 0 where
  pub positive : Letters (λ c. 1 ≤ c) code
  pub fronts : (r k : ℕ) → 1 ≤ r → count_same (suc r) (take k code) ≤ count_same r (take k code)

-- a letter that may come behind a lattice word: it is positive, and r + 1 has stood less often than r
pub record CanFollow (code : List ℕ) (c : ℕ) : Type 0 where
  pub positive : 1 ≤ c
  pub below : (r : ℕ) → 1 ≤ r → c ≡ suc r → count_same (suc r) code < count_same r code
