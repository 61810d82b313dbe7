-- Separation: two words of one class for an algebra that read differently in a component of a reading show that the component does not lie in the algebra.
use Rattle.std.specs.Prelude.{◌≡◌, ◌≢◌, ℕ, ◌<◌, ◌⊎◌, IsTrue, length, insert, remove}
use Rattle.std.specs.declared.cmp.Ordering.TheVariants.{Less}
use Rattle.std.specs.Ordering.{nat_cmp}
use Rattle.std.specs.Cmp.Lexicographic.{slice_cmp}
use Rattle.basis_names.specs.declared.bases.AlgebraId.{AlgebraId}
use Rattle.realisations.specs.IndexKinds.{is_packed}
use Rattle.realisations.specs.Points.{Point, Points, ArePoints}
use Rattle.realisations.specs.Readings.{Reading, kinds_of, numerator}
use Rattle.separation_laws.specs.Classes.{class_for}

-- points of the components other than component n, counted from 0
abbrev pub AreOthers : Reading → ℕ → Points → Type 0
AreOthers a n qs = ArePoints (remove (kinds_of a) n) qs

-- two words read alike in component n: the reading is the same at both, whatever the points of the other components
abbrev pub ReadAlike : Reading → ℕ → Point → Point → Type 0
ReadAlike a n u v = (qs : Points) → AreOthers a n qs → numerator a (insert qs n u) ≡ numerator a (insert qs n v)

-- they read differently: for some points of the other components
abbrev pub ReadDifferently : Reading → ℕ → Point → Point → Type 0
ReadDifferently a n u v = (qs : Points) × AreOthers a n qs × (numerator a (insert qs n u) ≢ numerator a (insert qs n v))

-- the order of words: the shorter first, and words of one length in canonical order, letter by letter
abbrev pub IsBefore : Point → Point → Type 0
IsBefore u v = (length u < length v) ⊎ ((length u ≡ length v) × (slice_cmp nat_cmp u v ≡ Less))

-- v is a partner of u: a packed word of its class for the algebra that reads differently from it
pub record IsPartner (a : Reading) (n : ℕ) (target : AlgebraId) (u v : Point) : Type 0 where
  pub packed : IsTrue (is_packed v)
  pub same_class : class_for target v ≡ class_for target u
  pub differs : ReadDifferently a n u v

-- the separating pair of component n for an algebra: u is the first packed word that has a partner, and v its first partner
pub record IsSeparatingPair (a : Reading) (n : ℕ) (target : AlgebraId) (u v : Point) : Type 0 where
  pub packed : IsTrue (is_packed u)
  pub partner : IsPartner a n target u v
  pub first : (w w' : Point) → IsTrue (is_packed w) → IsBefore w u → IsPartner a n target w w' → ⊥
  pub first_partner : (w : Point) → IsBefore w v → IsPartner a n target u w → ⊥

-- there is no separating pair
abbrev pub HasNoPair : Reading → ℕ → AlgebraId → Type 0
HasNoPair a n target = (u v : Point) → IsSeparatingPair a n target u v → ⊥
