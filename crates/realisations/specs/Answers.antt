-- What a rule on indices answers.
use Rattle.std.specs.Prelude.{◌≡◌, ℕ, ◌*◌, ◌^◌, ◌≤◌, List, length, map}
use Rattle.realisations.specs.Codes.{Key}
use Rattle.realisations.specs.Bases.{kind_of}
use Rattle.realisations.specs.Points.{ArePoints, Points}
use Rattle.realisations.specs.Combinations.{Combination, IsCanonical, HasKey, norm_of}
use Rattle.realisations.specs.Indices.{AreIndices, total_degree}
use Rattle.realisations.specs.Readings.{Reading, leaf, AgreeAt}
use Rattle.basis_names.specs.declared.bases.BasisId.{BasisId}

-- the combination over these bases is canonical and reads as the reading does, at all points; its keys are indices of degree n, it is over 1, and its norm is at most 2^(5n), so that no sum of such answers passes its room
pub record IsAnswer (bases : List BasisId) (n : ℕ) (reading : Reading) (c : Combination) : Type 0 where
  pub canonical : IsCanonical c.rank c.den c.terms
  pub rank : c.rank ≡ length bases
  pub whole : c.den ≡ 1
  pub small : norm_of c.terms ≤ 2 ^ (5 * n)
  pub indices : (key : Key) → HasKey c.terms key → AreIndices bases key
  pub degrees : (key : Key) → HasKey c.terms key → total_degree bases key ≡ n
  pub reads : (ps : Points) → ArePoints (map kind_of bases) ps → AgreeAt (leaf bases 1 c.terms) reading ps
