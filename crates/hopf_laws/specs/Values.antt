-- Values: combinations over a list of bases.
use Rattle.std.specs.Prelude.{◌≡◌, ℕ, ◌≤◌, max, List, [], ◌∷◌, length, map}
use Rattle.hopf_num.specs.Fractions.{Ratio}
use Rattle.realisations.specs.Codes.{Key}
use Rattle.realisations.specs.Combinations.{Combination, IsCanonical, HasKey}
use Rattle.realisations.specs.Indices.{AreIndices, total_degree}
use Rattle.realisations.specs.Bases.{kind_of}
use Rattle.realisations.specs.Points.{ArePoints, Points}
use Rattle.realisations.specs.Readings.{Terms, Reading, leaf, numerator, AgreeAt}
use Rattle.basis_names.specs.declared.bases.BasisId.{BasisId}
use Rattle.hopf_laws.specs.Bases.{AreBuilt, least_limit}

-- a basis for each component, and a combination
pub record Expansion : Type 0 where
  pub bases : List BasisId
  pub combination : Combination

-- what every value meets: it has up to three components, over built bases, it is canonical, its codes are indices of its bases, and no key is past the least limit of its bases
pub record IsValue (v : Expansion) : Type 0 where
  pub short : length v.bases ≤ 3
  pub built : AreBuilt v.bases
  pub rank : v.combination.rank ≡ length v.bases
  pub canonical : IsCanonical v.combination.rank v.combination.den v.combination.terms
  pub indices : (key : Key) → HasKey v.combination.terms key → AreIndices v.bases key
  pub degrees : (key : Key) → HasKey v.combination.terms key → total_degree v.bases key ≤ least_limit v.bases

-- what a value reads as
abbrev pub reading_of : Expansion → Reading
reading_of v = leaf v.bases v.combination.den v.combination.terms

-- the number that a scalar is
abbrev pub ratio_of : Expansion → Ratio
ratio_of v = record { num = numerator (reading_of v) []; den = v.combination.den }

-- the greatest degree of the keys of terms, 0 where there are none
abbrev pub greatest_degree : List BasisId → Terms → ℕ
greatest_degree bases [] = 0
greatest_degree bases (t ∷ ts) = max (total_degree bases t.1) (greatest_degree bases ts)

-- the total degree of a value
abbrev pub degree_of_value : Expansion → ℕ
degree_of_value v = greatest_degree v.bases v.combination.terms

-- the value over these bases that reads so at every tuple of points; by the law of uniqueness there is at most one
pub record Expands (bases : List BasisId) (reading : Reading) (v : Expansion) : Type 0 where
  pub value : IsValue v
  pub over : v.bases ≡ bases
  pub reads : (ps : Points) → ArePoints (map kind_of bases) ps → AgreeAt (reading_of v) reading ps
