-- Conversions: terms and combinations over given bases that read as a reading does.
use Rattle.std.specs.Prelude.{◌≡◌, ℕ, ◌<◌, ◌≤◌, List, length, map, set, slice_index_or}
use Rattle.basis_names.specs.declared.bases.BasisId.{BasisId}
use Rattle.basis_names.specs.declared.bases.BasisId.TheVariants.{QsymM}
use Rattle.realisations.specs.Bases.{kind_of}
use Rattle.realisations.specs.Codes.{Key}
use Rattle.realisations.specs.Combinations.{Combination, IsCanonical, HasKey, norm_of}
use Rattle.realisations.specs.Indices.{AreIndices, total_degree}
use Rattle.realisations.specs.Points.{Points, word, ArePoints}
use Rattle.realisations.specs.Readings.{Terms, Reading, leaf, AgreeAt}

-- the basis of component n, counted from 0; where there is none, any
abbrev pub basis_at : List BasisId → ℕ → BasisId
basis_at bases n = slice_index_or bases n QsymM

-- the terms have keys of indices of these bases, of total degree at most d, and component n is there and is one of words
pub record HasWordComponent (bases : List BasisId) (n d : ℕ) (ts : Terms) : Type 0 where
  pub there : n < length bases
  pub kind : kind_of (basis_at bases n) ≡ word
  pub indices : (key : Key) → HasKey ts key → AreIndices bases key
  pub degrees : (key : Key) → HasKey ts key → total_degree bases key ≤ d

-- the terms over a denominator have keys of indices of these bases, and read as the reading does at all points
pub record ReadsOver (bases : List BasisId) (a : Reading) (den : ℕ) (ts : Terms) : Type 0 where
  pub indices : (key : Key) → HasKey ts key → AreIndices bases key
  pub reads : (ps : Points) → ArePoints (map kind_of bases) ps → AgreeAt (leaf bases den ts) a ps

-- with this basis in the place of component n, some terms over some denominator read as the reading does
abbrev pub LiesOver : BasisId → List BasisId → ℕ → Reading → Type 0
LiesOver to bases n a = (den : ℕ) × (ts : Terms) × (1 ≤ den) × ReadsOver (set bases n to) a den ts

-- the combination over these bases that reads as the reading does: it is canonical, so there is at most one
pub record Expresses (bases : List BasisId) (a : Reading) (c : Combination) : Type 0 where
  pub canonical : IsCanonical c.rank c.den c.terms
  pub rank : c.rank ≡ length bases
  pub over : ReadsOver bases a c.den c.terms

-- the same with keys of total degree at most d, a norm of at most m and a denominator of at most e
pub record IsConversion (bases : List BasisId) (d m e : ℕ) (a : Reading) (c : Combination) : Type 0 where
  pub expresses : Expresses bases a c
  pub degrees : (key : Key) → HasKey c.terms key → total_degree bases key ≤ d
  pub norm : norm_of c.terms ≤ m
  pub den : c.den ≤ e
