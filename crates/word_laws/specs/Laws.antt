-- Laws of words. Public functions with empty bodies ensure them (`src/laws.rt`).
use Rattle.std.specs.Prelude.{ℕ, IsTrue, List}
use Rattle.realisations.specs.IndexKinds.{is_packed, is_permutation}
use Rattle.realisations.specs.Points.{word, IsPoint}
use Rattle.realisations.specs.Standardisation.{pack}
use Rattle.word_laws.specs.Merges.{IsConvolution, IsConvolutionPast, IsMerge, IsMergePast}
use Rattle.word_laws.specs.Spreads.{IsSpread}

-- a word is a spread of its packing
abbrev pub PatternLaw : Type 0
PatternLaw = (w : List ℕ) → IsPoint word w → IsSpread 0 (pack w) w

-- a packed word has the packings u and v in front and back exactly where it is u and v, both spread
pub record MergeLaw : Type 0 where
  pub spread : (u v w : List ℕ) → IsMerge u v w → IsMergePast 0 u v w
  pub packed : (u v : List ℕ) → IsTrue (is_packed u) → IsTrue (is_packed v) → (w : List ℕ) → IsMergePast 0 u v w → IsMerge u v w

-- a permutation has the standardisations u and v in front and back exactly where it is the permutations u and v, both spread
pub record ConvolutionLaw : Type 0 where
  pub spread : (u v : List ℕ) → IsTrue (is_permutation u) → IsTrue (is_permutation v) → (w : List ℕ) → IsConvolution u v w → IsConvolutionPast 0 u v w
  pub standard : (u v : List ℕ) → IsTrue (is_permutation u) → IsTrue (is_permutation v) → (w : List ℕ) → IsConvolutionPast 0 u v w → IsConvolution u v w
