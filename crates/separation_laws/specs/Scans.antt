-- Scans of the packed words in their order: what a loop that looks for the separating pair has found.
use Rattle.std.specs.Prelude.{◌≡◌, ℕ, ◌<◌, ◌≤◌, IsTrue, List, [], length, slice_index_or}
use Rattle.basis_names.specs.declared.bases.AlgebraId.{AlgebraId}
use Rattle.realisations.specs.IndexKinds.{is_packed}
use Rattle.realisations.specs.Points.{Point}
use Rattle.realisations.specs.Readings.{Reading}
use Rattle.separation_laws.specs.Separation.{IsBefore, IsPartner}

-- the word at a place, counted from 0
abbrev pub word_at : List Point → ℕ → Point
word_at ws i = slice_index_or ws i []

-- the packed words of at most d letters in their order, each once
pub record ArePackedWords (d : ℕ) (ws : List Point) : Type 0 where
  pub packed : (i : ℕ) → i < length ws → IsTrue (is_packed (word_at ws i))
  pub rising : (i j : ℕ) → i < j → j < length ws → IsBefore (word_at ws i) (word_at ws j)
  pub all : (w : Point) → IsTrue (is_packed w) → length w ≤ d → (i : ℕ) × (i < length ws) × (word_at ws i ≡ w)

-- none of the first i words has a partner
abbrev pub NoneParted : Reading → ℕ → AlgebraId → List Point → ℕ → Type 0
NoneParted a n target ws i = (k : ℕ) → k < i → (v : Point) → IsPartner a n target (word_at ws k) v → ⊥

-- none of the first j words is a partner of u
abbrev pub NonePartners : Reading → ℕ → AlgebraId → List Point → Point → ℕ → Type 0
NonePartners a n target ws u j = (k : ℕ) → k < j → IsPartner a n target u (word_at ws k) → ⊥
