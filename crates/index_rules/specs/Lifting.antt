-- Nothing here need be believed: answers gathered one by one, for the contracts of private functions.
use Rattle.std.specs.Prelude.{◌≡◌, ℕ, ◌+◌, ◌*◌, ◌^◌, ◌≤◌, ◌⊎◌, ℤ, ◌+ℤ◌, ◌*ℤ◌, List, ◌∷◌, ◌++◌, map, length, take, unsigned_abs}
use Rattle.basis_names.specs.declared.bases.BasisId.{BasisId}
use Rattle.change_laws.specs.Lifts.{replaced}
use Rattle.index_rules.specs.Lifts.{PutFacts, IsPutInto, reads_as}
use Rattle.index_rules.specs.Rules.{greatest_of}
use Rattle.realisations.specs.Bases.{kind_of}
use Rattle.realisations.specs.Codes.{Key}
use Rattle.realisations.specs.Combinations.{Combination, IsCanonical, HasKey, norm_of, weighed}
use Rattle.realisations.specs.Indices.{AreIndices}
use Rattle.realisations.specs.Points.{Points, ArePoints}
use Rattle.realisations.specs.Readings.{Terms, leaf, numerator}

-- a multiple of the first terms of a list was added, each put into component k of a key: whatever the keys weigh
pub record AddsReplaced (old : Combination) (num : ℤ) (k : ℕ) (key : Key) (by : Terms) (count : ℕ) (new : Combination) : Type 0 where
  pub rank : new.rank ≡ old.rank
  pub den : new.den ≡ old.den
  pub weighs : (weight : Key → ℤ) → weighed weight new.terms ≡ weighed weight old.terms +ℤ (num *ℤ weighed (λ codes. weight (replaced k codes key)) (take count by))
  pub keys : (k' : Key) → HasKey new.terms k' → HasKey old.terms k' ⊎ ((codes : Key) × HasKey by codes × (k' ≡ replaced k codes key))
  pub norm : norm_of new.terms ≤ norm_of old.terms + unsigned_abs num * norm_of (take count by)

-- the answers at the first i terms were gathered, over 1
pub record AreLifted (facts : PutFacts) (k : ℕ) (width : ℕ) (old : Terms) (i : ℕ) (new : Combination) : Type 0 where
  pub rank : new.rank + 1 ≡ width + length facts.bases
  pub whole : new.den ≡ 1
  pub room : norm_of new.terms ≤ norm_of (take i old) * 2 ^ (5 * greatest_of facts.degree old)
  pub norm : norm_of new.terms ≤ norm_of (take i old) * 2 ^ (facts.growth * greatest_of facts.degree old)
  pub keys : (key : Key) → HasKey new.terms key → IsPutInto facts k old key
  pub reads : (before after : List BasisId) (ps qs rs : Points) → length before ≡ k → length ps ≡ k → ((key : Key) → HasKey old key → AreIndices (before ++ facts.basis ∷ after) (facts.shorter key)) → ArePoints (map kind_of facts.bases) qs →
      numerator (leaf (before ++ (facts.bases ++ after)) 1 new.terms) (ps ++ (qs ++ rs)) ≡ weighed (reads_as facts before after ps qs rs) (take i old)

-- all answers, over 1, without the denominator of the old combination
pub record IsLiftedWhole (facts : PutFacts) (k width : ℕ) (old new : Combination) : Type 0 where
  pub canonical : IsCanonical new.rank new.den new.terms
  pub all : AreLifted facts k width old.terms (length old.terms) new
