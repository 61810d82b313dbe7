-- Nothing here need be believed: the product of two combinations over the same bases, without their denominators, for the contracts of private functions.
use Rattle.std.specs.Prelude.{◌≡◌, ℕ, ◌+◌, ◌*◌, ◌^◌, ◌<◌, ◌≤◌, ◌⊎◌, ℤ, ◌+ℤ◌, ◌*ℤ◌, List, length, map, take, unsigned_abs}
use Rattle.realisations.specs.Codes.{Key}
use Rattle.realisations.specs.Answers.{IsAnswer}
use Rattle.realisations.specs.Combinations.{Combination, IsCanonical, HasKey, norm_of, term_at, weighed}
use Rattle.realisations.specs.Indices.{AreIndices, total_degree}
use Rattle.realisations.specs.Bases.{kind_of}
use Rattle.realisations.specs.Points.{ArePoints, Points}
use Rattle.realisations.specs.Readings.{Terms, leaf, product, of_key, numerator}
use Rattle.basis_names.specs.declared.bases.BasisId.{BasisId}
use Rattle.hopf_laws.specs.Bases.{AreBuilt, least_limit}
use Rattle.hopf_laws.specs.Values.{greatest_degree}

-- the keys are indices of these bases
pub record IsOfIndices (bases : List BasisId) (c : Combination) : Type 0 where
  pub rank : c.rank ≡ length bases
  pub indices : (key : Key) → HasKey c.terms key → AreIndices bases key

-- the whole combination reads as the product of the numerators, at all tuples of points, and its keys are indices of degrees up to n
pub record IsGathered (bases : List BasisId) (n : ℕ) (a b c : Combination) : Type 0 where
  pub canonical : IsCanonical c.rank c.den c.terms
  pub whole : c.den ≡ 1
  pub over : IsOfIndices bases c
  pub degrees : (key : Key) → HasKey c.terms key → total_degree bases key ≤ n
  pub reads : (ps : Points) → ArePoints (map kind_of bases) ps →
      numerator (leaf bases 1 c.terms) ps ≡ numerator (product (leaf bases a.den a.terms) (leaf bases b.den b.terms)) ps

-- two keys are indices of these built bases, and the degree of their product is within the least limit
pub record AreFactorKeys (bases : List BasisId) (left right : Key) : Type 0 where
  pub built : AreBuilt bases
  pub left_indices : AreIndices bases left
  pub right_indices : AreIndices bases right
  pub degree : total_degree bases left + total_degree bases right ≤ least_limit bases

-- the combination is the product of the basis elements of two keys
abbrev pub IsProductOfKeys : List BasisId → Key → Key → Combination → Type 0
IsProductOfKeys bases left right c =
    IsAnswer bases (total_degree bases left + total_degree bases right) (product (of_key bases left) (of_key bases right)) c

-- the degree of a product of terms: the sum of the greatest degrees
abbrev pub degree_of_product : List BasisId → Terms → Terms → ℕ
degree_of_product bases ts us = greatest_degree bases ts + greatest_degree bases us

-- two combinations over the same built bases whose product is within the least limit and has room
pub record AreFactors (bases : List BasisId) (a b : Combination) : Type 0 where
  pub some : 1 ≤ length bases
  pub built : AreBuilt bases
  pub left_over : IsOfIndices bases a
  pub right_over : IsOfIndices bases b
  pub degree : degree_of_product bases a.terms b.terms ≤ least_limit bases
  pub room : norm_of a.terms * norm_of b.terms * 2 ^ (5 * degree_of_product bases a.terms b.terms) < 2 ^ 127

-- a multiple of the first terms of a list was added, up to a count: whatever the keys weigh, the new terms weigh as much as the old ones and the multiple of these; and each key was there before, or is in the list
pub record AddsMultiple (old : Combination) (num : ℤ) (by : Terms) (count : ℕ) (new : Combination) : Type 0 where
  pub rank : new.rank ≡ old.rank
  pub den : new.den ≡ old.den
  pub weighs : (weight : Key → ℤ) → weighed weight new.terms ≡ weighed weight old.terms +ℤ (num *ℤ weighed weight (take count by))
  pub keys : (key : Key) → HasKey new.terms key → HasKey old.terms key ⊎ HasKey by key
  pub norm : norm_of new.terms ≤ norm_of old.terms + unsigned_abs num * norm_of (take count by)

-- the products of each of the first i terms with all of the second list, and of the next term with its first j, were gathered
pub record AreGathered (bases : List BasisId) (ts us : Terms) (i j : ℕ) (c : Combination) : Type 0 where
  pub rank : c.rank ≡ length bases
  pub whole : c.den ≡ 1
  pub indices : (key : Key) → HasKey c.terms key → AreIndices bases key
  pub degrees : (key : Key) → HasKey c.terms key → total_degree bases key ≤ degree_of_product bases ts us
  pub norm : norm_of c.terms ≤ (norm_of (take i ts) * norm_of us + unsigned_abs (term_at ts i).0 * norm_of (take j us)) * 2 ^ (5 * degree_of_product bases ts us)
  pub reads : (ps : Points) → ArePoints (map kind_of bases) ps →
      numerator (leaf bases 1 c.terms) ps
      ≡ weighed (λ k. weighed (λ l. numerator (product (of_key bases k) (of_key bases l)) ps) us) (take i ts)
      +ℤ ((term_at ts i).0 *ℤ weighed (λ l. numerator (product (of_key bases ((term_at ts i).1)) (of_key bases l)) ps) (take j us))
