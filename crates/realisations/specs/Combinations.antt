-- Combinations: a rank, a denominator and terms, in canonical form.
use Rattle.std.specs.Prelude.{◌≡◌, ◌≢◌, ℕ, zero, suc, ◌^◌, ◌<◌, ◌≤◌, ◌⊎◌, ℤ, pos, negsuc, ◌+ℤ◌, ◌*ℤ◌, map, [], ◌∷◌, length, slice_index_or, unsigned_abs}
use Rattle.std.specs.Int.{◌∣◌}
use Rattle.std.specs.List.{sum_by}
use Rattle.std.specs.Ordering.{nat_cmp}
use Rattle.std.specs.declared.cmp.Ordering.{Ordering}
use Rattle.std.specs.declared.cmp.Ordering.TheVariants.{Less}
use Rattle.std.specs.Cmp.Lexicographic.{slice_cmp}
use Rattle.realisations.specs.Codes.{Key}
use Rattle.realisations.specs.Lists.{int_sum}
use Rattle.realisations.specs.Readings.{Terms}

-- what a combination is made of: the number of codes of its keys, a denominator, and pairs of a numerator and a key
pub record Combination : Type 0 where
  pub rank : ℕ
  pub den : ℕ
  pub terms : Terms

-- the canonical order of keys, the lexicographic one: component by component, each code letter by letter, a proper prefix first
abbrev pub key_cmp : Key → Key → Ordering
key_cmp a b = slice_cmp (slice_cmp nat_cmp) a b

-- the norm: the sum of the absolute numerators
abbrev pub norm_of : Terms → ℕ
norm_of ts = sum_by (λ t. unsigned_abs t.0) ts

-- the term at a place, counted from 0
abbrev pub term_at : Terms → ℕ → ℤ × Key
term_at ts i = slice_index_or ts i (pos 0, [])

-- the keys rise strictly
abbrev pub HasRisingKeys : Terms → Type 0
HasRisingKeys ts = (i j : ℕ) → i < j → j < length ts → key_cmp ((term_at ts i).1) ((term_at ts j).1) ≡ Less

-- terms in canonical form
pub record AreTerms (rank : ℕ) (ts : Terms) : Type 0 where
  pub rising : HasRisingKeys ts
  pub nonzero : (i : ℕ) → i < length ts → (term_at ts i).0 ≢ pos 0
  pub ranks : (i : ℕ) → i < length ts → length ((term_at ts i).1) ≡ rank
  pub small : norm_of ts < 2 ^ 127

-- the denominator is in lowest terms: 1 alone divides it and all numerators; so it is 1 where there are no terms
pub record IsLowest (den : ℕ) (ts : Terms) : Type 0 where
  pub positive : 1 ≤ den
  pub small : den < 2 ^ 127
  pub coprime : (d : ℕ) → d ∣ den → ((i : ℕ) → i < length ts → d ∣ unsigned_abs (term_at ts i).0) → d ≡ 1

-- what every combination meets
pub record IsCanonical (rank den : ℕ) (ts : Terms) : Type 0 where
  pub ordered : AreTerms rank ts
  pub lowest : IsLowest den ts

-- the key is that of some term
abbrev pub HasKey : Terms → Key → Type 0
HasKey ts key = (i : ℕ) × (i < length ts) × ((term_at ts i).1 ≡ key)

-- the terms of a numerator times a key: none where the numerator is 0
abbrev pub terms_of : ℤ → Key → Terms
terms_of (pos zero) key = []
terms_of (pos (suc n)) key = (pos (suc n), key) ∷ []
terms_of (negsuc n) key = (negsuc n, key) ∷ []

-- the sum of the numerators, each times the weight of its key: with occurrences as weights a reading, with weight 1 at one key its coefficient
abbrev pub weighed : (Key → ℤ) → Terms → ℤ
weighed weight ts = int_sum (map (λ t. t.0 *ℤ weight t.1) ts)

-- the numerator times the key was added: whatever the keys weigh, the new terms weigh as much as the old ones and the term; and each key was there before, or is this one
pub record AddsTerm (old new : Terms) (num : ℤ) (key : Key) : Type 0 where
  pub weighs : (weight : Key → ℤ) → weighed weight new ≡ weighed weight old +ℤ (num *ℤ weight key)
  pub keys : (k : Key) → HasKey new k → HasKey old k ⊎ (k ≡ key)
