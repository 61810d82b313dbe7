-- Nothing here need be believed: sorted terms whose like terms are added in place, for the contracts of private functions.
use Rattle.std.specs.Prelude.{◌≡◌, ◌≢◌, ℕ, ◌+◌, ◌-◌, ◌^◌, ◌<◌, ◌≤◌, ◌++◌, ℤ, pos, ◌+ℤ◌, ◌*ℤ◌, length, take, drop, slice_set, unsigned_abs}
use Rattle.std.specs.List.Sorted.{IsSortedByKey}
use Rattle.realisations.specs.Codes.{Key}
use Rattle.realisations.specs.Readings.{Terms}
use Rattle.realisations.specs.Combinations.{Combination, key_cmp, term_at, norm_of, weighed, HasRisingKeys, HasKey, terms_of}
use Rattle.linear_combos.specs.Combos.{HasRank, IsGapFor}

-- no term has a smaller key than one before it
abbrev pub IsSortedByKeys : Terms → Type 0
IsSortedByKeys ts = IsSortedByKey (λ t. t.1) key_cmp ts

-- terms with rising keys and no numerator 0, and a numerator times a greater key, which weigh as much as the first i terms of a list, whatever the keys weigh; the greater key is that of the last of these
pub record IsPending (ts : Terms) (i : ℕ) (us : Terms) (num : ℤ) (key : Key) : Type 0 where
  pub started : 1 ≤ i
  pub in_range : i ≤ length ts
  pub rising : HasRisingKeys us
  pub nonzero : (j : ℕ) → j < length us → (term_at us j).0 ≢ pos 0
  pub gap : IsGapFor us key (length us)
  pub current : key ≡ (term_at ts (i - 1)).1
  pub norm : norm_of us + unsigned_abs num ≤ norm_of (take i ts)
  pub weighs : (weight : Key → ℤ) → weighed weight us +ℤ (num *ℤ weight key) ≡ weighed weight (take i ts)
  pub keys : (k : Key) → HasKey us k → HasKey ts k

-- the sum of the first i terms of a list stands in front, up to a place, and the terms from i on are as they were
pub record IsInFront (ts : Terms) (i last : ℕ) (now : Terms) : Type 0 where
  pub earlier : last < i
  pub same_length : length now ≡ length ts
  pub rest : drop i now ≡ drop i ts
  pub pending : IsPending ts i (take last now) (term_at now last).0 (term_at now last).1

-- the terms before a place, and that one where its numerator is not 0
abbrev pub kept : Terms → ℕ → Terms
kept ts last = take last ts ++ terms_of (term_at ts last).0 (term_at ts last).1

-- the terms that were pushed have one rank, and their norm is known and has room
pub record IsPushed (rank : ℕ) (ts : Terms) (norm : ℕ) : Type 0 where
  pub ranks : HasRank rank ts
  pub norm_is : norm ≡ norm_of ts
  pub small : norm_of ts < 2 ^ 127

-- the second combination weighs as much as the first, whatever the keys weigh, with no larger norm and no other keys
pub record WeighsTheSame (a b : Combination) : Type 0 where
  pub rank : b.rank ≡ a.rank
  pub den : b.den ≡ a.den
  pub weighs : (weight : Key → ℤ) → weighed weight b.terms ≡ weighed weight a.terms
  pub norm : norm_of b.terms ≤ norm_of a.terms
  pub keys : (key : Key) → HasKey b.terms key → HasKey a.terms key

-- the term at a place was added to the last one of a sum in front, put over it where its numerator is 0, or else put behind it
pub data IsStep (old : Terms) (last at : ℕ) (new : Terms) (next : ℕ) : Type 0 where
  added : (term_at old last).1 ≡ (term_at old at).1 → new ≡ slice_set old last ((term_at old last).0 +ℤ (term_at old at).0, (term_at old at).1) → next ≡ last → IsStep old last at new next
  over : (term_at old last).1 ≢ (term_at old at).1 → (term_at old last).0 ≡ pos 0 → new ≡ slice_set old last (term_at old at) → next ≡ last → IsStep old last at new next
  behind : (term_at old last).1 ≢ (term_at old at).1 → (term_at old last).0 ≢ pos 0 → new ≡ slice_set old (last + 1) (term_at old at) → next ≡ last + 1 → IsStep old last at new next
