-- Sums, multiples and tensor products of combinations, and where a key stands among terms.
use Rattle.std.specs.Prelude.{◌≡◌, ℕ, ◌+◌, ◌*◌, ◌<◌, ◌≤◌, ◌⊎◌, ℤ, pos, neg_ℤ, ◌+ℤ◌, ◌*ℤ◌, List, ◌++◌, length}
use Rattle.std.specs.declared.cmp.Ordering.TheVariants.{Less}
use Rattle.hopf_num.specs.Fractions.{Ratio}
use Rattle.realisations.specs.Readings.{Terms}
use Rattle.realisations.specs.Combinations.{Combination, key_cmp, norm_of, term_at, HasKey, AreTerms, weighed}

-- the term at a place has the key
pub record IsAt (ts : Terms) (key : List (List ℕ)) (i : ℕ) : Type 0 where
  pub in_range : i < length ts
  pub has_key : (term_at ts i).1 ≡ key

-- the key would go at a place: smaller keys before it, and greater keys from it on
pub record IsGapFor (ts : Terms) (key : List (List ℕ)) (i : ℕ) : Type 0 where
  pub in_range : i ≤ length ts
  pub smaller_before : (j : ℕ) → j < i → key_cmp ((term_at ts j).1) key ≡ Less
  pub greater_after : (j : ℕ) → i ≤ j → j < length ts → key_cmp key ((term_at ts j).1) ≡ Less

-- the sum of two combinations: whatever the keys weigh, its terms over its denominator weigh as much as theirs over theirs; and each of its keys is one of theirs
pub record IsSum (a b c : Combination) : Type 0 where
  pub rank : c.rank ≡ a.rank
  pub weighs : (weight : List (List ℕ) → ℤ) → weighed weight c.terms *ℤ (pos a.den *ℤ pos b.den)
      ≡ (weighed weight a.terms *ℤ pos b.den +ℤ weighed weight b.terms *ℤ pos a.den) *ℤ pos c.den
  pub keys : (key : List (List ℕ)) → HasKey c.terms key → HasKey a.terms key ⊎ HasKey b.terms key

-- the difference of two combinations, in the same way
pub record IsDifference (a b c : Combination) : Type 0 where
  pub rank : c.rank ≡ a.rank
  pub weighs : (weight : List (List ℕ) → ℤ) → weighed weight c.terms *ℤ (pos a.den *ℤ pos b.den)
      ≡ (weighed weight a.terms *ℤ pos b.den +ℤ neg_ℤ (weighed weight b.terms *ℤ pos a.den)) *ℤ pos c.den
  pub keys : (key : List (List ℕ)) → HasKey c.terms key → HasKey a.terms key ⊎ HasKey b.terms key

-- the product of a combination with a ratio, in the same way
pub record IsMultiple (a : Combination) (by : Ratio) (c : Combination) : Type 0 where
  pub rank : c.rank ≡ a.rank
  pub weighs : (weight : List (List ℕ) → ℤ) → weighed weight c.terms *ℤ (pos a.den *ℤ pos by.den)
      ≡ (weighed weight a.terms *ℤ by.num) *ℤ pos c.den
  pub keys : (key : List (List ℕ)) → HasKey c.terms key → HasKey a.terms key

-- the tensor product of two combinations: whatever the keys weigh, each pair of their keys weighs as the first followed by the second; and its keys are such pairs. Its denominator and norm are at most the products of theirs
pub record IsTensor (a b c : Combination) : Type 0 where
  pub rank : c.rank ≡ a.rank + b.rank
  pub weighs : (weight : List (List ℕ) → ℤ) → weighed weight c.terms *ℤ (pos a.den *ℤ pos b.den)
      ≡ weighed (λ left. weighed (λ right. weight (left ++ right)) b.terms) a.terms *ℤ pos c.den
  pub keys : (key : List (List ℕ)) → HasKey c.terms key
      → (left : List (List ℕ)) × (right : List (List ℕ)) × HasKey a.terms left × HasKey b.terms right × (key ≡ left ++ right)
  pub den : c.den ≤ a.den * b.den
  pub norm : norm_of c.terms ≤ norm_of a.terms * norm_of b.terms

-- each key has so many codes
abbrev pub HasRank : ℕ → Terms → Type 0
HasRank rank ts = (i : ℕ) → i < length ts → length ((term_at ts i).1) ≡ rank

-- canonical terms that weigh as much as others, in any order, whatever the keys weigh, with no larger norm and no other keys
pub record Gathers (rank : ℕ) (ts us : Terms) : Type 0 where
  pub terms : AreTerms rank us
  pub norm : norm_of us ≤ norm_of ts
  pub weighs : (weight : List (List ℕ) → ℤ) → weighed weight us ≡ weighed weight ts
  pub keys : (key : List (List ℕ)) → HasKey us key → HasKey ts key

-- the combination over 1 of terms in any order
pub record IsSumOfTerms (rank : ℕ) (ts : Terms) (c : Combination) : Type 0 where
  pub rank_is : c.rank ≡ rank
  pub whole : c.den ≡ 1
  pub gathers : Gathers rank ts c.terms
