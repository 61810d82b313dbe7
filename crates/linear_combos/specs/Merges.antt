-- Nothing here need be believed: terms on the way to canonical form, over a denominator that may have a factor in common with them, for the contracts of private functions.
use Rattle.std.specs.Prelude.{◌≡◌, ℕ, ◌+◌, ◌*◌, ◌^◌, ◌<◌, ◌≤◌, ◌⊎◌, ℤ, pos, int_div, ◌+ℤ◌, ◌*ℤ◌, List, ◌++◌, length, map, take, unsigned_abs}
use Rattle.std.specs.declared.cmp.Ordering.{Ordering}
use Rattle.std.specs.declared.cmp.Ordering.TheVariants.{Less, Equal, Greater}
use Rattle.std.specs.Int.{◌∣◌}
use Rattle.realisations.specs.Readings.{Terms}
use Rattle.realisations.specs.Combinations.{Combination, key_cmp, term_at, norm_of, weighed, AreTerms, HasKey}

-- g is the greatest common divisor of the denominator and of all numerators
pub record IsCommon (den : ℕ) (ts : Terms) (g : ℕ) : Type 0 where
  pub divides_den : g ∣ den
  pub divides : (i : ℕ) → i < length ts → g ∣ unsigned_abs (term_at ts i).0
  pub greatest : (d : ℕ) → d ∣ den → ((i : ℕ) → i < length ts → d ∣ unsigned_abs (term_at ts i).0) → d ∣ g

-- canonical terms over a denominator that is not yet in lowest terms
pub record IsUnreduced (rank den : ℕ) (ts : Terms) (norm common : ℕ) : Type 0 where
  pub ordered : AreTerms rank ts
  pub positive : 1 ≤ den
  pub small : den < 2 ^ 127
  pub norm_is : norm ≡ norm_of ts
  pub common_is : IsCommon den ts common

-- the same keys with the quotients of the numerators
abbrev pub quotients : ℕ → Terms → Terms
quotients g ts = map (λ t. (int_div t.0 (pos g), t.1)) ts

-- the same keys with multiples of the numerators
abbrev pub multiples : ℤ → Terms → Terms
multiples p ts = map (λ t. (t.0 *ℤ p, t.1)) ts

-- the terms are multiples of canonical ones, canonical themselves where they have room: whatever the keys weigh, they weigh p times as much, and they have no other keys
pub record AreMultiples (p : ℤ) (ts us : Terms) : Type 0 where
  pub terms : (rank : ℕ) → AreTerms rank ts → AreTerms rank us
  pub norm : norm_of us ≡ norm_of ts * unsigned_abs p
  pub weighs : (weight : List (List ℕ) → ℤ) → weighed weight us ≡ weighed weight ts *ℤ p
  pub keys : (key : List (List ℕ)) → HasKey us key → HasKey ts key

-- each key from a place on is greater
abbrev pub GreaterFrom : Terms → List (List ℕ) → ℕ → Type 0
GreaterFrom ts key i = (j : ℕ) → i ≤ j → j < length ts → key_cmp key ((term_at ts j).1) ≡ Less

-- which of two lists of terms has the least key from these places on: Less for the first, Greater for the second
abbrev pub IsNext : Terms → Terms → ℕ → ℕ → Ordering → Type 0
IsNext a b i j Less = (i < length a) × GreaterFrom b ((term_at a i).1) j
IsNext a b i j Equal = (i < length a) × (j < length b) × ((term_at a i).1 ≡ (term_at b j).1)
IsNext a b i j Greater = (j < length b) × GreaterFrom a ((term_at b j).1) i

-- the terms are the first i of a times p and the first j of b times q, like terms gathered, and all that follows has greater keys
pub record IsMerged (a : Terms) (p : ℤ) (b : Terms) (q : ℤ) (i j : ℕ) (ts : Terms) : Type 0 where
  pub in_left : i ≤ length a
  pub in_right : j ≤ length b
  pub weighs : (weight : List (List ℕ) → ℤ) → weighed weight ts ≡ weighed weight (take i a) *ℤ p +ℤ weighed weight (take j b) *ℤ q
  pub norm : norm_of ts ≤ norm_of (take i a) * unsigned_abs p + norm_of (take j b) * unsigned_abs q
  pub keys : (key : List (List ℕ)) → HasKey ts key → HasKey a key ⊎ HasKey b key
  pub before_left : (key : List (List ℕ)) → HasKey ts key → GreaterFrom a key i
  pub before_right : (key : List (List ℕ)) → HasKey ts key → GreaterFrom b key j

-- the combination of two lists of terms with two factors, over a denominator, brought to lowest terms
pub record IsCombined (r den : ℕ) (a : Terms) (p : ℤ) (b : Terms) (q : ℤ) (c : Combination) : Type 0 where
  pub rank : c.rank ≡ r
  pub weighs : (weight : List (List ℕ) → ℤ) → weighed weight c.terms *ℤ pos den
      ≡ (weighed weight a *ℤ p +ℤ weighed weight b *ℤ q) *ℤ pos c.den
  pub keys : (key : List (List ℕ)) → HasKey c.terms key → HasKey a key ⊎ HasKey b key

-- the combination is these terms over this denominator, and neither the denominator nor the norm is larger
pub record IsOver (r den : ℕ) (ts : Terms) (c : Combination) : Type 0 where
  pub rank : c.rank ≡ r
  pub weighs : (weight : List (List ℕ) → ℤ) → weighed weight c.terms *ℤ pos den ≡ weighed weight ts *ℤ pos c.den
  pub keys : (key : List (List ℕ)) → HasKey c.terms key → HasKey ts key
  pub den_within : c.den ≤ den
  pub norm_within : norm_of c.terms ≤ norm_of ts

-- the first combination and the second one times a sign, in the way of a sum
pub record IsSignedSum (a b : Combination) (sign : ℤ) (c : Combination) : Type 0 where
  pub rank : c.rank ≡ a.rank
  pub weighs : (weight : List (List ℕ) → ℤ) → weighed weight c.terms *ℤ (pos a.den *ℤ pos b.den)
      ≡ (weighed weight a.terms *ℤ pos b.den +ℤ (weighed weight b.terms *ℤ sign) *ℤ pos a.den) *ℤ pos c.den
  pub keys : (key : List (List ℕ)) → HasKey c.terms key → HasKey a.terms key ⊎ HasKey b.terms key

-- two combinations whose keys in a row have at most 3 codes and whose norms have a product with room
pub record AreFactors (a b : Combination) : Type 0 where
  pub first : AreTerms a.rank a.terms
  pub second : AreTerms b.rank b.terms
  pub short : a.rank + b.rank ≤ 3
  pub room : norm_of a.terms * norm_of b.terms < 2 ^ 127

-- the key is one of the first list followed by one of the second, at places that come before these
pub record IsPairBefore (a b : Terms) (i j : ℕ) (key : List (List ℕ)) : Type 0 where
  pub left : ℕ
  pub right : ℕ
  pub in_left : left < length a
  pub in_right : right < length b
  pub earlier : (left < i) ⊎ ((left ≡ i) × (right < j))
  pub is : key ≡ (term_at a left).1 ++ (term_at b right).1

-- the terms are the products of the first i terms of the first list with all of the second, and of its next term with the first j of the second
pub record AreProducts (a b : Terms) (i j : ℕ) (ts : Terms) : Type 0 where
  pub in_left : i ≤ length a
  pub in_right : j ≤ length b
  pub weighs : (weight : List (List ℕ) → ℤ) → weighed weight ts
      ≡ weighed (λ left. weighed (λ right. weight (left ++ right)) b) (take i a)
      +ℤ (term_at a i).0 *ℤ weighed (λ right. weight ((term_at a i).1 ++ right)) (take j b)
  pub norm : norm_of ts ≤ norm_of (take i a) * norm_of b + unsigned_abs (term_at a i).0 * norm_of (take j b)
  pub keys : (key : List (List ℕ)) → HasKey ts key → IsPairBefore a b i j key
