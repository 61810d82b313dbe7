-- Nothing here need be believed: the recursion for the antipode, term by term, for the contracts of private functions.
use Rattle.std.specs.Prelude.{◌≡◌, ℕ, ◌+◌, ◌-◌, ◌*◌, ◌^◌, ◌≤◌, ◌⊎◌, ℤ, pos, neg_ℤ, ◌+ℤ◌, ◌*ℤ◌, if◌then◌else◌, [], ◌∷◌, take, length, unsigned_abs}
use Rattle.basis_names.specs.declared.bases.BasisId.{BasisId}
use Rattle.antipode_laws.specs.Recursion.{first_code, second_code, ends}
use Rattle.index_rules.specs.Rules.{IsAnswerWithin}
use Rattle.index_rules.specs.Spaces.{IsIndexWithin}
use Rattle.realisations.specs.Bases.{kind_of}
use Rattle.realisations.specs.Codes.{Code, Key}
use Rattle.realisations.specs.Combinations.{Combination, IsCanonical, HasKey, norm_of, weighed}
use Rattle.realisations.specs.Indices.{AreIndices, degree_of, total_degree}
use Rattle.realisations.specs.Points.{Point, IsPoint}
use Rattle.realisations.specs.Readings.{Terms, leaf, applied, antipode, coproduct, element, numerator}

-- a multiple of the first terms of a list was taken away, each first code followed by a second one: whatever the keys weigh
pub record SubtractsFollowed (old : Combination) (num : ℤ) (second : Code) (by : Terms) (count : ℕ) (new : Combination) : Type 0 where
  pub rank : new.rank ≡ old.rank
  pub den : new.den ≡ old.den
  pub weighs : (weight : Key → ℤ) → weighed weight new.terms ≡ weighed weight old.terms +ℤ neg_ℤ (num *ℤ weighed (λ codes. weight (first_code codes ∷ second ∷ [])) (take count by))
  pub keys : (key : Key) → HasKey new.terms key → HasKey old.terms key ⊎ ((codes : Key) × HasKey by codes × (key ≡ first_code codes ∷ second ∷ []))
  pub norm : norm_of new.terms ≤ norm_of old.terms + unsigned_abs num * norm_of (take count by)

-- the combination is the coproduct of an index within the limit, other than the empty one, as the rule answers it
pub record IsCoproduct (basis : BasisId) (growth : ℕ) (code : Code) (c : Combination) : Type 0 where
  pub index : IsIndexWithin basis code
  pub positive : 1 ≤ degree_of basis code
  pub answer : IsAnswerWithin growth (basis ∷ basis ∷ []) (degree_of basis code) (applied coproduct 0 (element basis code)) c

-- what a key adds at two points: the antipode of its first code at the first one, times its second code at the second one; nothing where that code is empty
abbrev pub turned_part : BasisId → Point → Point → Key → ℤ
turned_part basis p q key = if ends key then pos 0 else numerator (applied antipode 0 (element basis (first_code key))) (p ∷ []) *ℤ numerator (element basis (second_code key)) (q ∷ [])

-- what the first i terms of the coproduct of an index add was taken away, over 1
pub record AreSubtracted (basis : BasisId) (code : Code) (ts : Terms) (i : ℕ) (new : Combination) : Type 0 where
  pub rank : new.rank ≡ 2
  pub whole : new.den ≡ 1
  pub norm : norm_of new.terms ≤ norm_of (take i ts) * 2 ^ (5 * (degree_of basis code - 1))
  pub indices : (key : Key) → HasKey new.terms key → AreIndices (basis ∷ basis ∷ []) key
  pub degrees : (key : Key) → HasKey new.terms key → total_degree (basis ∷ basis ∷ []) key ≡ degree_of basis code
  pub reads : (p q : Point) → IsPoint (kind_of basis) p → IsPoint (kind_of basis) q →
      numerator (leaf (basis ∷ basis ∷ []) 1 new.terms) (p ∷ q ∷ []) ≡ neg_ℤ (weighed (turned_part basis p q) (take i ts))

-- what all of them add, gathered
pub record AreTurned (basis : BasisId) (growth : ℕ) (code : Code) (ts : Terms) (new : Combination) : Type 0 where
  pub canonical : IsCanonical new.rank new.den new.terms
  pub all : AreSubtracted basis code ts (length ts) new
  pub norm : norm_of new.terms ≤ 2 ^ (growth * degree_of basis code) * 2 ^ (5 * (degree_of basis code - 1))
