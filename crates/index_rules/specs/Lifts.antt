-- Answers put into the keys of a combination, in the place of one component or of two neighbours.
use Rattle.std.specs.Prelude.{refl, suc, [], ◌-◌, ◌≡◌, ℕ, ◌+◌, ◌*◌, ◌^◌, ◌<◌, ◌≤◌, ℤ, pos, ◌*ℤ◌, List, ◌∷◌, ◌++◌, map, length}
use Rattle.std.specs.Int.{◌∣◌}
use Rattle.basis_names.specs.declared.bases.BasisId.{BasisId}
use Rattle.change_laws.specs.Lifts.{code_at, replaced, occurrence_beside}
use Rattle.index_rules.specs.Rules.{RuleFacts, HasIndicesAt, greatest_of, greatest_degree_at}
use Rattle.index_rules.specs.Spaces.{limit_for}
use Rattle.realisations.specs.Bases.{kind_of}
use Rattle.realisations.specs.Codes.{Key}
use Rattle.realisations.specs.Combinations.{Combination, IsCanonical, HasKey, norm_of, weighed}
use Rattle.realisations.specs.Indices.{IsIndex, AreIndices, degree_of, total_degree}
use Rattle.realisations.specs.Points.{Points, ArePoints}
use Rattle.realisations.specs.Readings.{Terms, Reading, leaf, product, element, numerator, denominator}

-- the keys of these terms are indices of the bases
abbrev pub HasKeysOver : List BasisId → Terms → Type 0
HasKeysOver bases ts = (key : Key) → HasKey ts key → AreIndices bases key

-- what is put into keys: a key loses codes until one code, of this basis, stands where an answer over these bases comes in; for each key the degree and the reading, over 1, that its answer has, and how many bits its norm may have for each degree
pub record PutFacts : Type 0 where
  pub basis : BasisId
  pub bases : List BasisId
  pub growth : ℕ
  pub shorter : Key → Key
  pub degree : Key → ℕ
  pub reading : Key → Reading
  pub whole : (key : Key) → denominator (reading key) ≡ 1

-- a rule put into component k, counted from 0: its answers take the place of one code
abbrev pub one_code : RuleFacts → ℕ → PutFacts
one_code facts k = record {
  basis = facts.basis;
  bases = facts.bases;
  growth = facts.growth;
  shorter = λ key. key;
  degree = λ key. degree_of facts.basis (code_at k key);
  reading = λ key. facts.reading (code_at k key);
  whole = λ key. facts.whole (code_at k key);
}

-- products put into component k: they take the place of its code and the next one
abbrev pub two_codes : BasisId → ℕ → ℕ → PutFacts
two_codes basis growth k = record {
  basis = basis;
  bases = basis ∷ [];
  growth = growth;
  shorter = λ key. replaced (suc k) [] key;
  degree = λ key. degree_of basis (code_at k key) + degree_of basis (code_at (suc k) key);
  reading = λ key. product (element basis (code_at k key)) (element basis (code_at (suc k) key));
  whole = λ key. refl;
}

-- the answers for a key in its component k, read at the points before it, those of the answer, and those after it
abbrev pub reads_as : PutFacts → List BasisId → List BasisId → Points → Points → Points → Key → ℤ
reads_as facts before after ps qs rs key = pos (occurrence_beside before after (facts.shorter key) ps rs) *ℤ numerator (facts.reading key) qs

-- the key is one of the old ones with a key of indices, whose degrees add to its degree, in the place of component k
pub record IsPutInto (facts : PutFacts) (k : ℕ) (old : Terms) (new : Key) : Type 0 where
  pub key : Key
  pub codes : Key
  pub has : HasKey old key
  pub is : new ≡ replaced k codes (facts.shorter key)
  pub indices : AreIndices facts.bases codes
  pub degrees : total_degree facts.bases codes ≡ facts.degree key

-- the answers were put into component k of all keys, which are so long once they are shorter: canonical, its keys are those of the answers put into the old ones, and at all points it reads as the sum over the old keys of their answers in that component;
-- its denominator divides the old one, and its norm grows as that of the answers
pub record IsPut (facts : PutFacts) (k width : ℕ) (old new : Combination) : Type 0 where
  pub canonical : IsCanonical new.rank new.den new.terms
  pub rank : new.rank + 1 ≡ width + length facts.bases
  pub keys : (key : Key) → HasKey new.terms key → IsPutInto facts k old.terms key
  pub reads : (before after : List BasisId) (ps qs rs : Points) → length before ≡ k → length ps ≡ k →
      ((key : Key) → HasKey old.terms key → AreIndices (before ++ facts.basis ∷ after) (facts.shorter key)) → ArePoints (map kind_of facts.bases) qs →
      numerator (leaf (before ++ (facts.bases ++ after)) new.den new.terms) (ps ++ (qs ++ rs)) *ℤ pos old.den
      ≡ weighed (reads_as facts before after ps qs rs) old.terms *ℤ pos new.den
  pub den : new.den ∣ old.den
  pub norm : norm_of new.terms ≤ norm_of old.terms * 2 ^ (facts.growth * greatest_of facts.degree old.terms)

-- a combination whose component k the rule can be put into, with room for all answers
pub record CanLift (facts : RuleFacts) (k : ℕ) (old : Combination) : Type 0 where
  pub here : k < old.rank
  pub most : old.rank + length facts.bases ≤ 4
  pub indices : HasIndicesAt facts k old.terms
  pub room : norm_of old.terms * 2 ^ (5 * greatest_degree_at facts.basis k old.terms) < 2 ^ 127

-- the lift of a rule to component k
abbrev pub IsLift : RuleFacts → ℕ → Combination → Combination → Type 0
IsLift facts k old new = IsPut (one_code facts k) k old.rank old new

-- the codes of component k and of the next one are indices of a basis that can be multiplied
pub record AreFactorsAt (basis : BasisId) (k : ℕ) (key : Key) : Type 0 where
  pub first : IsIndex basis (code_at k key)
  pub second : IsIndex basis (code_at (suc k) key)
  pub degree : degree_of basis (code_at k key) + degree_of basis (code_at (suc k) key) ≤ limit_for basis

-- a combination whose components k and k + 1 can be multiplied, with room for all products
pub record CanMultiply (basis : BasisId) (k : ℕ) (old : Combination) : Type 0 where
  pub here : suc k < old.rank
  pub most : old.rank ≤ 3
  pub factors : (key : Key) → HasKey old.terms key → AreFactorsAt basis k key
  pub room : norm_of old.terms * 2 ^ (5 * greatest_of (λ key. degree_of basis (code_at k key) + degree_of basis (code_at (suc k) key)) old.terms) < 2 ^ 127

-- the products of component k and the next one, in the place of both
abbrev pub AreMultiplied : BasisId → ℕ → ℕ → Combination → Combination → Type 0
AreMultiplied basis growth k old new = IsPut (two_codes basis growth k) k (old.rank - 1) old new
