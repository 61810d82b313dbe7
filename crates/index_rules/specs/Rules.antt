-- Rules on indices: one combination for each index of a basis, up to a degree.
use Rattle.std.specs.Prelude.{◌≡◌, ℕ, ◌*◌, ◌^◌, ◌≤◌, max, List, [], ◌∷◌}
use Rattle.basis_names.specs.declared.bases.BasisId.{BasisId}
use Rattle.change_laws.specs.Lifts.{code_at}
use Rattle.realisations.specs.Answers.{IsAnswer}
use Rattle.realisations.specs.Codes.{Code, Key}
use Rattle.realisations.specs.Combinations.{Combination, HasKey, norm_of}
use Rattle.realisations.specs.Indices.{IsIndex, degree_of}
use Rattle.realisations.specs.Readings.{Terms, Reading, denominator}

-- what a rule states: the basis of its indices and their greatest degree, the bases of its answers, how many bits their norm may have for each degree, and for each index the reading, over 1, that the answer has
pub record RuleFacts : Type 0 where
  pub basis : BasisId
  pub most : ℕ
  pub bases : List BasisId
  pub growth : ℕ
  pub reading : Code → Reading
  pub whole : (code : Code) → denominator (reading code) ≡ 1

-- an answer whose norm has at most so many bits for each degree
pub record IsAnswerWithin (growth : ℕ) (bases : List BasisId) (n : ℕ) (reading : Reading) (c : Combination) : Type 0 where
  pub answer : IsAnswer bases n reading c
  pub norm : norm_of c.terms ≤ 2 ^ (growth * n)

-- the code is that of an index which the rule answers
pub record IsIndexOf (facts : RuleFacts) (code : Code) : Type 0 where
  pub index : IsIndex facts.basis code
  pub degree : degree_of facts.basis code ≤ facts.most

-- the combination is what the rule states of an index
abbrev pub Answers : RuleFacts → Code → Combination → Type 0
Answers facts code c = IsAnswerWithin facts.growth facts.bases (degree_of facts.basis code) (facts.reading code) c

-- the codes of component k of these terms, counted from 0, are indices which the rule answers
abbrev pub HasIndicesAt : RuleFacts → ℕ → Terms → Type 0
HasIndicesAt facts k ts = (key : Key) → HasKey ts key → IsIndexOf facts (code_at k key)

-- the greatest degree of the keys of terms, by a degree of each key; 0 where there are no terms
abbrev pub greatest_of : (Key → ℕ) → Terms → ℕ
greatest_of degree [] = 0
greatest_of degree (t ∷ ts) = max (degree t.1) (greatest_of degree ts)

-- the greatest degree of the codes of component k
abbrev pub greatest_degree_at : BasisId → ℕ → Terms → ℕ
greatest_degree_at basis k ts = greatest_of (λ key. degree_of basis (code_at k key)) ts
