-- Laws of lifts. Public functions with empty bodies ensure them (`src/laws.rt`).
use Rattle.std.specs.Prelude.{◌≡◌, ℕ, ◌+◌, ◌*◌, ◌^◌, ◌<◌, ◌≤◌, List, [], ◌∷◌, ◌++◌, map, length, min}
use Rattle.basis_names.specs.declared.bases.BasisId.{BasisId}
use Rattle.change_laws.specs.Lifts.{TakesOne, points_of}
use Rattle.coproduct_laws.specs.Coproducts.{IsCoproductRule}
use Rattle.index_rules.specs.Changes.{change_facts, operation_facts}
use Rattle.index_rules.specs.Lifts.{HasKeysOver, CanLift, IsLift, CanMultiply, AreMultiplied}
use Rattle.index_rules.specs.Rules.{RuleFacts, IsAnswerWithin, IsIndexOf, Answers}
use Rattle.index_rules.specs.Spaces.{limit_for}
use Rattle.realisations.specs.Answers.{IsAnswer}
use Rattle.realisations.specs.Bases.{kind_of}
use Rattle.realisations.specs.Codes.{Code, Key}
use Rattle.realisations.specs.Combinations.{Combination, IsCanonical, HasKey}
use Rattle.realisations.specs.Indices.{IsIndex, AreIndices, degree_of, total_degree}
use Rattle.realisations.specs.Points.{Point, Points, IsPoint, ArePoints}
use Rattle.realisations.specs.Readings.{Operation, Reading, coproduct, mult, leaf, applied, product, element, denominator, AgreeAt}

-- there is at most one answer with a reading
abbrev pub SameAnswerLaw : Type 0
SameAnswerLaw = (bases : List BasisId) (n : ℕ) (reading : Reading) (c d : Combination) → 1 ≤ denominator reading → IsAnswer bases n reading c → IsAnswer bases n reading d → c ≡ d

-- an answer of a coproduct rule has at most as many bits for each degree as the number of its pairs
abbrev pub CoproductNormLaw : Type 0
CoproductNormLaw = (basis : BasisId) (code : Code) (pairs : List (Code × Code)) (growth : ℕ) (c : Combination) → IsCoproductRule basis code pairs →
    length pairs ≤ 2 ^ (growth * degree_of basis code) → length pairs < 2 ^ 127 →
    IsAnswer (basis ∷ basis ∷ []) (degree_of basis code) (applied coproduct 0 (element basis code)) c →
    IsAnswerWithin growth (basis ∷ basis ∷ []) (degree_of basis code) (applied coproduct 0 (element basis code)) c

-- the lift of a change keeps the reading, where the component is read at a point
abbrev pub ChangeReadsLaw : Type 0
ChangeReadsLaw = (before after : List BasisId) (from to : BasisId) (most growth : ℕ) (old new : Combination) (ps rs : Points) (q : Point) →
    length ps ≡ length before → IsPoint (kind_of to) q → HasKeysOver (before ++ from ∷ after) old.terms →
    IsLift (change_facts from to most growth) (length before) old new →
    AgreeAt (leaf (before ++ to ∷ after) new.den new.terms) (leaf (before ++ from ∷ after) old.den old.terms) (ps ++ q ∷ rs)

-- the lift of what an operation makes of elements is the operation on that component
abbrev pub OperationReadsLaw : Type 0
OperationReadsLaw = (operation : Operation) → TakesOne operation → (before after bases : List BasisId) (from : BasisId) (most growth : ℕ) (old new : Combination) (ps qs rs : Points) →
    length bases ≡ points_of operation → length ps ≡ length before → ArePoints (map kind_of bases) qs → HasKeysOver (before ++ from ∷ after) old.terms →
    IsLift (operation_facts operation from bases most growth) (length before) old new →
    AgreeAt (leaf (before ++ (bases ++ after)) new.den new.terms) (applied operation (length before) (leaf (before ++ from ∷ after) old.den old.terms)) (ps ++ (qs ++ rs))

-- the products of two neighbouring components are the product on these
abbrev pub ProductReadsLaw : Type 0
ProductReadsLaw = (before after : List BasisId) (basis : BasisId) (growth : ℕ) (old new : Combination) (ps rs : Points) (q : Point) →
    length ps ≡ length before → IsPoint (kind_of basis) q → HasKeysOver (before ++ basis ∷ basis ∷ after) old.terms →
    AreMultiplied basis growth (length before) old new →
    AgreeAt (leaf (before ++ basis ∷ after) new.den new.terms) (applied mult (length before) (leaf (before ++ basis ∷ basis ∷ after) old.den old.terms)) (ps ++ q ∷ rs)

-- the key is one of indices, of the total degree of an old key
pub record IsIndexOfDegree (before after : List BasisId) (facts : RuleFacts) (old : Combination) (new : Key) : Type 0 where
  pub indices : AreIndices (before ++ (facts.bases ++ after)) new
  pub key : Key
  pub has : HasKey old.terms key
  pub degrees : total_degree (before ++ (facts.bases ++ after)) new ≡ total_degree (before ++ facts.basis ∷ after) key

-- the keys of a lift are such
abbrev pub LiftedIndicesLaw : Type 0
LiftedIndicesLaw = (before after : List BasisId) (facts : RuleFacts) (old new : Combination) → HasKeysOver (before ++ facts.basis ∷ after) old.terms →
    IsLift facts (length before) old new →
    (key : Key) → HasKey new.terms key → IsIndexOfDegree before after facts old key

-- each index that the rule answers has an answer
abbrev pub HasAnswers : RuleFacts → Type 0
HasAnswers facts = (code : Code) → IsIndexOf facts code → (c : Combination) × Answers facts code c

-- each two indices whose degrees add to at most the limit have a product, whose norm has at most so many bits for each degree
abbrev pub HasProducts : BasisId → ℕ → Type 0
HasProducts basis growth = (left right : Code) → IsIndex basis left → IsIndex basis right → degree_of basis left + degree_of basis right ≤ limit_for basis →
    (c : Combination) × IsAnswerWithin growth (basis ∷ []) (degree_of basis left + degree_of basis right) (product (element basis left) (element basis right)) c

-- a rule whose indices have answers can be put into each component that it can be lifted to
abbrev pub LiftExistsLaw : Type 0
LiftExistsLaw = (facts : RuleFacts) → HasAnswers facts → (k : ℕ) (old : Combination) → IsCanonical old.rank old.den old.terms → CanLift facts k old →
    (new : Combination) × IsLift facts k old new

-- over a basis with products two neighbouring components that can be multiplied have products
abbrev pub ProductsExistLaw : Type 0
ProductsExistLaw = (basis : BasisId) (growth : ℕ) → HasProducts basis growth → (k : ℕ) (old : Combination) → IsCanonical old.rank old.den old.terms → CanMultiply basis k old →
    (new : Combination) × AreMultiplied basis growth k old new

-- where the elements of a basis change to one with products, and those of that basis back, there are products over the first one, by both changes
abbrev pub ProductsByChangeExistLaw : Type 0
ProductsByChangeExistLaw = (from to : BasisId) (out growth back : ℕ) → kind_of from ≡ kind_of to → limit_for from ≤ limit_for to → out + growth + back ≤ 5 →
    HasAnswers (change_facts from to (min (limit_for from) (limit_for to)) out) → HasProducts to growth → HasAnswers (change_facts to from (min (limit_for to) (limit_for from)) back) →
    HasProducts from (out + growth + back)
