-- A rule on indices, put into one component of the keys of a combination: the keys before, the answers in its place, and what both read as.
use Rattle.std.specs.Prelude.{◌≡◌, ℕ, suc, ◌*◌, List, [], ◌∷◌, ◌++◌, ℤ, pos, ◌*ℤ◌, length, take, drop, map, slice_index_or}
use Rattle.basis_names.specs.declared.bases.BasisId.{BasisId}
use Rattle.realisations.specs.Answers.{IsAnswer}
use Rattle.realisations.specs.Bases.{kind_of}
use Rattle.realisations.specs.Codes.{Code, Key}
use Rattle.realisations.specs.Combinations.{Combination, HasKey, weighed}
use Rattle.realisations.specs.Indices.{AreIndices, degree_of, total_degree}
use Rattle.realisations.specs.Points.{Point, Points, IsPoint, ArePoints}
use Rattle.realisations.specs.Readings.{Terms, Reading, Operation, coproduct, antipode, counit, mult, commute, leaf, applied, element, occurrence, numerator}

-- the code of component k of a key, counted from 0
abbrev pub code_at : ℕ → Key → Code
code_at k key = slice_index_or key k []

-- the key with other codes in the place of component k
abbrev pub replaced : ℕ → Key → Key → Key
replaced k codes key = take k key ++ codes ++ drop (suc k) key

-- the product of the occurrences of the codes before a component and of those after it, at the points before and after
abbrev pub occurrence_beside : List BasisId → List BasisId → Key → Points → Points → ℕ
occurrence_beside before after key ps rs = occurrence before (take (length before) key) ps * occurrence after (drop (suc (length before)) key) rs

-- the operation takes one component
abbrev pub TakesOne : Operation → Type 0
TakesOne coproduct = Unit {0}
TakesOne antipode = Unit {0}
TakesOne counit = Unit {0}
TakesOne mult = ⊥
TakesOne commute = Unit {0}

-- at how many points it is read in the place of that component
abbrev pub points_of : Operation → ℕ
points_of coproduct = 2
points_of antipode = 1
points_of counit = 0
points_of mult = 1
points_of commute = 1

-- a combination reads as the sum over its keys of the other components times the element at a component; and an operation on that component as the sum of these times the operation on the element
pub record ComponentReadingsLaw : Type 0 where
  pub elements : (before after : List BasisId) (basis : BasisId) (den : ℕ) (ts : Terms) (ps rs : Points) (q : Point) → length ps ≡ length before →
      ((key : Key) → HasKey ts key → AreIndices (before ++ basis ∷ after) key) →
      numerator (leaf (before ++ basis ∷ after) den ts) (ps ++ q ∷ rs)
      ≡ weighed (λ key. pos (occurrence_beside before after key ps rs) *ℤ numerator (element basis (code_at (length before) key)) (q ∷ [])) ts
  pub operations : (operation : Operation) → TakesOne operation → (before after : List BasisId) (basis : BasisId) (den : ℕ) (ts : Terms) (ps qs rs : Points) →
      length ps ≡ length before → length qs ≡ points_of operation → ((key : Key) → HasKey ts key → AreIndices (before ++ basis ∷ after) key) →
      numerator (applied operation (length before) (leaf (before ++ basis ∷ after) den ts)) (ps ++ (qs ++ rs))
      ≡ weighed (λ key. pos (occurrence_beside before after key ps rs) *ℤ numerator (applied operation 0 (element basis (code_at (length before) key))) qs) ts

-- indices of the same degree in the place of a component make indices of the same degree; and terms put there read as the other components times what they read as
pub record ReplacedLaw : Type 0 where
  pub indices : (before after middle : List BasisId) (basis : BasisId) (codes key : Key) → AreIndices (before ++ basis ∷ after) key → AreIndices middle codes →
      AreIndices (before ++ (middle ++ after)) (replaced (length before) codes key)
  pub degrees : (before after middle : List BasisId) (basis : BasisId) (codes key : Key) → AreIndices (before ++ basis ∷ after) key → AreIndices middle codes →
      total_degree middle codes ≡ degree_of basis (code_at (length before) key) →
      total_degree (before ++ (middle ++ after)) (replaced (length before) codes key) ≡ total_degree (before ++ basis ∷ after) key
  pub reads : (before after middle : List BasisId) (basis : BasisId) (key : Key) (ts : Terms) (ps qs rs : Points) → AreIndices (before ++ basis ∷ after) key →
      ((codes : Key) → HasKey ts codes → AreIndices middle codes) → length ps ≡ length before → length qs ≡ length middle →
      weighed (λ codes. pos (occurrence (before ++ (middle ++ after)) (replaced (length before) codes key) (ps ++ (qs ++ rs)))) ts
      ≡ pos (occurrence_beside before after key ps rs) *ℤ numerator (leaf middle 1 ts) qs

-- the new terms are the old ones with the answer of a rule in the place of each code of component k, like terms gathered: whatever the keys weigh
abbrev pub IsLifted : (Code → Combination) → ℕ → Terms → Terms → Type 0
IsLifted answer k old new = (weight : Key → ℤ) → weighed weight new ≡ weighed (λ key. weighed (λ codes. weight (replaced k codes key)) (answer (code_at k key)).terms) old

-- the rule answers each code of component k of these terms, as a reading of the code over some bases
abbrev pub AnswersAt : BasisId → List BasisId → (Code → Reading) → (Code → Combination) → ℕ → Terms → Type 0
AnswersAt from middle reading answer k ts = (key : Key) → HasKey ts key → IsAnswer middle (degree_of from (code_at k key)) (reading (code_at k key)) (answer (code_at k key))

-- a change put into a component keeps the reading
abbrev pub ChangeLiftLaw : Type 0
ChangeLiftLaw = (before after : List BasisId) (from to : BasisId) (answer : Code → Combination) (den : ℕ) (old new : Terms) (ps rs : Points) (q : Point) →
    length ps ≡ length before → IsPoint (kind_of to) q →
    ((key : Key) → HasKey old key → AreIndices (before ++ from ∷ after) key) →
    AnswersAt from (to ∷ []) (element from) answer (length before) old → IsLifted answer (length before) old new →
    numerator (leaf (before ++ to ∷ after) den new) (ps ++ q ∷ rs) ≡ numerator (leaf (before ++ from ∷ after) den old) (ps ++ q ∷ rs)

-- what an operation makes of elements, put into a component, reads as the operation on that component
abbrev pub OperationLiftLaw : Type 0
OperationLiftLaw = (operation : Operation) → TakesOne operation → (before after middle : List BasisId) (from : BasisId) (answer : Code → Combination) (den : ℕ) (old new : Terms)
    (ps qs rs : Points) →
    length middle ≡ points_of operation → length ps ≡ length before → ArePoints (map kind_of middle) qs →
    ((key : Key) → HasKey old key → AreIndices (before ++ from ∷ after) key) →
    AnswersAt from middle (λ code. applied operation 0 (element from code)) answer (length before) old → IsLifted answer (length before) old new →
    numerator (leaf (before ++ (middle ++ after)) den new) (ps ++ (qs ++ rs)) ≡ numerator (applied operation (length before) (leaf (before ++ from ∷ after) den old)) (ps ++ (qs ++ rs))
