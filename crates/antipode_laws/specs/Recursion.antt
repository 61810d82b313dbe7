-- The antipode by recursion over the coproduct (Takeuchi 1971).
use Rattle.std.specs.Prelude.{◌≡◌, ◌+◌, ◌*◌, ◌^◌, ◌<◌, ◌≤◌, Bool, false, if◌then◌else◌, ℤ, pos, neg_ℤ, [], ◌∷◌}
use Rattle.basis_names.specs.declared.bases.BasisId.{BasisId}
use Rattle.realisations.specs.Answers.{IsAnswer}
use Rattle.realisations.specs.Bases.{kind_of}
use Rattle.realisations.specs.Codes.{Code, Key}
use Rattle.realisations.specs.Combinations.{Combination, IsCanonical, HasKey, norm_of, weighed}
use Rattle.realisations.specs.Indices.{IsIndex, degree_of}
use Rattle.realisations.specs.Lists.{same_list}
use Rattle.realisations.specs.Points.{Point, IsPoint}
use Rattle.realisations.specs.Readings.{Terms, Reading, applied, product, coproduct, antipode, element, numerator, AgreeAt}

-- the first code of a key, and the second one
abbrev pub first_code : Key → Code
first_code [] = []
first_code (a ∷ key) = a

abbrev pub second_code : Key → Code
second_code [] = []
second_code (a ∷ key) = first_code key

-- the second code is empty, that of the unit
abbrev pub ends : Key → Bool
ends key = same_list (second_code key) []

-- the antipode of the first code's element, times the second code's element
abbrev pub antipode_times : BasisId → Key → Reading
antipode_times basis key = product (applied antipode 0 (element basis (first_code key))) (element basis (second_code key))

-- what a key of a coproduct adds at a point: nothing where its second code is empty
abbrev pub recursion_part : BasisId → Point → Key → ℤ
recursion_part basis p key = if ends key then pos 0 else numerator (antipode_times basis key) (p ∷ [])

-- the combination is the coproduct of an index other than the empty one
pub record IsCoproductOf (basis : BasisId) (code : Code) (c : Combination) : Type 0 where
  pub index : IsIndex basis code
  pub positive : 1 ≤ degree_of basis code
  pub answer : IsAnswer (basis ∷ basis ∷ []) (degree_of basis code) (applied coproduct 0 (element basis code)) c

-- the combination is the antipode of an index
abbrev pub IsAntipodeOf : BasisId → Code → Combination → Type 0
IsAntipodeOf basis code c = IsAnswer (basis ∷ []) (degree_of basis code) (applied antipode 0 (element basis code)) c

-- the antipode of the empty index is its element; that of every other index is minus the sum, over the terms of its coproduct whose second code is not empty, of the antipode of the first code times the second: these first codes have lower degrees
pub record RecursionLaw : Type 0 where
  pub empty : (basis : BasisId) (p : Point) → AgreeAt (applied antipode 0 (element basis [])) (element basis []) (p ∷ [])
  pub reads : (basis : BasisId) (code : Code) (c : Combination) → IsCoproductOf basis code c → (p : Point) → IsPoint (kind_of basis) p →
      numerator (applied antipode 0 (element basis code)) (p ∷ []) ≡ neg_ℤ (weighed (recursion_part basis p) c.terms)
  pub lower : (basis : BasisId) (code : Code) (c : Combination) → IsCoproductOf basis code c → (key : Key) → HasKey c.terms key → ends key ≡ false →
      degree_of basis (first_code key) < degree_of basis code

-- what is known of the antipodes of first codes, and of products: a combination for each
pub record AreKnown (basis : BasisId) (turned : Code → Combination) (times : Code → Code → Combination) (ts : Terms) : Type 0 where
  pub antipodes : (key : Key) → HasKey ts key → ends key ≡ false → IsAntipodeOf basis (first_code key) (turned (first_code key))
  pub products : (key : Key) → HasKey ts key → ends key ≡ false → (codes : Key) → HasKey (turned (first_code key)).terms codes →
      IsAnswer (basis ∷ []) (degree_of basis (first_code codes) + degree_of basis (second_code key)) (product (element basis (first_code codes)) (element basis (second_code key))) (times (first_code codes) (second_code key))

-- a product of a term of an antipode with a second code
pub record IsKeyOfParts (turned : Code → Combination) (times : Code → Code → Combination) (ts : Terms) (new : Key) : Type 0 where
  pub key : Key
  pub codes : Key
  pub has : HasKey ts key
  pub goes_on : ends key ≡ false
  pub of_antipode : HasKey (turned (first_code key)).terms codes
  pub of_product : HasKey (times (first_code codes) (second_code key)).terms new

-- what a key weighs by the products of its antipode's terms with its second code
abbrev pub weight_of_parts : (Code → Combination) → (Code → Code → Combination) → (Key → ℤ) → Key → ℤ
weight_of_parts turned times weight key =
    if ends key then pos 0 else weighed (λ codes. weighed weight (times (first_code codes) (second_code key)).terms) (turned (first_code key)).terms

-- minus the sum of all these products, whatever the keys weigh
pub record AreParts (turned : Code → Combination) (times : Code → Code → Combination) (ts new : Terms) : Type 0 where
  pub weighs : (weight : Key → ℤ) → weighed weight new ≡ neg_ℤ (weighed (weight_of_parts turned times weight) ts)
  pub keys : (key : Key) → HasKey new key → IsKeyOfParts turned times ts key

-- a canonical combination over 1 of these products, with the norm of an answer, is the antipode
abbrev pub RecursionAnswerLaw : Type 0
RecursionAnswerLaw = (basis : BasisId) (code : Code) (turned : Code → Combination) (times : Code → Code → Combination) (c d : Combination) →
    IsCoproductOf basis code c → AreKnown basis turned times c.terms → AreParts turned times c.terms d.terms →
    IsCanonical d.rank d.den d.terms → d.rank ≡ 1 → d.den ≡ 1 → norm_of d.terms ≤ 2 ^ (5 * degree_of basis code) →
    IsAntipodeOf basis code d
