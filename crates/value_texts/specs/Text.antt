-- The texts of basis elements and of values.
use Rattle.std.specs.Prelude.{◌≡◌, ℕ, ℤ, pos, negsuc, ◌*ℤ◌, List, [], ◌∷◌, ◌++◌, ◌==◌, ◌&&◌, if◌then◌else◌, codes, unsigned_abs}
use Rattle.std.specs.Fmt.{decimal}
use Rattle.basis_names.specs.Bases.{name_of}
use Rattle.index_spellings.specs.Texts.{index_spelling}
use Rattle.realisations.specs.Bases.{index_kind_of}
use Rattle.hopf_num.specs.Fractions.{Ratio, IsFraction, over_text, fraction_text}
use Rattle.realisations.specs.Readings.{Terms}
use Rattle.basis_names.specs.declared.bases.BasisId.{BasisId}
use Rattle.hopf_laws.specs.Values.{Expansion}

-- a basis element: the name of the basis, and the spelling of the index
abbrev pub index_text : BasisId → List ℕ → List ℕ
index_text basis code = name_of basis ++ index_spelling (index_kind_of basis) code

-- the basis elements of a key behind the first, each behind ` # `
abbrev pub later_elements_text : List BasisId → List (List ℕ) → List ℕ
later_elements_text [] key = []
later_elements_text (basis ∷ bases) [] = []
later_elements_text (basis ∷ bases) (code ∷ key) = codes " # " ++ index_text basis code ++ later_elements_text bases key

-- the basis elements of a key, with ` # ` between
abbrev pub key_text : List BasisId → List (List ℕ) → List ℕ
key_text [] key = []
key_text (basis ∷ bases) [] = []
key_text (basis ∷ bases) (code ∷ key) = index_text basis code ++ later_elements_text bases key

-- a numerator over the denominator of its value, in lowest terms
pub record IsCoefficient (num : ℤ) (den : ℕ) (r : Ratio) : Type 0 where
  pub lowest : IsFraction r
  pub value : r.num *ℤ pos den ≡ num *ℤ pos r.den

-- an absolute coefficient and `*`, both left out where it is 1
abbrev pub coefficient_text : Ratio → List ℕ
coefficient_text r =
    if unsigned_abs r.num == 1 && r.den == 1 then [] else decimal (unsigned_abs r.num) ++ over_text r.den ++ codes "*"

-- a term without its sign
abbrev pub term_text : List BasisId → Ratio → List (List ℕ) → List ℕ
term_text bases r key = coefficient_text r ++ key_text bases key

-- what stands before the first term
abbrev pub first_sign : ℤ → List ℕ
first_sign (pos n) = []
first_sign (negsuc n) = codes "-"

-- what stands before each later term
abbrev pub later_sign : ℤ → List ℕ
later_sign (pos n) = codes " + "
later_sign (negsuc n) = codes " - "

-- the terms behind the first one, over a denominator, in their order
pub data AreLaterTerms (bases : List BasisId) (den : ℕ) : Terms → List ℕ → Type 0 where
  none : AreLaterTerms bases den [] []
  one_more : {num : ℤ} {key : List (List ℕ)} {ts : Terms} {r : Ratio} {text : List ℕ} → IsCoefficient num den r → AreLaterTerms bases den ts text
      → AreLaterTerms bases den ((num, key) ∷ ts) (later_sign r.num ++ term_text bases r key ++ text)

-- the text of terms over bases and a denominator: `0` for none, the number for a scalar, and else the terms in their order
pub data AreTermsIn (den : ℕ) : List BasisId → Terms → List ℕ → Type 0 where
  zero_text : {bases : List BasisId} → AreTermsIn den bases [] (codes "0")
  scalar_text : {num : ℤ} {key : List (List ℕ)} {r : Ratio} → IsCoefficient num den r → AreTermsIn den [] ((num, key) ∷ []) (fraction_text r)
  terms_text : {basis : BasisId} {bases : List BasisId} {num : ℤ} {key : List (List ℕ)} {ts : Terms} {r : Ratio} {text : List ℕ}
      → IsCoefficient num den r → AreLaterTerms (basis ∷ bases) den ts text
      → AreTermsIn den (basis ∷ bases) ((num, key) ∷ ts) (first_sign r.num ++ term_text (basis ∷ bases) r key ++ text)

-- the text of a value
abbrev pub IsTextOf : Expansion → List ℕ → Type 0
IsTextOf v text = AreTermsIn v.combination.den v.bases v.combination.terms text

-- the text of a value was appended
abbrev pub AppendsText : Expansion → List ℕ → List ℕ → Type 0
AppendsText v old new = (text : List ℕ) × IsTextOf v text × (new ≡ old ++ text)
