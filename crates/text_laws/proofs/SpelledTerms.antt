-- The expressions and the lexemes that the texts of terms spell.
use Rattle.std.proofs.Common.{ℕ, ◌≤◌, Bool, true, false, ◌&&◌, if◌then◌else◌, IsTrue, List, [], ◌∷◌, ◌++◌, arith, unsigned_abs}
use Rattle.std.specs.Prelude.{◌==◌}
use Rattle.std.proofs.Math.IntN.{ℤ, pos, negsuc}
use Rattle.hopf_num.specs.Fractions.{Ratio}
use Rattle.basis_names.specs.declared.bases.BasisId.{BasisId}
use Rattle.built_bases.specs.Table.{is_built}
use Rattle.realisations.specs.Bases.{index_kind_of}
use Rattle.realisations.specs.Indices.{AreIndices, total_degree}
use Rattle.realisations.specs.Readings.{Terms}
use Rattle.hopf_laws.specs.Bases.{AreBuilt, least_limit}
use Rattle.session_tokens.specs.declared.lexeme.Lexeme.{Lexeme}
use Rattle.session_tokens.specs.declared.lexeme.Lexeme.TheVariants as lex
use Rattle.session_grammar.specs.declared.expression.Expr.{Expr}
use Rattle.session_grammar.specs.declared.expression.Expr.TheVariants as e
use Rattle.session_grammar.specs.declared.expression.Signed.{Signed}
use Rattle.session_grammar.specs.Grammar.{factor, signed, tensor_of, sum_of}
use Rattle.index_spellings.specs.Laws.{IsWithinLimit}
use Rattle.index_spellings.specs.Spellings.{items_by, list_with}
use Rattle.index_spellings.proofs.ReadBack.{spellings}
use Rattle.session_evaluation.specs.Elements.{Spells}
use Rattle.value_texts.specs.Text.{IsCoefficient, later_sign, term_text}

-- Elements.

abbrev pub element_of : BasisId → List ℕ → Expr
element_of basis code = e.Element basis (items_by (index_kind_of basis) code)

abbrev pub element_lexemes : BasisId → List ℕ → List Lexeme
element_lexemes basis code = lex.Basis basis ∷ list_with (items_by (index_kind_of basis) code)

-- the index is within the limit of a built basis
pub record IsSpelled (basis : BasisId) (code : List ℕ) : Type 0 where
  pub built : IsTrue (is_built basis)
  pub within : IsWithinLimit basis code

-- so are those of a key
abbrev pub AreSpelled : List BasisId → List (List ℕ) → Type 0
AreSpelled [] [] = Unit {0}
AreSpelled [] (code ∷ key) = ⊥
AreSpelled (basis ∷ bases) [] = ⊥
AreSpelled (basis ∷ bases) (code ∷ key) = IsSpelled basis code × AreSpelled bases key

pub spells : (basis : BasisId) (code : List ℕ) → IsSpelled basis code → Spells basis (items_by (index_kind_of basis) code) code
spells basis code is = record { built = is.built; spelled = spellings.read_back basis code is.within }

-- within the least limit of built bases each index is within the limit of its basis
pub are_spelled : (bases : List BasisId) (key : List (List ℕ)) → AreBuilt bases → AreIndices bases key → total_degree bases key ≤ least_limit bases → AreSpelled bases key
are_spelled [] [] built indices within = tt
are_spelled [] (code ∷ key) built indices within = absurd indices
are_spelled (basis ∷ bases) [] built indices within = absurd indices
are_spelled (basis ∷ []) (code ∷ []) built indices within = (record { built = built.0; within = (indices.0, omega (arith, within)) }, tt)
are_spelled (basis ∷ []) (code ∷ more ∷ key) built indices within = absurd indices.1
are_spelled (basis ∷ next ∷ bases) (code ∷ key) built indices within =
    (record { built = built.0; within = (indices.0, omega (arith, within)) }, are_spelled (next ∷ bases) key built.1 indices.1 (omega (arith, within)))

-- Coefficients: a numerator and a denominator before an element, both left out where they are 1, and the denominator where it is 1.

abbrev pub scaled_by : Bool → Bool → ℕ → ℕ → Expr → Expr
scaled_by true whole n d x = x
scaled_by false true n d x = e.Product (factor false (e.Number n) ∷ factor false x ∷ [])
scaled_by false false n d x = e.Product (factor false (e.Number n) ∷ factor true (e.Number d) ∷ factor false x ∷ [])

abbrev pub scaled : ℕ → ℕ → Expr → Expr
scaled n d x = scaled_by (n == 1 && d == 1) (d == 1) n d x

abbrev pub scaled_lexemes_by : Bool → Bool → ℕ → ℕ → List Lexeme → List Lexeme
scaled_lexemes_by true whole n d ls = ls
scaled_lexemes_by false true n d ls = lex.Number n ∷ lex.Times ∷ ls
scaled_lexemes_by false false n d ls = lex.Number n ∷ lex.Over ∷ lex.Number d ∷ lex.Times ∷ ls

abbrev pub scaled_lexemes : ℕ → ℕ → List Lexeme → List Lexeme
scaled_lexemes n d ls = scaled_lexemes_by (n == 1 && d == 1) (d == 1) n d ls

-- Terms without their signs: the coefficient and the elements of a key.

abbrev pub later_elements : List BasisId → List (List ℕ) → List Expr
later_elements [] key = []
later_elements (basis ∷ bases) [] = []
later_elements (basis ∷ bases) (code ∷ key) = element_of basis code ∷ later_elements bases key

abbrev pub later_element_lexemes : List BasisId → List (List ℕ) → List Lexeme
later_element_lexemes [] key = []
later_element_lexemes (basis ∷ bases) [] = []
later_element_lexemes (basis ∷ bases) (code ∷ key) = lex.Hash ∷ element_lexemes basis code ++ later_element_lexemes bases key

-- over a basis and others, with a code and others
abbrev pub term_of : BasisId → List BasisId → ℕ → ℕ → List ℕ → List (List ℕ) → Expr
term_of basis bases n d code key = tensor_of (scaled n d (element_of basis code) ∷ later_elements bases key)

abbrev pub term_lexemes : BasisId → List BasisId → ℕ → ℕ → List ℕ → List (List ℕ) → List Lexeme
term_lexemes basis bases n d code key = scaled_lexemes n d (element_lexemes basis code) ++ later_element_lexemes bases key

-- Terms with their signs.

-- a coefficient, the code of the first component, and those of the others
pub record SpelledTerm : Type 0 where
  pub ratio : Ratio
  pub code : List ℕ
  pub codes : List (List ℕ)

-- these are the coefficients and the keys of terms over a denominator
pub data AreOf (den : ℕ) : Terms → List SpelledTerm → Type 0 where
  none : AreOf den [] []
  one_more : {num : ℤ} {ts : Terms} {t : SpelledTerm} {rs : List SpelledTerm} → IsCoefficient num den t.ratio → AreOf den ts rs → AreOf den ((num, t.code ∷ t.codes) ∷ ts) (t ∷ rs)

abbrev pub is_negative : ℤ → Bool
is_negative (pos n) = false
is_negative (negsuc n) = true

module _ (basis : BasisId) (bases : List BasisId) where
  -- a term without its sign
  abbrev pub unsigned : SpelledTerm → Expr
  unsigned t = term_of basis bases (unsigned_abs t.ratio.num) t.ratio.den t.code t.codes

  abbrev pub unsigned_lexemes : SpelledTerm → List Lexeme
  unsigned_lexemes t = term_lexemes basis bases (unsigned_abs t.ratio.num) t.ratio.den t.code t.codes

  -- the terms behind the first
  abbrev pub later_parts : List SpelledTerm → List Signed
  later_parts [] = []
  later_parts (t ∷ rs) = signed (is_negative t.ratio.num) (unsigned t) ∷ later_parts rs

  abbrev pub later_text : List SpelledTerm → List ℕ
  later_text [] = []
  later_text (t ∷ rs) = later_sign t.ratio.num ++ term_text (basis ∷ bases) t.ratio (t.code ∷ t.codes) ++ later_text rs

  abbrev pub later_lexemes : List SpelledTerm → List Lexeme
  later_lexemes [] = []
  later_lexemes (t ∷ rs) = (if is_negative t.ratio.num then lex.Minus else lex.Plus) ∷ unsigned_lexemes t ++ later_lexemes rs

  -- all terms
  abbrev pub sum_with : SpelledTerm → List SpelledTerm → Expr
  sum_with t rs = sum_of (signed (is_negative t.ratio.num) (unsigned t) ∷ later_parts rs)

  abbrev pub sum_lexemes : SpelledTerm → List SpelledTerm → List Lexeme
  sum_lexemes t rs = (if is_negative t.ratio.num then lex.Minus ∷ [] else []) ++ unsigned_lexemes t ++ later_lexemes rs

-- Numbers with their signs.

abbrev pub number_by : Bool → ℕ → ℕ → Expr
number_by true n d = e.Number n
number_by false n d = e.Product (factor false (e.Number n) ∷ factor true (e.Number d) ∷ [])

abbrev pub number_lexemes_by : Bool → ℕ → ℕ → List Lexeme
number_lexemes_by true n d = lex.Number n ∷ []
number_lexemes_by false n d = lex.Number n ∷ lex.Over ∷ lex.Number d ∷ []

abbrev pub number_sum : Ratio → Expr
number_sum r = sum_of (signed (is_negative r.num) (number_by (r.den == 1) (unsigned_abs r.num) r.den) ∷ [])

abbrev pub number_lexemes : Ratio → List Lexeme
number_lexemes r = (if is_negative r.num then lex.Minus ∷ [] else []) ++ number_lexemes_by (r.den == 1) (unsigned_abs r.num) r.den
