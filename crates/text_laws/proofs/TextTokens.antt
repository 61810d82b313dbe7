-- The tokens of the text of a value stand for the lexemes that it spells.
use Rattle.std.proofs.Common.{◌≡◌, ℕ, suc, ◌+◌, ◌^◌, ◌<◌, Bool, true, false, ◌&&◌, if◌then◌else◌, List, [], ◌∷◌, ◌++◌, drop, refl, sym, ◌∙◌, ap, subst, append_assoc, append-nil, unsigned_abs}
use Rattle.std.specs.Prelude.{codes, ◌==◌}
use Rattle.std.specs.Fmt.{decimal, signed_decimal}
use Rattle.std.proofs.Math.IntN.{ℤ, pos, negsuc}
use Rattle.std.proofs.lemmas.List.{drop-drop}
use Rattle.hopf_num.specs.Fractions.{Ratio, IsFraction, over_text, fraction_text}
use Rattle.basis_names.specs.declared.bases.BasisId.{BasisId}
use Rattle.session_tokens.specs.declared.lexeme.Lexeme.{Lexeme}
use Rattle.session_tokens.specs.declared.lexeme.Lexeme.TheVariants as lex
use Rattle.session_tokens.specs.declared.token.Kind.TheVariants as kind
use Rattle.session_tokens.specs.declared.token.Token.{Token}
use Rattle.session_tokens.specs.Lexemes.{lexemes_of}
use Rattle.session_tokens.specs.Tokens.{AreTokens, blank, is_blank}
use Rattle.index_spellings.proofs.DecimalDigits.{StartsWithNoDigit}
use Rattle.index_spellings.proofs.ElementTokens.{element_alone}
use Rattle.index_spellings.proofs.SpelledTokens.{StandAlone, StandFor, nothing_left, number, one_more}
use Rattle.value_texts.specs.Text.{coefficient_text, first_sign, index_text, later_elements_text, later_sign, term_text}
use Rattle.text_laws.proofs.SpelledTerms.{element_lexemes, AreSpelled, scaled_lexemes, scaled_lexemes_by, later_element_lexemes, SpelledTerm, is_negative, unsigned_lexemes, later_text, later_lexemes, sum_lexemes, number_lexemes_by, number_lexemes}

-- a blank in front
blank_front : (text bs : List ℕ) (ls : List Lexeme) (b : ℕ) → is_blank b ≡ true → StandFor text bs ls → StandFor text (b ∷ bs) ls
blank_front text bs ls b is h p e =
    let left : bs ≡ drop (p + 1) text = ap (drop 1) e ∙ drop-drop 1 p text in
    let rest = h (p + 1) left in
    (rest.0, rest.1, blank is rest.2, rest.3)

-- a sign of one byte between blanks
spaced : (text bs : List ℕ) (ls : List Lexeme) → StandFor text bs ls → StandFor text (32 ∷ bs) ls
spaced text bs ls h = blank_front text bs ls 32 refl h

plus : (text bs : List ℕ) (ls : List Lexeme) → StandFor text bs ls → StandFor text (43 ∷ bs) (lex.Plus ∷ ls)
plus text bs ls h = one_more text bs ls 43 [] kind.Sign h refl refl

minus : (text bs : List ℕ) (ls : List Lexeme) → StandFor text bs ls → StandFor text (45 ∷ bs) (lex.Minus ∷ ls)
minus text bs ls h = one_more text bs ls 45 [] kind.Sign h refl refl

times : (text bs : List ℕ) (ls : List Lexeme) → StandFor text bs ls → StandFor text (42 ∷ bs) (lex.Times ∷ ls)
times text bs ls h = one_more text bs ls 42 [] kind.Sign h refl refl

division : (text bs : List ℕ) (ls : List Lexeme) → StandFor text bs ls → StandFor text (47 ∷ bs) (lex.Over ∷ ls)
division text bs ls h = one_more text bs ls 47 [] kind.Sign h refl refl

hash : (text bs : List ℕ) (ls : List Lexeme) → StandFor text bs ls → StandFor text (35 ∷ bs) (lex.Hash ∷ ls)
hash text bs ls h = one_more text bs ls 35 [] kind.Sign h refl refl

-- the signs of terms

first_stands : (z : ℤ) (text bs : List ℕ) (ls : List Lexeme) → StandFor text bs ls → StandFor text (first_sign z ++ bs) ((if is_negative z then lex.Minus ∷ [] else []) ++ ls)
first_stands (pos n) text bs ls h = h
first_stands (negsuc n) text bs ls h = minus text bs ls h

sign_stands : (z : ℤ) (text bs : List ℕ) (ls : List Lexeme) → StandFor text bs ls → StandFor text (later_sign z ++ bs) ((if is_negative z then lex.Minus else lex.Plus) ∷ ls)
sign_stands (pos n) text bs ls h = spaced text (43 ∷ 32 ∷ bs) (lex.Plus ∷ ls) (plus text (32 ∷ bs) ls (spaced text bs ls h))
sign_stands (negsuc n) text bs ls h = spaced text (45 ∷ 32 ∷ bs) (lex.Minus ∷ ls) (minus text (32 ∷ bs) ls (spaced text bs ls h))

sign_no_digit : (z : ℤ) (bs : List ℕ) → StartsWithNoDigit (later_sign z ++ bs)
sign_no_digit (pos n) bs = refl
sign_no_digit (negsuc n) bs = refl

-- coefficients

coefficient_stands : (text bs : List ℕ) (ls : List Lexeme) (n d : ℕ) → n < 2 ^ 127 → d < 2 ^ 127 → (unit whole : Bool) → StandFor text bs ls
    → StandFor text ((if unit then [] else decimal n ++ (if whole then [] else codes "/" ++ decimal d) ++ codes "*") ++ bs) (scaled_lexemes_by unit whole n d ls)
coefficient_stands text bs ls n d small den_small true whole h = h
coefficient_stands text bs ls n d small den_small false true h =
    let bytes : (decimal n ++ [] ++ codes "*") ++ bs ≡ decimal n ++ 42 ∷ bs = ap (λ us. (us ++ codes "*") ++ bs) (append-nil (decimal n)) ∙ append_assoc (decimal n) (codes "*") bs in
    subst (λ us. StandFor text us (lex.Number n ∷ lex.Times ∷ ls)) (sym bytes) (number text n small (42 ∷ bs) (lex.Times ∷ ls) refl (times text bs ls h))
coefficient_stands text bs ls n d small den_small false false h =
    let over : List ℕ = codes "/" ++ decimal d in
    let bytes : (decimal n ++ over ++ codes "*") ++ bs ≡ decimal n ++ 47 ∷ (decimal d ++ 42 ∷ bs) =
    append_assoc (decimal n ++ over) (codes "*") bs ∙ append_assoc (decimal n) over (42 ∷ bs) in
    subst (λ us. StandFor text us (lex.Number n ∷ lex.Over ∷ lex.Number d ∷ lex.Times ∷ ls)) (sym bytes)
    (number text n small (47 ∷ (decimal d ++ 42 ∷ bs)) (lex.Over ∷ lex.Number d ∷ lex.Times ∷ ls) refl
    (division text (decimal d ++ 42 ∷ bs) (lex.Number d ∷ lex.Times ∷ ls) (number text d den_small (42 ∷ bs) (lex.Times ∷ ls) refl (times text bs ls h))))

pub scaled-append : (unit whole : Bool) (n d : ℕ) (ls ms : List Lexeme) → scaled_lexemes_by unit whole n d ls ++ ms ≡ scaled_lexemes_by unit whole n d (ls ++ ms)
scaled-append true whole n d ls ms = refl
scaled-append false true n d ls ms = refl
scaled-append false false n d ls ms = refl

-- elements

later_no_digit : (bases : List BasisId) (key : List (List ℕ)) (bs : List ℕ) → StartsWithNoDigit bs → StartsWithNoDigit (later_elements_text bases key ++ bs)
later_no_digit [] key bs k = k
later_no_digit (basis ∷ bases) [] bs k = k
later_no_digit (basis ∷ bases) (code ∷ key) bs k = refl

elements_stand : (bases : List BasisId) (key : List (List ℕ)) → AreSpelled bases key → (text : List ℕ) → StandAlone text (later_elements_text bases key) (later_element_lexemes bases key)
elements_stand [] [] spelled text bs ls k h = h
elements_stand [] (code ∷ key) spelled text bs ls k h = absurd spelled
elements_stand (basis ∷ bases) [] spelled text bs ls k h = absurd spelled
elements_stand (basis ∷ bases) (code ∷ key) spelled text bs ls k h =
    let it : List ℕ = index_text basis code in
    let more : List ℕ = later_elements_text bases key in
    let lexemes : List Lexeme = element_lexemes basis code ++ (later_element_lexemes bases key ++ ls) in
    let bytes : (codes " # " ++ it ++ more) ++ bs ≡ 32 ∷ 35 ∷ 32 ∷ (it ++ (more ++ bs)) = append_assoc (codes " # " ++ it) more bs ∙ append_assoc (codes " # ") it (more ++ bs) in
    let these : lex.Hash ∷ (element_lexemes basis code ++ later_element_lexemes bases key ++ ls) ≡ lex.Hash ∷ lexemes = ap (λ us. lex.Hash ∷ us) (append_assoc (element_lexemes basis code) (later_element_lexemes bases key) ls) in
    let inner : StandFor text (it ++ (more ++ bs)) lexemes =
    element_alone basis code spelled.0.within text (more ++ bs) (later_element_lexemes bases key ++ ls) (later_no_digit bases key bs k) (elements_stand bases key spelled.1 text bs ls k h) in
    subst (λ us. StandFor text us (lex.Hash ∷ (element_lexemes basis code ++ later_element_lexemes bases key ++ ls))) (sym bytes)
    (subst (λ us. StandFor text (32 ∷ 35 ∷ 32 ∷ (it ++ (more ++ bs))) us) (sym these)
    (spaced text (35 ∷ 32 ∷ (it ++ (more ++ bs))) (lex.Hash ∷ lexemes) (hash text (32 ∷ (it ++ (more ++ bs))) lexemes (spaced text (it ++ (more ++ bs)) lexemes inner))))

-- a term without its sign
module _ (basis : BasisId) (bases : List BasisId) where
  term_stands : (t : SpelledTerm) → IsFraction t.ratio → AreSpelled (basis ∷ bases) (t.code ∷ t.codes) → (text : List ℕ)
      → StandAlone text (term_text (basis ∷ bases) t.ratio (t.code ∷ t.codes)) (unsigned_lexemes basis bases t)
  term_stands t is spelled text bs ls k h =
      let n : ℕ = unsigned_abs t.ratio.num in
      let d : ℕ = t.ratio.den in
      let it : List ℕ = index_text basis t.code in
      let more : List ℕ = later_elements_text bases t.codes in
      let first : List Lexeme = element_lexemes basis t.code in
      let later : List Lexeme = later_element_lexemes bases t.codes in
      let bytes : (coefficient_text t.ratio ++ (it ++ more)) ++ bs ≡ coefficient_text t.ratio ++ (it ++ (more ++ bs)) =
      append_assoc (coefficient_text t.ratio) (it ++ more) bs ∙ ap (λ us. coefficient_text t.ratio ++ us) (append_assoc it more bs) in
      let these : (scaled_lexemes n d first ++ later) ++ ls ≡ scaled_lexemes n d (first ++ (later ++ ls)) =
      append_assoc (scaled_lexemes n d first) later ls ∙ scaled-append (n == 1 && d == 1) (d == 1) n d first (later ++ ls) in
      let inner : StandFor text (it ++ (more ++ bs)) (first ++ (later ++ ls)) =
      element_alone basis t.code spelled.0.within text (more ++ bs) (later ++ ls) (later_no_digit bases t.codes bs k) (elements_stand bases t.codes spelled.1 text bs ls k h) in
      subst (λ us. StandFor text us ((scaled_lexemes n d first ++ later) ++ ls)) (sym bytes)
      (subst (λ us. StandFor text (coefficient_text t.ratio ++ (it ++ (more ++ bs))) us) (sym these)
      (coefficient_stands text (it ++ (more ++ bs)) (first ++ (later ++ ls)) n d is.num_small is.den_small (n == 1 && d == 1) (d == 1) inner))

  -- each term has a coefficient, and elements of the bases
  abbrev pub AreTermTexts : List SpelledTerm → Type 0
  AreTermTexts [] = Unit {0}
  AreTermTexts (t ∷ rs) = (IsFraction t.ratio × AreSpelled (basis ∷ bases) (t.code ∷ t.codes)) × AreTermTexts rs

  later_starts : (rs : List SpelledTerm) → StartsWithNoDigit (later_text basis bases rs)
  later_starts [] = tt
  later_starts (t ∷ rs) =
      let term : List ℕ = term_text (basis ∷ bases) t.ratio (t.code ∷ t.codes) in
      subst (λ us. StartsWithNoDigit us) (sym (append_assoc (later_sign t.ratio.num) term (later_text basis bases rs))) (sign_no_digit t.ratio.num (term ++ later_text basis bases rs))

  later_stand : (rs : List SpelledTerm) → AreTermTexts rs → (text : List ℕ) → StandFor text (later_text basis bases rs) (later_lexemes basis bases rs)
  later_stand [] are text = nothing_left text
  later_stand (t ∷ rs) are text =
      let term : List ℕ = term_text (basis ∷ bases) t.ratio (t.code ∷ t.codes) in
      let rest : List ℕ = later_text basis bases rs in
      let lexemes : List Lexeme = unsigned_lexemes basis bases t ++ later_lexemes basis bases rs in
      let bytes : later_sign t.ratio.num ++ term ++ rest ≡ later_sign t.ratio.num ++ (term ++ rest) = append_assoc (later_sign t.ratio.num) term rest in
      subst (λ us. StandFor text us ((if is_negative t.ratio.num then lex.Minus else lex.Plus) ∷ lexemes)) (sym bytes)
      (sign_stands t.ratio.num text (term ++ rest) lexemes (term_stands t are.0.0 are.0.1 text rest (later_lexemes basis bases rs) (later_starts rs) (later_stand rs are.1 text)))

  -- all terms
  pub sum_stands : (t : SpelledTerm) (rs : List SpelledTerm) → AreTermTexts (t ∷ rs) → (text : List ℕ)
      → StandFor text (first_sign t.ratio.num ++ term_text (basis ∷ bases) t.ratio (t.code ∷ t.codes) ++ later_text basis bases rs) (sum_lexemes basis bases t rs)
  sum_stands t rs are text =
      let term : List ℕ = term_text (basis ∷ bases) t.ratio (t.code ∷ t.codes) in
      let rest : List ℕ = later_text basis bases rs in
      let front : List Lexeme = if is_negative t.ratio.num then lex.Minus ∷ [] else [] in
      let lexemes : List Lexeme = unsigned_lexemes basis bases t ++ later_lexemes basis bases rs in
      let bytes : first_sign t.ratio.num ++ term ++ rest ≡ first_sign t.ratio.num ++ (term ++ rest) = append_assoc (first_sign t.ratio.num) term rest in
      let these : front ++ unsigned_lexemes basis bases t ++ later_lexemes basis bases rs ≡ front ++ lexemes = append_assoc front (unsigned_lexemes basis bases t) (later_lexemes basis bases rs) in
      subst (λ us. StandFor text us (sum_lexemes basis bases t rs)) (sym bytes)
      (subst (λ us. StandFor text (first_sign t.ratio.num ++ (term ++ rest)) us) (sym these)
      (first_stands t.ratio.num text (term ++ rest) lexemes (term_stands t are.0.0 are.0.1 text rest (later_lexemes basis bases rs) (later_starts rs) (later_stand rs are.1 text))))

-- numbers

number_stands : (text : List ℕ) (n d : ℕ) → n < 2 ^ 127 → d < 2 ^ 127 → (whole : Bool) → StandFor text (decimal n ++ (if whole then [] else codes "/" ++ decimal d)) (number_lexemes_by whole n d)
number_stands text n d small den_small true = number text n small [] [] tt (nothing_left text)
number_stands text n d small den_small false =
    let last : StandFor text (decimal d ++ []) (lex.Number d ∷ []) = number text d den_small [] [] tt (nothing_left text) in
    let den : StandFor text (decimal d) (lex.Number d ∷ []) = subst (λ us. StandFor text us (lex.Number d ∷ [])) (append-nil (decimal d)) last in
    number text n small (47 ∷ decimal d) (lex.Over ∷ lex.Number d ∷ []) refl (division text (decimal d) (lex.Number d ∷ []) den)

signed_stands : (text rest : List ℕ) (ls : List Lexeme) (z : ℤ) → StandFor text (decimal (unsigned_abs z) ++ rest) ls → StandFor text (signed_decimal z ++ rest) ((if is_negative z then lex.Minus ∷ [] else []) ++ ls)
signed_stands text rest ls (pos n) h = h
signed_stands text rest ls (negsuc n) h = minus text (decimal (suc n) ++ rest) ls h

pub fraction_stands : (text : List ℕ) (r : Ratio) → IsFraction r → StandFor text (fraction_text r) (number_lexemes r)
fraction_stands text r is =
    signed_stands text (over_text r.den) (number_lexemes_by (r.den == 1) (unsigned_abs r.num) r.den) r.num (number_stands text (unsigned_abs r.num) r.den is.num_small is.den_small (r.den == 1))

-- A text that stands for lexemes has tokens that do.
pub text_tokens : (text : List ℕ) (ls : List Lexeme) → StandFor text text ls → (ts : List Token) × AreTokens 1 text ts × (lexemes_of text ts ≡ ls)
text_tokens text ls h = let found = h 0 refl in (found.0 ∷ found.1, found.2, found.3)
