-- The lexemes of the text of a value are a statement of the grammar, and no other.
use Rattle.std.proofs.Common.{◌≡◌, ℕ, Bool, true, false, ◌&&◌, if◌then◌else◌, List, [], ◌∷◌, ◌++◌, sym, ◌∙◌, subst, append_assoc, unsigned_abs}
use Rattle.std.specs.Prelude.{◌==◌}
use Rattle.hopf_num.specs.Fractions.{Ratio}
use Rattle.basis_names.specs.declared.bases.BasisId.{BasisId}
use Rattle.realisations.specs.Bases.{index_kind_of}
use Rattle.session_tokens.specs.declared.lexeme.Lexeme.{Lexeme}
use Rattle.session_tokens.specs.declared.lexeme.Lexeme.TheVariants as lex
use Rattle.session_grammar.specs.declared.expression.Expr.{Expr}
use Rattle.session_grammar.specs.declared.expression.Expr.TheVariants as e
use Rattle.session_grammar.specs.declared.expression.Signed.{Signed}
use Rattle.session_grammar.specs.declared.expression.Statement.{Statement}
use Rattle.session_grammar.specs.declared.expression.Statement.TheVariants as s
use Rattle.session_grammar.specs.declared.parsed.Parsed.{Parsed}
use Rattle.session_grammar.specs.declared.parsed.Parsed.TheVariants as parsed
use Rattle.session_grammar.specs.Grammar.{inside, signed, sum_of, Atom, number, element, no_factors, times, over, Product, product, Products, no_products, hash, Tensor, tensor, Tensors, no_tensors, plus, minus, Sum, sum, negative, IsStatement, print}
use Rattle.session_grammar.specs.Parses.{IsOnlyStatement, IsParsed}
use Rattle.session_grammar.proofs.OneReading.{parsed_exists, bad_no_statement}
use Rattle.index_spellings.specs.Spellings.{items_by}
use Rattle.index_spellings.proofs.ReadBack.{spellings}
use Rattle.text_laws.proofs.SpelledTerms.{element_of, element_lexemes, scaled_by, scaled_lexemes, scaled_lexemes_by, later_elements, later_element_lexemes, SpelledTerm, is_negative, unsigned, unsigned_lexemes, later_parts, later_lexemes, sum_with, sum_lexemes, number_by, number_lexemes_by, number_sum, number_lexemes}
use Rattle.text_laws.proofs.TextTokens.{scaled-append}

-- an element
element_atom : (basis : BasisId) (code : List ℕ) (r : List Lexeme) → Atom (element_lexemes basis code ++ r) r (element_of basis code)
element_atom basis code r =
    let items : List Lexeme = items_by (index_kind_of basis) code in
    let behind : items ++ lex.RightBracket ∷ [] ++ r ≡ items ++ lex.RightBracket ∷ r = append_assoc items (lex.RightBracket ∷ []) r in
    let atom : Atom (lex.Basis basis ∷ lex.LeftBracket ∷ (items ++ lex.RightBracket ∷ r)) r (e.Element basis (inside 0 (items ++ lex.RightBracket ∷ r))) = element (spellings.is_list basis code r) in
    subst (λ ts. Atom (lex.Basis basis ∷ lex.LeftBracket ∷ ts) r (element_of basis code)) (sym behind)
    (subst (λ us. Atom (lex.Basis basis ∷ lex.LeftBracket ∷ (items ++ lex.RightBracket ∷ r)) r (e.Element basis us)) (spellings.ends basis code r) atom)

-- a coefficient before it
scaled_product : (unit whole : Bool) (n d : ℕ) (ls r : List Lexeme) (x : Expr) → Atom ls r x → Product (scaled_lexemes_by unit whole n d ls) r (scaled_by unit whole n d x)
scaled_product true whole n d ls r x atom = product atom no_factors
scaled_product false true n d ls r x atom = product number (times atom no_factors)
scaled_product false false n d ls r x atom = product number (over number (times atom no_factors))

-- elements behind a term
hash_products : (bases : List BasisId) (key : List (List ℕ)) (r : List Lexeme) → Products (later_element_lexemes bases key ++ r) r (later_elements bases key)
hash_products [] key r = no_products
hash_products (basis ∷ bases) [] r = no_products
hash_products (basis ∷ bases) (code ∷ key) r =
    let first : List Lexeme = element_lexemes basis code in
    let more : List Lexeme = later_element_lexemes bases key in
    subst (λ ts. Products (lex.Hash ∷ ts) r (later_elements (basis ∷ bases) (code ∷ key))) (sym (append_assoc first more r))
    (hash (product (element_atom basis code (more ++ r)) no_factors) (hash_products bases key r))

module _ (basis : BasisId) (bases : List BasisId) where
  -- a term without its sign
  term_tensor : (t : SpelledTerm) (r : List Lexeme) → Tensor (unsigned_lexemes basis bases t ++ r) r (unsigned basis bases t)
  term_tensor t r =
      let n : ℕ = unsigned_abs t.ratio.num in
      let d : ℕ = t.ratio.den in
      let first : List Lexeme = element_lexemes basis t.code in
      let later : List Lexeme = later_element_lexemes bases t.codes in
      let these : (scaled_lexemes n d first ++ later) ++ r ≡ scaled_lexemes n d (first ++ (later ++ r)) =
      append_assoc (scaled_lexemes n d first) later r ∙ scaled-append (n == 1 && d == 1) (d == 1) n d first (later ++ r) in
      subst (λ ts. Tensor ts r (unsigned basis bases t)) (sym these)
      (tensor (scaled_product (n == 1 && d == 1) (d == 1) n d (first ++ (later ++ r)) (later ++ r) (element_of basis t.code) (element_atom basis t.code (later ++ r))) (hash_products bases t.codes r))

  -- the terms behind the first
  one_sign : (m : Bool) (ts us : List Lexeme) (x : Expr) (ps : List Signed) → Tensor ts us x → Tensors us [] ps → Tensors ((if m then lex.Minus else lex.Plus) ∷ ts) [] (signed m x ∷ ps)
  one_sign false ts us x ps first rest = plus first rest
  one_sign true ts us x ps first rest = minus first rest

  later_tensors : (rs : List SpelledTerm) → Tensors (later_lexemes basis bases rs) [] (later_parts basis bases rs)
  later_tensors [] = no_tensors
  later_tensors (t ∷ rs) =
      one_sign (is_negative t.ratio.num) (unsigned_lexemes basis bases t ++ later_lexemes basis bases rs) (later_lexemes basis bases rs) (unsigned basis bases t) (later_parts basis bases rs)
      (term_tensor t (later_lexemes basis bases rs)) (later_tensors rs)

-- a sum with the sign of its first part
first_sign_sum : (m : Bool) (ts us : List Lexeme) (x : Expr) (ps : List Signed) → Tensor ts us x → Tensors us [] ps → Sum ((if m then lex.Minus ∷ [] else []) ++ ts) [] (sum_of (signed m x ∷ ps))
first_sign_sum false ts us x ps first rest = sum first rest
first_sign_sum true ts us x ps first rest = negative first rest

-- A statement is the only one.
only_statement : (ls : List Lexeme) (st : Statement) → IsStatement ls st → IsOnlyStatement ls st
only_statement ls st is = by_parsed (parsed_exists ls).0 (parsed_exists ls).1
  where
    by_parsed : (p : Parsed) → IsParsed ls p → IsOnlyStatement ls st
    by_parsed (parsed.Read z) only = subst (λ q. IsOnlyStatement ls q) (only.only st is) only
    by_parsed (parsed.Stops k) bad = absurd (bad_no_statement ls k st bad is)

pub sum_statement : (basis : BasisId) (bases : List BasisId) (t : SpelledTerm) (rs : List SpelledTerm) → IsOnlyStatement (sum_lexemes basis bases t rs) (s.Print (sum_with basis bases t rs))
sum_statement basis bases t rs =
    let m : Bool = is_negative t.ratio.num in
    let front : List Lexeme = if m then lex.Minus ∷ [] else [] in
    let these : List Lexeme = unsigned_lexemes basis bases t ++ later_lexemes basis bases rs in
    let grouped : sum_lexemes basis bases t rs ≡ front ++ these = append_assoc front (unsigned_lexemes basis bases t) (later_lexemes basis bases rs) in
    only_statement (sum_lexemes basis bases t rs) (s.Print (sum_with basis bases t rs))
    (subst (λ ls. IsStatement ls (s.Print (sum_with basis bases t rs))) (sym grouped)
    (print (first_sign_sum m these (later_lexemes basis bases rs) (unsigned basis bases t) (later_parts basis bases rs) (term_tensor basis bases t (later_lexemes basis bases rs)) (later_tensors basis bases rs))))

number_tensor : (whole : Bool) (n d : ℕ) → Tensor (number_lexemes_by whole n d) [] (number_by whole n d)
number_tensor true n d = tensor (product number no_factors) no_products
number_tensor false n d = tensor (product number (over number no_factors)) no_products

pub number_statement : (r : Ratio) → IsOnlyStatement (number_lexemes r) (s.Print (number_sum r))
number_statement r =
    let x : Expr = number_by (r.den == 1) (unsigned_abs r.num) r.den in
    only_statement (number_lexemes r) (s.Print (number_sum r))
    (print (first_sign_sum (is_negative r.num) (number_lexemes_by (r.den == 1) (unsigned_abs r.num) r.den) [] x [] (number_tensor (r.den == 1) (unsigned_abs r.num) r.den) no_tensors))
