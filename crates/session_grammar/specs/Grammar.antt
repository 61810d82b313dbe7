-- The grammar: a relation between lexemes, those that are left behind them, and what was read; one constructor a production.
use Rattle.std.specs.Prelude.{◌≡◌, ℕ, zero, suc, ◌-◌, ◌^◌, min, Bool, true, false, List, [], ◌∷◌, Option, Some, None}
use Rattle.session_grammar.specs.declared.expression.Place.{Place}
use Rattle.basis_names.specs.declared.bases.BasisId.{BasisId}
use Rattle.session_grammar.specs.declared.expression.Expr.{Expr}
use Rattle.session_grammar.specs.declared.expression.Factor.{Factor}
use Rattle.session_tokens.specs.declared.lexeme.Linear.{Linear}
use Rattle.session_grammar.specs.declared.expression.Signed.{Signed}
use Rattle.session_grammar.specs.declared.expression.Statement.{Statement}
use Rattle.session_tokens.specs.declared.lexeme.Lexeme.{Lexeme}
use Rattle.session_tokens.specs.Words.{word_of}
use Rattle.session_grammar.specs.declared.expression.Place.TheVariants as place
use Rattle.session_grammar.specs.declared.expression.Expr.TheVariants as e
use Rattle.session_grammar.specs.declared.expression.Statement.TheVariants as s
use Rattle.session_tokens.specs.declared.lexeme.Lexeme.TheVariants as lex

-- Lists of items.

mutual
  -- list := "[" "]" | "[" item { "," item } "]", behind its first bracket
  pub data IsList : List Lexeme → List Lexeme → Type 0 where
    empty_list : {r : List Lexeme} → IsList (lex.RightBracket ∷ r) r
    full_list : {ts r : List Lexeme} → AreItems ts r → IsList ts r

  -- items with commas between, and the last bracket
  pub data AreItems : List Lexeme → List Lexeme → Type 0 where
    last_item : {ts r : List Lexeme} → IsItem ts (lex.RightBracket ∷ r) → AreItems ts r
    one_item : {ts s r : List Lexeme} → IsItem ts (lex.Comma ∷ s) → AreItems s r → AreItems ts r

  -- item := number | list
  pub data IsItem : List Lexeme → List Lexeme → Type 0 where
    number_item : {n : ℕ} {r : List Lexeme} → IsItem (lex.Number n ∷ r) r
    list_item : {ts r : List Lexeme} → IsList ts r → IsItem (lex.LeftBracket ∷ ts) r

-- the lexemes between the brackets of a list, behind its first bracket: up to the one that closes it, where depth lists are open inside it
abbrev pub inside : ℕ → List Lexeme → List Lexeme
inside depth [] = []
inside depth (lex.LeftBracket ∷ ts) = lex.LeftBracket ∷ inside (suc depth) ts
inside zero (lex.RightBracket ∷ ts) = []
inside (suc depth) (lex.RightBracket ∷ ts) = lex.RightBracket ∷ inside depth ts
inside depth (t ∷ ts) = t ∷ inside depth ts

-- The parts of expressions.

-- a part of a sum, subtracted where m
abbrev pub signed : Bool → Expr → Signed
signed m x = record { minus = m; value = x }

-- a part of a product, a divisor where d
abbrev pub factor : Bool → Expr → Factor
factor d x = record { divides = d; value = x }

-- a product or a tensor product of one part, and a sum of one part without a sign, is that part
abbrev pub product_of : List Factor → Expr
product_of [] = e.Product []
product_of (f ∷ []) = f.value
product_of (f ∷ g ∷ fs) = e.Product (f ∷ g ∷ fs)

-- the same of a tensor product
abbrev pub tensor_of : List Expr → Expr
tensor_of [] = e.Tensor []
tensor_of (x ∷ []) = x
tensor_of (x ∷ y ∷ es) = e.Tensor (x ∷ y ∷ es)

-- the same of a sum: with a sign it stays one
abbrev pub sum_of_one : Bool → Signed → Expr
sum_of_one true p = e.Sum (p ∷ [])
sum_of_one false p = p.value

abbrev pub sum_of : List Signed → Expr
sum_of [] = e.Sum []
sum_of (p ∷ []) = sum_of_one p.minus p
sum_of (p ∷ q ∷ ps) = e.Sum (p ∷ q ∷ ps)

-- the number of a component, in 32 bits: no value has so many, so all from 2^32 - 1 on are one
abbrev pub component : ℕ → ℕ
component k = min k (2 ^ 32 - 1)

-- the component that a call names
abbrev pub place_of : Option ℕ → Place
place_of None = place.Only
place_of (Some k) = place.At (component k)

-- `)`, or a comma, a number and `)`
pub data Ending : List Lexeme → List Lexeme → Option ℕ → Type 0 where
  bare : {r : List Lexeme} → Ending (lex.Close ∷ r) r None
  numbered : {k : ℕ} {r : List Lexeme} → Ending (lex.Comma ∷ lex.Number k ∷ lex.Close ∷ r) r (Some k)

-- names of bases with commas between, and `)`
pub data Through : List Lexeme → List Lexeme → List BasisId → Type 0 where
  last_basis : {b : BasisId} {r : List Lexeme} → Through (lex.Basis b ∷ lex.Close ∷ r) r (b ∷ [])
  one_basis : {b : BasisId} {ts r : List Lexeme} {bs : List BasisId} → Through ts r bs → Through (lex.Basis b ∷ lex.Comma ∷ ts) r (b ∷ bs)

-- Expressions.

mutual
  -- atom := number | name | basis list | basis "(" sum [ "," number ] ")" | linear "(" sum [ "," number ] ")" | "pair" "(" sum "," sum ")" | "along" "(" sum "," number "," basis { "," basis } ")" | "(" sum ")"
  pub data Atom : List Lexeme → List Lexeme → Expr → Type 0 where
    number : {n : ℕ} {r : List Lexeme} → Atom (lex.Number n ∷ r) r (e.Number n)
    named : {w : List ℕ} {r : List Lexeme} → Atom (lex.Name w ∷ r) r (e.Named w)
    element : {b : BasisId} {ts r : List Lexeme} → IsList ts r → Atom (lex.Basis b ∷ lex.LeftBracket ∷ ts) r (e.Element b (inside 0 ts))
    convert : {b : BasisId} {ts s r : List Lexeme} {x : Expr} {k : Option ℕ} → Sum ts s x → Ending s r k → Atom (lex.Basis b ∷ lex.Open ∷ ts) r (e.Convert b x (place_of k))
    apply : {f : Linear} {ts s r : List Lexeme} {x : Expr} {k : Option ℕ} → Sum ts s x → Ending s r k → Atom (lex.Linear f ∷ lex.Open ∷ ts) r (e.Apply f x (place_of k))
    pair : {ts s r : List Lexeme} {x y : Expr} → Sum ts (lex.Comma ∷ s) x → Sum s (lex.Close ∷ r) y → Atom (lex.Pair ∷ lex.Open ∷ ts) r (e.Pair x y)
    along : {ts s r : List Lexeme} {x : Expr} {k : ℕ} {bs : List BasisId} → Sum ts (lex.Comma ∷ lex.Number k ∷ lex.Comma ∷ s) x → Through s r bs → Atom (lex.Along ∷ lex.Open ∷ ts) r (e.Along x (component k) bs)
    group : {ts r : List Lexeme} {x : Expr} → Sum ts (lex.Close ∷ r) x → Atom (lex.Open ∷ ts) r x

  -- factors := { ("*" | "/") atom }
  pub data Factors : List Lexeme → List Lexeme → List Factor → Type 0 where
    no_factors : {r : List Lexeme} → Factors r r []
    times : {ts s r : List Lexeme} {x : Expr} {fs : List Factor} → Atom ts s x → Factors s r fs → Factors (lex.Times ∷ ts) r (factor false x ∷ fs)
    over : {ts s r : List Lexeme} {x : Expr} {fs : List Factor} → Atom ts s x → Factors s r fs → Factors (lex.Over ∷ ts) r (factor true x ∷ fs)

  -- product := atom factors, from left to right
  pub data Product : List Lexeme → List Lexeme → Expr → Type 0 where
    product : {ts s r : List Lexeme} {x : Expr} {fs : List Factor} → Atom ts s x → Factors s r fs → Product ts r (product_of (factor false x ∷ fs))

  -- products := { "#" product }
  pub data Products : List Lexeme → List Lexeme → List Expr → Type 0 where
    no_products : {r : List Lexeme} → Products r r []
    hash : {ts s r : List Lexeme} {x : Expr} {es : List Expr} → Product ts s x → Products s r es → Products (lex.Hash ∷ ts) r (x ∷ es)

  -- tensor := product products
  pub data Tensor : List Lexeme → List Lexeme → Expr → Type 0 where
    tensor : {ts s r : List Lexeme} {x : Expr} {es : List Expr} → Product ts s x → Products s r es → Tensor ts r (tensor_of (x ∷ es))

  -- tensors := { ("+" | "-") tensor }
  pub data Tensors : List Lexeme → List Lexeme → List Signed → Type 0 where
    no_tensors : {r : List Lexeme} → Tensors r r []
    plus : {ts s r : List Lexeme} {x : Expr} {ps : List Signed} → Tensor ts s x → Tensors s r ps → Tensors (lex.Plus ∷ ts) r (signed false x ∷ ps)
    minus : {ts s r : List Lexeme} {x : Expr} {ps : List Signed} → Tensor ts s x → Tensors s r ps → Tensors (lex.Minus ∷ ts) r (signed true x ∷ ps)

  -- sum := ["-"] tensor tensors; a sign in front is that of the first tensor alone
  pub data Sum : List Lexeme → List Lexeme → Expr → Type 0 where
    sum : {ts s r : List Lexeme} {x : Expr} {ps : List Signed} → Tensor ts s x → Tensors s r ps → Sum ts r (sum_of (signed false x ∷ ps))
    negative : {ts s r : List Lexeme} {x : Expr} {ps : List Signed} → Tensor ts s x → Tensors s r ps → Sum (lex.Minus ∷ ts) r (sum_of (signed true x ∷ ps))

-- Statements.

-- statement := (nothing) | word ":=" sum | sum | sum "==" sum
pub data IsStatement : List Lexeme → Statement → Type 0 where
  nothing : IsStatement [] s.Empty
  assign : {t : Lexeme} {w : List ℕ} {ts : List Lexeme} {x : Expr} → word_of t ≡ Some w → Sum ts [] x → IsStatement (t ∷ lex.Assign ∷ ts) (s.Assign w x)
  print : {ts : List Lexeme} {x : Expr} → Sum ts [] x → IsStatement ts (s.Print x)
  equal : {ts r : List Lexeme} {x y : Expr} → Sum ts (lex.Equals ∷ r) x → Sum r [] y → IsStatement ts (s.Equal x y)
