-- What each state of the parser still reads.
use Rattle.std.proofs.Common.{◌≡◌, ℕ, zero, suc, List, [], ◌∷◌, ◌++◌, Option, Some, None, ◌↔◌}
use Rattle.basis_names.specs.declared.bases.BasisId.{BasisId}
use Rattle.session_grammar.specs.declared.expression.Expr.{Expr}
use Rattle.session_grammar.specs.declared.expression.Factor.{Factor}
use Rattle.session_grammar.specs.declared.expression.Signed.{Signed}
use Rattle.session_grammar.specs.declared.expression.Statement.{Statement}
use Rattle.session_tokens.specs.declared.lexeme.Lexeme.{Lexeme}
use Rattle.session_grammar.specs.declared.state.Base.{Base}
use Rattle.session_grammar.specs.declared.state.Call.{Call}
use Rattle.session_grammar.specs.declared.state.Level.{Level}
use Rattle.session_grammar.specs.declared.state.Map.{Map}
use Rattle.session_grammar.specs.declared.state.Mode.{Mode}
use Rattle.session_grammar.specs.Grammar.{IsList, AreItems, inside, component, Ending, Through, Atom, Factors, Products, Tensors, Sum, IsStatement}
use Rattle.session_grammar.specs.ListStates.{element_at}
use Rattle.session_grammar.specs.ParserSteps.{push, whole, calling, mapped, State}
use Rattle.session_grammar.specs.declared.expression.Expr.TheVariants as e
use Rattle.session_grammar.specs.declared.expression.Statement.TheVariants as s
use Rattle.session_tokens.specs.declared.lexeme.Lexeme.TheVariants as lex
use Rattle.session_grammar.specs.declared.state.Base.TheVariants as base
use Rattle.session_grammar.specs.declared.state.Call.TheVariants as call
use Rattle.session_grammar.specs.declared.state.Map.TheVariants as map
use Rattle.session_grammar.specs.declared.state.Mode.TheVariants as m

-- behind an item: the end of its list, or a comma and more items
pub data BehindItem : List Lexeme → List Lexeme → Type 0 where
  item_ends : {r : List Lexeme} → BehindItem (lex.RightBracket ∷ r) r
  item_goes : {ts r : List Lexeme} → AreItems ts r → BehindItem (lex.Comma ∷ ts) r

-- so many lists are read to their ends, each from behind an item
abbrev pub EndLists : ℕ → List Lexeme → List Lexeme → Type 0
EndLists zero ts r = ts ≡ r
EndLists (suc d) ts r = (q : List Lexeme) × BehindItem ts q × EndLists d q r

abbrev pub InList : ℕ → List Lexeme → List Lexeme → Type 0
InList d ts r = (q : List Lexeme) × IsList ts q × EndLists d q r

abbrev pub InItems : ℕ → List Lexeme → List Lexeme → Type 0
InItems d ts r = (q : List Lexeme) × AreItems ts q × EndLists d q r

-- behind the name of a basis in `along`: `)`, or a comma and more names
pub data BehindBasis : List Lexeme → List Lexeme → List BasisId → Type 0 where
  bases_end : {r : List Lexeme} → BehindBasis (lex.Close ∷ r) r []
  bases_go : {ts r : List Lexeme} {bs : List BasisId} → Through ts r bs → BehindBasis (lex.Comma ∷ ts) r bs

-- what ends a bracket behind its first value, and what was read with it
pub data Ends : Call → Expr → List Lexeme → List Lexeme → Expr → Type 0 where
  group_ends : {x : Expr} {r : List Lexeme} → Ends call.Group x (lex.Close ∷ r) r x
  map_ends : {f : Map} {x : Expr} {ts r : List Lexeme} {k : Option ℕ} → Ending ts r k → Ends (call.Mapped f) x ts r (mapped f x k)
  pair_goes : {x y : Expr} {ts r : List Lexeme} → Sum ts (lex.Close ∷ r) y → Ends call.First x (lex.Comma ∷ ts) r (e.Pair x y)
  pair_ends : {x y : Expr} {r : List Lexeme} → Ends (call.Second x) y (lex.Close ∷ r) r (e.Pair x y)
  along_goes : {x : Expr} {k : ℕ} {ts r : List Lexeme} {bs : List BasisId} → Through ts r bs → Ends call.Along x (lex.Comma ∷ lex.Number k ∷ lex.Comma ∷ ts) r (e.Along x (component k) bs)

-- the rest of a level: more factors, more tensor factors and more parts, and what follows the sum
pub record Rest (closes : Expr → List Lexeme → Statement → Type 0) (l : Level) (ts : List Lexeme) (out : Statement) : Type 0 where
  pub a : List Lexeme
  pub b : List Lexeme
  pub c : List Lexeme
  pub fs : List Factor
  pub es : List Expr
  pub ps : List Signed
  pub factors : Factors ts a fs
  pub products : Products a b es
  pub tensors : Tensors b c ps
  pub closed : closes (whole l fs es ps) c out

-- what may follow the sum outside all brackets, and what the statement is then
pub data Bottom : Base → Expr → List Lexeme → Statement → Type 0 where
  prints : {x : Expr} → Bottom base.Plain x [] (s.Print x)
  equals : {x y : Expr} {ts : List Lexeme} → Sum ts [] y → Bottom base.Plain x (lex.Equals ∷ ts) (s.Equal x y)
  assigns : {w : List ℕ} {x : Expr} → Bottom (base.Assigned w) x [] (s.Assign w x)
  compares : {x y : Expr} → Bottom (base.Right x) y [] (s.Equal x y)

-- the value of the innermost open bracket is whole
abbrev pub Closes : Base → List Level → Expr → List Lexeme → Statement → Type 0
Closes u [] x ts out = Bottom u x ts out
Closes u (l ∷ ls) x ts out = (r : List Lexeme) × (y : Expr) × Ends l.call x ts r y × Rest (Closes u ls) (push y (calling call.Group l)) r out

abbrev pub After : Base → List Level → Level → List Lexeme → Statement → Type 0
After u ls l ts out = Rest (Closes u ls) l ts out

abbrev pub Operand : Base → List Level → Level → List Lexeme → Statement → Type 0
Operand u ls l ts out = (r : List Lexeme) × (x : Expr) × Atom ts r x × After u ls (push x l) r out

abbrev pub Start : Base → List Level → List Lexeme → Statement → Type 0
Start u ls ts out = (r : List Lexeme) × (x : Expr) × Sum ts r x × Closes u ls x r out

-- a lexeme, and then this
pub data Next (then_reads : List Lexeme → Type 0) (t : Lexeme) : List Lexeme → Type 0 where
  next : {ts : List Lexeme} → then_reads ts → Next then_reads t (t ∷ ts)

-- a number, and then this
pub data NextNumber (then_reads : ℕ → List Lexeme → Type 0) : List Lexeme → Type 0 where
  next_number : {k : ℕ} {ts : List Lexeme} → then_reads k ts → NextNumber then_reads (lex.Number k ∷ ts)

-- behind the name of a basis: a list, or an open bracket
pub data BehindName (u : Base) (b : BasisId) (ls : List Level) (l : Level) (out : Statement) : List Lexeme → Type 0 where
  with_list : {ts r : List Lexeme} → IsList ts r → After u ls (push (element_at b (inside 0 ts)) l) r out → BehindName u b ls l out (lex.LeftBracket ∷ ts)
  with_bracket : {ts : List Lexeme} → Start u (calling (call.Mapped (map.Convert b)) l ∷ ls) ts out → BehindName u b ls l out (lex.Open ∷ ts)

-- behind the number of a component: the end of a map's call; in `along` a comma and the names of bases
abbrev pub BehindCount : Base → Map → Expr → List Level → Level → Statement → ℕ → List Lexeme → Type 0
BehindCount u f x ls l out k ts = Next (λ (r : List Lexeme). After u ls (push (mapped f x (Some k)) l) r out) lex.Close ts

abbrev pub ReadsThrough : Base → Expr → ℕ → List BasisId → List Level → Level → Statement → List Lexeme → Type 0
ReadsThrough u x k bs ls l out ts = (r : List Lexeme) × (more : List BasisId) × Through ts r more × After u ls (push (e.Along x (component k) (bs ++ more)) l) r out

abbrev pub BehindComponent : Base → Expr → List Level → Level → Statement → ℕ → List Lexeme → Type 0
BehindComponent u x ls l out k ts = Next (ReadsThrough u x k [] ls l out) lex.Comma ts

-- what a state still reads
abbrev pub Accepts : Base → Mode → List Level → Level → List Lexeme → Statement → Type 0
Accepts u m.First ls l ts out = IsStatement ts out
Accepts u (m.Word w) ls l ts out = IsStatement (w ∷ ts) out
Accepts u m.Start ls l ts out = Start u ls ts out
Accepts u m.Operand ls l ts out = Operand u ls l ts out
Accepts u m.After ls l ts out = After u ls l ts out
Accepts u (m.Opens c) ls l ts out = Next (λ (q : List Lexeme). Start u (calling c l ∷ ls) q out) lex.Open ts
Accepts u (m.Basis b) ls l ts out = BehindName u b ls l out ts
Accepts u (m.List k) ls l ts out = (r : List Lexeme) × InList k.depth ts r × After u ls (push (element_at k.basis (k.items ++ inside k.depth ts)) l) r out
Accepts u (m.Item k) ls l ts out = (r : List Lexeme) × InItems k.depth ts r × After u ls (push (element_at k.basis (k.items ++ inside k.depth ts)) l) r out
Accepts u (m.Behind k) ls l ts out = (r : List Lexeme) × EndLists (suc k.depth) ts r × After u ls (push (element_at k.basis (k.items ++ inside k.depth ts)) l) r out
Accepts u (m.Count f x) ls l ts out = NextNumber (BehindCount u f x ls l out) ts
Accepts u (m.Counted f x k) ls l ts out = BehindCount u f x ls l out k ts
Accepts u (m.Component x) ls l ts out = NextNumber (BehindComponent u x ls l out) ts
Accepts u (m.Components x k) ls l ts out = BehindComponent u x ls l out k ts
Accepts u (m.Through x k bs) ls l ts out = ReadsThrough u x k bs ls l out ts
Accepts u (m.Passed x k bs) ls l ts out = (r : List Lexeme) × (more : List BasisId) × BehindBasis ts r more × After u ls (push (e.Along x (component k) (bs ++ more)) l) r out

-- the state behind a lexeme reads what the state before it reads behind that lexeme; where there is none, nothing is read
abbrev pub Exact : Base → Mode → List Level → Level → Lexeme → Option State → Type 0
Exact u mode ls l t None = (ts : List Lexeme) (out : Statement) → Accepts u mode ls l (t ∷ ts) out → ⊥
Exact u mode ls l t (Some q) = (ts : List Lexeme) (out : Statement) → Accepts u mode ls l (t ∷ ts) out ↔ Accepts q.base q.mode q.below q.level ts out
