-- Each step of the parser keeps what its state still reads; each state can be completed; and where the text ends, one statement is read or none.
use Rattle.std.proofs.Common.{◌≡◌, ℕ, zero, suc, Bool, true, false, List, [], ◌∷◌, ◌++◌, Option, Some, None, refl, sym, ap, subst, ◌↔◌, if◌then◌else◌}
use Rattle.basis_names.specs.declared.bases.BasisId.TheVariants.{QsymM}
use Rattle.session_grammar.specs.declared.expression.Expr.{Expr}
use Rattle.session_grammar.specs.declared.expression.Statement.{Statement}
use Rattle.session_tokens.specs.declared.lexeme.Lexeme.{Lexeme}
use Rattle.session_grammar.specs.declared.state.Base.{Base}
use Rattle.session_grammar.specs.declared.state.Call.{Call}
use Rattle.session_grammar.specs.declared.state.Level.{Level}
use Rattle.session_grammar.specs.declared.state.Mode.{Mode}
use Rattle.session_grammar.specs.Grammar.{IsList, AreItems, empty_list, full_list, last_item, one_item, number_item, list_item, inside, component, bare, last_basis, number, no_factors, product, no_products, tensor, no_tensors, Sum, sum, IsStatement, nothing, assign, print, equal}
use Rattle.session_tokens.specs.Words.{word_of, is_word, is_some}
use Rattle.session_grammar.specs.ListStates.{ListState, element_at}
use Rattle.session_grammar.specs.ParserSteps.{State, push, value_of, fresh, calling, mapped, start_step, inner_step, and_then, assign_step, word_step, step, step_in, statement_of, inner_end, end_of, finish, finish_in}
use Rattle.session_grammar.proofs.Accepted.{item_ends, EndLists, InList, bases_end, Ends, group_ends, map_ends, pair_goes, pair_ends, along_goes, Bottom, prints, equals, assigns, compares, Closes, After, Operand, Start, next, next_number, with_list, Accepts, Exact}
use Rattle.session_grammar.proofs.CallSteps.{opens-exact, basis-exact, count-exact, counted-exact, component-exact, components-exact, through-exact, passed-exact}
use Rattle.session_grammar.proofs.ListSteps.{number-items, list-exact, item-exact, behind-exact}
use Rattle.session_grammar.proofs.FineSteps.{IsFine, IsInSum, AllInSum, start-in-sum}
use Rattle.session_grammar.proofs.SumSteps.{closes-after, after-end, after-open, after-exact, operand-exact, operand-start, start-exact}
use Rattle.session_grammar.specs.declared.expression.Expr.TheVariants as e
use Rattle.session_grammar.specs.declared.expression.Statement.TheVariants as s
use Rattle.session_tokens.specs.declared.lexeme.Lexeme.TheVariants as lex
use Rattle.session_grammar.specs.declared.state.Base.TheVariants as base
use Rattle.session_grammar.specs.declared.state.Call.TheVariants as call
use Rattle.session_grammar.specs.declared.state.Mode.TheVariants as m

-- the sum of a number alone
zero-sum : (r : List Lexeme) → Sum (lex.Number 0 ∷ r) r (e.Number 0)
zero-sum r = sum (tensor (product number no_factors) no_products) no_tensors

-- Every state can be completed: brackets are closed, and operands are 0.
abbrev ended : Call → Expr → Expr
ended call.Group x = x
ended (call.Mapped f) x = mapped f x None
ended call.First x = e.Pair x (e.Number 0)
ended (call.Second w) x = e.Pair w x
ended call.Along x = e.Along x (component 0) (QsymM ∷ [])

Ends-alive : (c : Call) (x : Expr) (r : List Lexeme) → (ts : List Lexeme) × Ends c x ts r (ended c x)
Ends-alive call.Group x r = (lex.Close ∷ r, group_ends)
Ends-alive (call.Mapped f) x r = (lex.Close ∷ r, map_ends bare)
Ends-alive call.First x r = (lex.Comma ∷ lex.Number 0 ∷ lex.Close ∷ r, pair_goes (zero-sum (lex.Close ∷ r)))
Ends-alive (call.Second w) x r = (lex.Close ∷ r, pair_ends)
Ends-alive call.Along x r = (lex.Comma ∷ lex.Number 0 ∷ lex.Comma ∷ lex.Basis QsymM ∷ lex.Close ∷ r, along_goes last_basis)

-- so many brackets that end lists
abbrev closing : ℕ → List Lexeme
closing zero = []
closing (suc d) = lex.RightBracket ∷ closing d

inside-closing : (d : ℕ) (r : List Lexeme) → inside d (closing d ++ lex.RightBracket ∷ r) ≡ closing d
inside-closing zero r = refl
inside-closing (suc d) r = ap (λ (ts : List Lexeme). lex.RightBracket ∷ ts) (inside-closing d r)

EndLists-closing : (d : ℕ) (r : List Lexeme) → EndLists (suc d) (closing d ++ lex.RightBracket ∷ r) r
EndLists-closing zero r = (r, item_ends, refl)
EndLists-closing (suc d) r = (closing d ++ lex.RightBracket ∷ r, item_ends, EndLists-closing d r)

InList-closing : (d : ℕ) (r : List Lexeme) → InList d (closing d ++ lex.RightBracket ∷ r) r
InList-closing zero r = (r, empty_list, refl)
InList-closing (suc d) r = (closing d ++ lex.RightBracket ∷ r, empty_list, EndLists-closing d r)

Bottom-alive : (u : Base) (x : Expr) → Bottom u x [] (statement_of u x)
Bottom-alive base.Plain x = prints
Bottom-alive (base.Assigned w) x = assigns
Bottom-alive (base.Right y) x = compares

Bottom-only : {u : Base} {x : Expr} {out : Statement} → Bottom u x [] out → statement_of u x ≡ out
Bottom-only prints = refl
Bottom-only assigns = refl
Bottom-only compares = refl

word-some : (o : Option (List ℕ)) → is_some o ≡ true → (w : List ℕ) × (o ≡ Some w)
word-some None is = absurd (cc)
word-some (Some w) is = (w, refl)

no-sum : {r : List Lexeme} {x : Expr} → Sum [] r x → ⊥
no-sum (sum (tensor (product here f) p) q) = elim here [ ]

no-items : {ts r : List Lexeme} → ts ≡ [] → AreItems ts r → ⊥
no-items is (last_item number_item) = absurd (cc)
no-items is (last_item (list_item h)) = absurd (cc)
no-items is (one_item number_item i) = absurd (cc)
no-items is (one_item (list_item h) i) = absurd (cc)

no-list : {r : List Lexeme} → IsList [] r → ⊥
no-list (full_list h) = no-items refl h

module _ (u : Base) where
  Closes-alive : (ls : List Level) (x : Expr) → (ts : List Lexeme) × (out : Statement) × Closes u ls x ts out
  Closes-alive [] x = ([], statement_of u x, Bottom-alive u x)
  Closes-alive (l ∷ ls) x =
      let y : Expr = ended l.call x in
      let more = Closes-alive ls (value_of (push y (calling call.Group l))) in
      let here = Ends-alive l.call x more.0 in
      (here.0, more.1, (more.0, y, here.1, closes-after u ls _ _ _ more.2))

  After-alive : (ls : List Level) (l : Level) → (ts : List Lexeme) × (out : Statement) × After u ls l ts out
  After-alive ls l = let more = Closes-alive ls (value_of l) in (more.0, more.1, closes-after u ls l _ _ more.2)

  Operand-alive : (ls : List Level) (l : Level) → (ts : List Lexeme) × (out : Statement) × Operand u ls l ts out
  Operand-alive ls l = let more = After-alive ls (push (e.Number 0) l) in (lex.Number 0 ∷ more.0, more.1, (more.0, e.Number 0, number, more.2))

  Start-alive : (ls : List Level) → (ts : List Lexeme) × (out : Statement) × Start u ls ts out
  Start-alive ls = let more = Operand-alive ls (fresh false) in (more.0, more.1, operand-start u ls _ _ more.2)

  -- the element of a list whose open lists are closed
  element-alive : (ls : List Level) (l : Level) (k : ListState) (front : List Lexeme)
      → (r : List Lexeme) × (out : Statement) × After u ls (push (element_at k.basis (k.items ++ (front ++ inside k.depth (closing k.depth ++ lex.RightBracket ∷ r)))) l) r out
  element-alive ls l k front =
      let more = After-alive ls (push (element_at k.basis (k.items ++ (front ++ closing k.depth))) l) in
      (more.0, more.1, subst (λ (v : List Lexeme). After u ls (push (element_at k.basis (k.items ++ (front ++ v))) l) more.0 more.1) (sym (inside-closing k.depth more.0)) more.2)

  pub alive : (mode : Mode) → IsFine mode → (ls : List Level) (l : Level) → (ts : List Lexeme) × (out : Statement) × Accepts u mode ls l ts out
  alive m.First fine ls l = ([], s.Empty, nothing)
  alive (m.Word w) fine ls l = let name = word-some (word_of w) fine in (lex.Assign ∷ lex.Number 0 ∷ [], s.Assign name.0 (e.Number 0), assign name.1 (zero-sum []))
  alive m.Start fine ls l = Start-alive ls
  alive m.Operand fine ls l = Operand-alive ls l
  alive m.After fine ls l = After-alive ls l
  alive (m.Opens c) fine ls l = let more = Start-alive (calling c l ∷ ls) in (lex.Open ∷ more.0, more.1, next more.2)
  alive (m.Basis b) fine ls l = let more = After-alive ls (push (element_at b []) l) in (lex.LeftBracket ∷ lex.RightBracket ∷ more.0, more.1, with_list empty_list more.2)
  alive (m.List k) fine ls l = let more = element-alive ls l k [] in (closing k.depth ++ lex.RightBracket ∷ more.0, more.1, (more.0, InList-closing k.depth more.0, more.2))
  alive (m.Item k) fine ls l =
      let more = element-alive ls l k (lex.Number 0 ∷ []) in
      (lex.Number 0 ∷ (closing k.depth ++ lex.RightBracket ∷ more.0), more.1, (more.0, number-items k.depth 0 _ more.0 (EndLists-closing k.depth more.0), more.2))
  alive (m.Behind k) fine ls l = let more = element-alive ls l k [] in (closing k.depth ++ lex.RightBracket ∷ more.0, more.1, (more.0, EndLists-closing k.depth more.0, more.2))
  alive (m.Count f x) fine ls l = let more = After-alive ls (push (mapped f x (Some 0)) l) in (lex.Number 0 ∷ lex.Close ∷ more.0, more.1, next_number (next more.2))
  alive (m.Counted f x k) fine ls l = let more = After-alive ls (push (mapped f x (Some k)) l) in (lex.Close ∷ more.0, more.1, next more.2)
  alive (m.Component x) fine ls l =
      let more = After-alive ls (push (e.Along x (component 0) (QsymM ∷ [])) l) in
      (lex.Number 0 ∷ lex.Comma ∷ lex.Basis QsymM ∷ lex.Close ∷ more.0, more.1, next_number (next (more.0, QsymM ∷ [], last_basis, more.2)))
  alive (m.Components x k) fine ls l =
      let more = After-alive ls (push (e.Along x (component k) (QsymM ∷ [])) l) in
      (lex.Comma ∷ lex.Basis QsymM ∷ lex.Close ∷ more.0, more.1, next (more.0, QsymM ∷ [], last_basis, more.2))
  alive (m.Through x k bs) fine ls l =
      let more = After-alive ls (push (e.Along x (component k) (bs ++ QsymM ∷ [])) l) in
      (lex.Basis QsymM ∷ lex.Close ∷ more.0, more.1, (more.0, QsymM ∷ [], last_basis, more.2))
  alive (m.Passed x k bs) fine ls l =
      let more = After-alive ls (push (e.Along x (component k) (bs ++ [])) l) in
      (lex.Close ∷ more.0, more.1, (more.0, [], bases_end, more.2))

  -- A step in a sum is exact.
  inner-exact : (mode : Mode) → IsInSum mode → (ls : List Level) (l : Level) (t : Lexeme) → Exact u mode ls l t (inner_step u mode ls l t)
  inner-exact m.First in_sum ls l t = absurd in_sum
  inner-exact (m.Word w) in_sum ls l t = absurd in_sum
  inner-exact m.Start in_sum ls l t = start-exact u ls l t
  inner-exact m.Operand in_sum ls l t = operand-exact u ls l t
  inner-exact m.After in_sum ls l t = after-exact u ls l t
  inner-exact (m.Opens c) in_sum ls l t = opens-exact u ls l c t
  inner-exact (m.Basis b) in_sum ls l t = basis-exact u ls l b t
  inner-exact (m.List k) in_sum ls l t = list-exact u ls l k t
  inner-exact (m.Item k) in_sum ls l t = item-exact u ls l k t
  inner-exact (m.Behind k) in_sum ls l t = behind-exact u ls l k t
  inner-exact (m.Count f x) in_sum ls l t = count-exact u ls l f x t
  inner-exact (m.Counted f x k) in_sum ls l t = counted-exact u ls l f x k t
  inner-exact (m.Component x) in_sum ls l t = component-exact u ls l x t
  inner-exact (m.Components x k) in_sum ls l t = components-exact u ls l x k t
  inner-exact (m.Through x k bs) in_sum ls l t = through-exact u ls l x k bs t
  inner-exact (m.Passed x k bs) in_sum ls l t = passed-exact u ls l x k bs t

  -- The text ends in a sum.
  abbrev pub Finishes : Mode → List Level → Level → Option Statement → Type 0
  Finishes mode ls l None = (out : Statement) → Accepts u mode ls l [] out → ⊥
  Finishes mode ls l (Some x) = Accepts u mode ls l [] x × ((out : Statement) → Accepts u mode ls l [] out → x ≡ out)

  after-finishes : (ls : List Level) (l : Level) → Finishes m.After ls l (inner_end u m.After ls l)
  after-finishes [] l = (closes-after u [] l [] _ (Bottom-alive u (value_of l)), λ out h. Bottom-only (after-end u [] l out h))
  after-finishes (k ∷ ls) l = after-open u ls k l

  inner-finishes : (mode : Mode) → IsInSum mode → (ls : List Level) (l : Level) → Finishes mode ls l (inner_end u mode ls l)
  inner-finishes m.First in_sum ls l = absurd in_sum
  inner-finishes (m.Word w) in_sum ls l = absurd in_sum
  inner-finishes m.Start in_sum ls l = λ out (r, x, here, h). no-sum here
  inner-finishes m.Operand in_sum ls l = λ out (r, x, here, h). elim here [ ]
  inner-finishes m.After in_sum ls l = after-finishes ls l
  inner-finishes (m.Opens c) in_sum ls l = λ out h. elim h [ ]
  inner-finishes (m.Basis b) in_sum ls l = λ out h. elim h [ ]
  inner-finishes (m.List k) in_sum ls l = λ out (r, (q, here, i), h). no-list here
  inner-finishes (m.Item k) in_sum ls l = λ out (r, (q, here, i), h). no-items refl here
  inner-finishes (m.Behind k) in_sum ls l = λ out (r, (q, here, i), h). elim here [ ]
  inner-finishes (m.Count f x) in_sum ls l = λ out h. elim h [ ]
  inner-finishes (m.Counted f x k) in_sum ls l = λ out h. elim h [ ]
  inner-finishes (m.Component x) in_sum ls l = λ out h. elim h [ ]
  inner-finishes (m.Components x k) in_sum ls l = λ out h. elim h [ ]
  inner-finishes (m.Through x k bs) in_sum ls l = λ out (r, more, here, h). elim here [ ]
  inner-finishes (m.Passed x k bs) in_sum ls l = λ out (r, more, here, h). elim here [ ]

word-alone : (w : Lexeme) (out : Statement) → IsStatement (w ∷ []) out → Start base.Plain [] (w ∷ []) out
word-alone w out (print {x = x} h) = ([], x, h, prints)
word-alone w out (equal {r = r} {x = x} h i) = (lex.Equals ∷ r, x, h, equals i)

-- what a state reads, by the state
abbrev pub Reads : State → List Lexeme → Statement → Type 0
Reads q ts out = Accepts q.base q.mode q.below q.level ts out

-- a statement that begins with this is read on by the state
abbrev pub ReadsOn : (List Lexeme → Statement → Type 0) → Option State → Type 0
ReadsOn before None = (ts : List Lexeme) (out : Statement) → before ts out → ⊥
ReadsOn before (Some q) = (ts : List Lexeme) (out : Statement) → before ts out ↔ Reads q ts out

exact-reads-on : (u : Base) (mode : Mode) (ls : List Level) (l : Level) (t : Lexeme) (o : Option State) → Exact u mode ls l t o → ReadsOn (λ ts out. Accepts u mode ls l (t ∷ ts) out) o
exact-reads-on u mode ls l t None h = h
exact-reads-on u mode ls l t (Some q) h = h

-- The first two lexemes.
begins-sum : (ts : List Lexeme) (out : Statement) → Start base.Plain [] ts out → IsStatement ts out
begins-sum ts out (r, x, h, prints) = print h
begins-sum ts out (r, x, h, equals i) = equal h i

-- a statement that begins with no word is no assignment
no-word : (t : Lexeme) (ts : List Lexeme) (out : Statement) → is_word t ≡ false → IsStatement (t ∷ ts) out → Start base.Plain [] (t ∷ ts) out
no-word t ts out other (assign is h) = absurd (let q : is_some (word_of t) ≡ true = ap is_some is in cc)
no-word t ts out other (print {x = x} h) = ([], x, h, prints)
no-word t ts out other (equal {r = r} {x = x} h i) = (lex.Equals ∷ r, x, h, equals i)

sum-reads-on : (t : Lexeme) (o : Option State) → is_word t ≡ false → Exact base.Plain m.Start [] (fresh false) t o → ReadsOn (λ ts out. IsStatement (t ∷ ts) out) o
sum-reads-on t None other h = λ ts out w. h ts out (no-word t ts out other w)
sum-reads-on t (Some q) other h = λ ts out. (λ w. (h ts out).0 (no-word t ts out other w), λ w. begins-sum (t ∷ ts) out ((h ts out).1 w))

first-at : (t : Lexeme) (b : Bool) → is_word t ≡ b → ReadsOn (λ ts out. IsStatement (t ∷ ts) out) (if b then Some (record { base = base.Plain; mode = m.Word t; below = []; level = fresh false }) else start_step base.Plain [] t)
first-at t true is = λ ts out. (λ h. h, λ h. h)
first-at t false is = sum-reads-on t (start_step base.Plain [] t) is (start-exact base.Plain [] (fresh false) t)

-- Two lexemes of a sum.
abbrev pub StartsWith : Lexeme → Lexeme → List Lexeme → Statement → Type 0
StartsWith w t ts out = Start base.Plain [] (w ∷ t ∷ ts) out

two-behind : (w t : Lexeme) (q : State) (o : Option State) → ((ts : List Lexeme) (out : Statement) → Start base.Plain [] (w ∷ ts) out ↔ Reads q ts out) → Exact q.base q.mode q.below q.level t o → ReadsOn (StartsWith w t) o
two-behind w t q None one h = λ ts out x. h ts out ((one (t ∷ ts) out).0 x)
two-behind w t q (Some p) one h = λ ts out. (λ x. (h ts out).0 ((one (t ∷ ts) out).0 x), λ x. (one (t ∷ ts) out).1 ((h ts out).1 x))

two-of : (w t : Lexeme) (o : Option State) → AllInSum o → Exact base.Plain m.Start [] (fresh false) w o → ReadsOn (StartsWith w t) (and_then o t)
two-of w t None in_sum h = λ ts out x. h (t ∷ ts) out x
two-of w t (Some q) in_sum h = two-behind w t q (inner_step q.base q.mode q.below q.level t) h (inner-exact q.base q.mode in_sum q.below q.level t)

two : (w t : Lexeme) → ReadsOn (StartsWith w t) (and_then (start_step base.Plain [] w) t)
two w t = two-of w t (start_step base.Plain [] w) (start-in-sum base.Plain [] w) (start-exact base.Plain [] (fresh false) w)

-- `:=` behind a word.
no-assign : (w : Lexeme) (ts : List Lexeme) (out : Statement) → is_word w ≡ true → StartsWith w lex.Assign ts out → ⊥
no-assign (lex.Name n) ts out is h = two (lex.Name n) lex.Assign ts out h
no-assign (lex.Reserved n) ts out is h = two (lex.Reserved n) lex.Assign ts out h
no-assign (lex.Basis b) ts out is h = two (lex.Basis b) lex.Assign ts out h
no-assign (lex.Linear f) ts out is h = two (lex.Linear f) lex.Assign ts out h
no-assign lex.Pair ts out is h = two lex.Pair lex.Assign ts out h
no-assign lex.Along ts out is h = two lex.Along lex.Assign ts out h
no-assign w ts out is h = absurd (cc)

assigned : (w : Lexeme) (name : List ℕ) (ts : List Lexeme) (out : Statement) → word_of w ≡ Some name → (StartsWith w lex.Assign ts out → ⊥) → IsStatement (w ∷ lex.Assign ∷ ts) out → Start (base.Assigned name) [] ts out
assigned w name ts out is none (assign {w = other} {x = x} at h) =
    let same : other ≡ name = cc in
    ([], x, h, subst (λ (n : List ℕ). Bottom (base.Assigned name) x [] (s.Assign n x)) (sym same) assigns)
assigned w name ts out is none (print {x = x} h) = absurd (none ([], x, h, prints))
assigned w name ts out is none (equal {r = r} {x = x} h i) = absurd (none (lex.Equals ∷ r, x, h, equals i))

assign-back : (w : Lexeme) (name : List ℕ) (ts : List Lexeme) (out : Statement) → word_of w ≡ Some name → Start (base.Assigned name) [] ts out → IsStatement (w ∷ lex.Assign ∷ ts) out
assign-back w name ts out is (r, x, h, assigns) = assign is h

assign-reads-on : (w : Lexeme) (o : Option (List ℕ)) → word_of w ≡ o → is_some o ≡ true → ((ts : List Lexeme) (out : Statement) → StartsWith w lex.Assign ts out → ⊥) → ReadsOn (λ ts out. IsStatement (w ∷ lex.Assign ∷ ts) out) (assign_step o)
assign-reads-on w None is some none = absurd (cc)
assign-reads-on w (Some name) is some none = λ ts out. (assigned w name ts out is (none ts out), assign-back w name ts out is)

abbrev pub IsAssign : Lexeme → Type 0
IsAssign lex.Assign = Unit {0}
IsAssign _ = ⊥

not-assigned : (w t : Lexeme) (ts : List Lexeme) (out : Statement) → (IsAssign t → ⊥) → IsStatement (w ∷ t ∷ ts) out → StartsWith w t ts out
not-assigned w t ts out none (assign is h) = absurd (none tt)
not-assigned w t ts out none (print {x = x} h) = ([], x, h, prints)
not-assigned w t ts out none (equal {r = r} {x = x} h i) = (lex.Equals ∷ r, x, h, equals i)

second-at : (w t : Lexeme) (o : Option State) → (IsAssign t → ⊥) → ReadsOn (StartsWith w t) o → ReadsOn (λ ts out. IsStatement (w ∷ t ∷ ts) out) o
second-at w t None none h = λ ts out x. h ts out (not-assigned w t ts out none x)
second-at w t (Some q) none h = λ ts out. (λ x. (h ts out).0 (not-assigned w t ts out none x), λ x. begins-sum (w ∷ t ∷ ts) out ((h ts out).1 x))

second : (w t : Lexeme) → is_word w ≡ true → ReadsOn (λ ts out. IsStatement (w ∷ t ∷ ts) out) (word_step w t)
second w lex.Assign is = assign-reads-on w (word_of w) refl is (λ ts out. no-assign w ts out is)
second w t is = second-at w t (and_then (start_step base.Plain [] w) t) (λ h. h) (two w t)

-- A step is exact.
step-in-exact : (mode : Mode) (q : State) (t : Lexeme) → IsFine mode → ReadsOn (λ ts out. Accepts q.base mode q.below q.level (t ∷ ts) out) (step_in mode q t)
step-in-exact m.First q t fine = first-at t (is_word t) refl
step-in-exact (m.Word w) q t fine = second w t fine
step-in-exact mode q t fine = exact-reads-on q.base mode q.below q.level t (inner_step q.base mode q.below q.level t) (inner-exact q.base mode tt q.below q.level t)

pub step-exact : (q : State) (t : Lexeme) → IsFine q.mode → ReadsOn (λ ts out. Reads q (t ∷ ts) out) (step q t)
step-exact q t fine = step-in-exact q.mode q t fine

-- Where the text ends, a state reads one statement, or none.
abbrev pub EndsIn : (Statement → Type 0) → Option Statement → Type 0
EndsIn reads None = (out : Statement) → reads out → ⊥
EndsIn reads (Some x) = reads x × ((out : Statement) → reads out → x ≡ out)

nothing-only : (out : Statement) → IsStatement [] out → s.Empty ≡ out
nothing-only out nothing = refl
nothing-only out (print h) = absurd (no-sum h)
nothing-only out (equal h i) = absurd (no-sum h)

word-ends-at : (w : Lexeme) (q : State) (o : Option Statement) → is_word w ≡ true → ((ts : List Lexeme) (out : Statement) → Start base.Plain [] (w ∷ ts) out ↔ Reads q ts out) → Finishes q.base q.mode q.below q.level o → EndsIn (λ out. IsStatement (w ∷ []) out) o
word-ends-at w q None is one h = λ out x. h out ((one [] out).0 (word-alone w out x))
word-ends-at w q (Some x) is one h = (begins-sum (w ∷ []) x ((one [] x).1 h.0), λ out y. h.1 out ((one [] out).0 (word-alone w out y)))

word-ends-of : (w : Lexeme) (o : Option State) → is_word w ≡ true → AllInSum o → Exact base.Plain m.Start [] (fresh false) w o → EndsIn (λ out. IsStatement (w ∷ []) out) (end_of o)
word-ends-of w None is in_sum h = λ out x. h [] out (word-alone w out x)
word-ends-of w (Some q) is in_sum h = word-ends-at w q (inner_end q.base q.mode q.below q.level) is h (inner-finishes q.base q.mode in_sum q.below q.level)

inner-ends-in : (u : Base) (mode : Mode) (ls : List Level) (l : Level) (o : Option Statement) → Finishes u mode ls l o → EndsIn (λ out. Accepts u mode ls l [] out) o
inner-ends-in u mode ls l None h = h
inner-ends-in u mode ls l (Some x) h = h

finish-in-exact : (mode : Mode) (q : State) → IsFine mode → EndsIn (λ out. Accepts q.base mode q.below q.level [] out) (finish_in mode q)
finish-in-exact m.First q fine = (nothing, nothing-only)
finish-in-exact (m.Word w) q fine = word-ends-of w (start_step base.Plain [] w) fine (start-in-sum base.Plain [] w) (start-exact base.Plain [] (fresh false) w)
finish-in-exact mode q fine = inner-ends-in q.base mode q.below q.level (inner_end q.base mode q.below q.level) (inner-finishes q.base mode tt q.below q.level)

pub finish-exact : (q : State) → IsFine q.mode → EndsIn (λ out. Reads q [] out) (finish q)
finish-exact q fine = finish-in-exact q.mode q fine
