-- Steps behind operands, at operands and at sums.
use Rattle.std.proofs.Common.{◌≡◌, ℕ, true, false, List, [], ◌∷◌, Option, Some, None, refl, sym, subst, append_assoc, ◌↔◌}
use Rattle.std.proofs.lemmas.List.{append-nil}
use Rattle.basis_names.specs.declared.bases.BasisId.{BasisId}
use Rattle.session_grammar.specs.declared.expression.Expr.{Expr}
use Rattle.session_grammar.specs.declared.expression.Factor.{Factor}
use Rattle.session_tokens.specs.declared.lexeme.Linear.{Linear}
use Rattle.session_grammar.specs.declared.expression.Signed.{Signed}
use Rattle.session_grammar.specs.declared.expression.Statement.{Statement}
use Rattle.session_tokens.specs.declared.lexeme.Lexeme.{Lexeme}
use Rattle.session_grammar.specs.declared.state.Base.{Base}
use Rattle.session_grammar.specs.declared.state.Call.{Call}
use Rattle.session_grammar.specs.declared.state.Level.{Level}
use Rattle.session_grammar.specs.declared.state.Map.{Map}
use Rattle.session_grammar.specs.Grammar.{Ending, bare, numbered, Atom, number, named, element, convert, apply, pair, along, group, Factors, no_factors, times, over, product, Products, no_products, hash, tensor, Tensors, no_tensors, plus, minus, sum, negative, factor, signed, product_of, tensor_of}
use Rattle.session_grammar.specs.ParserSteps.{State, push, whole, value_of, fresh, next_tensor, next_part, calling, mapped, close_in, close_step, comma_in, comma_step, equals_step, after_step, operand_step, start_step}
use Rattle.session_grammar.proofs.Accepted.{Ends, group_ends, map_ends, pair_goes, pair_ends, along_goes, Rest, Bottom, equals, compares, Closes, After, Operand, Start, next, next_number, BehindName, with_list, with_bracket, Accepts, Exact}
use Rattle.session_grammar.specs.declared.expression.Expr.TheVariants as e
use Rattle.session_tokens.specs.declared.lexeme.Lexeme.TheVariants as lex
use Rattle.session_grammar.specs.declared.state.Base.TheVariants as base
use Rattle.session_grammar.specs.declared.state.Call.TheVariants as call
use Rattle.session_grammar.specs.declared.state.Map.TheVariants as map
use Rattle.session_grammar.specs.declared.state.Mode.TheVariants as m

-- What may stand in front.
abbrev pub IsTimes : Lexeme → Type 0
IsTimes lex.Times = Unit {0}
IsTimes lex.Over = Unit {0}
IsTimes _ = ⊥

abbrev pub IsHash : Lexeme → Type 0
IsHash lex.Hash = Unit {0}
IsHash _ = ⊥

abbrev pub IsPlus : Lexeme → Type 0
IsPlus lex.Plus = Unit {0}
IsPlus lex.Minus = Unit {0}
IsPlus _ = ⊥

-- what may follow a whole sum
abbrev pub IsClosing : Lexeme → Type 0
IsClosing lex.Close = Unit {0}
IsClosing lex.Comma = Unit {0}
IsClosing lex.Equals = Unit {0}
IsClosing _ = ⊥

Ending-first : {t : Lexeme} {ts r : List Lexeme} {k : Option ℕ} → Ending (t ∷ ts) r k → IsClosing t
Ending-first bare = tt
Ending-first numbered = tt

Ends-first : {c : Call} {x y : Expr} {t : Lexeme} {ts r : List Lexeme} → Ends c x (t ∷ ts) r y → IsClosing t
Ends-first group_ends = tt
Ends-first (map_ends h) = Ending-first h
Ends-first (pair_goes h) = tt
Ends-first pair_ends = tt
Ends-first (along_goes h) = tt

Bottom-first : {u : Base} {x : Expr} {t : Lexeme} {ts : List Lexeme} {out : Statement} → Bottom u x (t ∷ ts) out → IsClosing t
Bottom-first (equals h) = tt

Bottom-close : {u : Base} {x : Expr} {ts : List Lexeme} {out : Statement} → Bottom u x (lex.Close ∷ ts) out → ⊥
Bottom-close h = elim h [ ]

Bottom-comma : {u : Base} {x : Expr} {ts : List Lexeme} {out : Statement} → Bottom u x (lex.Comma ∷ ts) out → ⊥
Bottom-comma h = elim h [ ]

Ends-equals : {c : Call} {x y : Expr} {ts r : List Lexeme} → Ends c x (lex.Equals ∷ ts) r y → ⊥
Ends-equals (map_ends h) = elim h [ ]

Ends-nothing : {c : Call} {x y : Expr} {r : List Lexeme} → Ends c x [] r y → ⊥
Ends-nothing (map_ends h) = elim h [ ]

bottom-right : {x : Expr} {ts : List Lexeme} {out : Statement} → Bottom base.Plain x (lex.Equals ∷ ts) out → Start (base.Right x) [] ts out
bottom-right (equals {y = y} h) = ([], y, h, compares)

right-bottom : {x : Expr} (ts : List Lexeme) (out : Statement) → Start (base.Right x) [] ts out → Bottom base.Plain x (lex.Equals ∷ ts) out
right-bottom ts out (r, y, h, compares) = equals h

bottom-assigned : {w : List ℕ} {x : Expr} {ts : List Lexeme} {out : Statement} → Bottom (base.Assigned w) x (lex.Equals ∷ ts) out → ⊥
bottom-assigned h = elim h [ ]

bottom-compared : {z x : Expr} {ts : List Lexeme} {out : Statement} → Bottom (base.Right z) x (lex.Equals ∷ ts) out → ⊥
bottom-compared h = elim h [ ]

pub Rest-call : {closes : Expr → List Lexeme → Statement → Type 0} {l : Level} {ts : List Lexeme} {out : Statement} (c : Call) → Rest closes l ts out → Rest closes (calling c l) ts out
Rest-call c h = record { a = h.a; b = h.b; c = h.c; fs = h.fs; es = h.es; ps = h.ps; factors = h.factors; products = h.products; tensors = h.tensors; closed = h.closed }

module _ (u : Base) where
  Closes-first : (ls : List Level) (x : Expr) (t : Lexeme) (ts : List Lexeme) (out : Statement) → Closes u ls x (t ∷ ts) out → IsClosing t
  Closes-first [] x t ts out h = Bottom-first h
  Closes-first (l ∷ ls) x t ts out h = Ends-first h.2

  -- Operators.
  after-times-cases : (ls : List Level) (l : Level) {ts a b c : List Lexeme} {fs : List Factor} {es : List Expr} {ps : List Signed} (out : Statement)
      → Factors (lex.Times ∷ ts) a fs → Products a b es → Tensors b c ps → Closes u ls (whole l fs es ps) c out → Operand u ls (record l { divides = false }) ts out
  after-times-cases ls l out no_factors no_products no_tensors h = absurd (Closes-first ls _ _ _ _ h)
  after-times-cases ls l out (times {s = s} {x = x} {fs = fs} here more) p q h =
      (s, x, here, record { a = _; b = _; c = _; fs = fs; es = _; ps = _; factors = more; products = p; tensors = q; closed = rw append_assoc h })

  times-after : (ls : List Level) (l : Level) (ts : List Lexeme) (out : Statement) → Operand u ls (record l { divides = false }) ts out → After u ls l (lex.Times ∷ ts) out
  times-after ls l ts out (r, x, here, h) =
      record { a = h.a; b = h.b; c = h.c; fs = factor false x ∷ h.fs; es = h.es; ps = h.ps; factors = times here h.factors; products = h.products; tensors = h.tensors; closed = rw append_assoc at h.closed }

  after-over-cases : (ls : List Level) (l : Level) {ts a b c : List Lexeme} {fs : List Factor} {es : List Expr} {ps : List Signed} (out : Statement)
      → Factors (lex.Over ∷ ts) a fs → Products a b es → Tensors b c ps → Closes u ls (whole l fs es ps) c out → Operand u ls (record l { divides = true }) ts out
  after-over-cases ls l out no_factors no_products no_tensors h = absurd (Closes-first ls _ _ _ _ h)
  after-over-cases ls l out (over {s = s} {x = x} {fs = fs} here more) p q h =
      (s, x, here, record { a = _; b = _; c = _; fs = fs; es = _; ps = _; factors = more; products = p; tensors = q; closed = rw append_assoc h })

  over-after : (ls : List Level) (l : Level) (ts : List Lexeme) (out : Statement) → Operand u ls (record l { divides = true }) ts out → After u ls l (lex.Over ∷ ts) out
  over-after ls l ts out (r, x, here, h) =
      record { a = h.a; b = h.b; c = h.c; fs = factor true x ∷ h.fs; es = h.es; ps = h.ps; factors = over here h.factors; products = h.products; tensors = h.tensors; closed = rw append_assoc at h.closed }

  after-hash-cases : (ls : List Level) (l : Level) {ts a b c : List Lexeme} {fs : List Factor} {es : List Expr} {ps : List Signed} (out : Statement)
      → Factors (lex.Hash ∷ ts) a fs → Products a b es → Tensors b c ps → Closes u ls (whole l fs es ps) c out → Operand u ls (next_tensor l) ts out
  after-hash-cases ls l out no_factors no_products no_tensors h = absurd (Closes-first ls _ _ _ _ h)
  after-hash-cases ls l out no_factors (hash {es = es} (product {s = s} {x = x} {fs = fs} here more) p) q h =
      (s, x, here, record { a = _; b = _; c = _; fs = fs; es = es; ps = _; factors = more; products = p; tensors = q; closed = rw append_assoc (rw append-nil at h) })

  hash-after : (ls : List Level) (l : Level) (ts : List Lexeme) (out : Statement) → Operand u ls (next_tensor l) ts out → After u ls l (lex.Hash ∷ ts) out
  hash-after ls l ts out (r, x, here, h) =
      record { a = _; b = h.b; c = h.c; fs = []; es = product_of (factor false x ∷ h.fs) ∷ h.es; ps = h.ps; factors = no_factors; products = hash (product here h.factors) h.products; tensors = h.tensors; closed = rw append-nil (rw append_assoc at h.closed) }

  after-plus-cases : (ls : List Level) (l : Level) {ts a b c : List Lexeme} {fs : List Factor} {es : List Expr} {ps : List Signed} (out : Statement)
      → Factors (lex.Plus ∷ ts) a fs → Products a b es → Tensors b c ps → Closes u ls (whole l fs es ps) c out → Operand u ls (next_part false l) ts out
  after-plus-cases ls l out no_factors no_products no_tensors h = absurd (Closes-first ls _ _ _ _ h)
  after-plus-cases ls l out no_factors no_products (plus {ps = ps} (tensor {es = es} (product {s = s} {x = x} {fs = fs} here more) p) q) h =
      (s, x, here, record { a = _; b = _; c = _; fs = fs; es = es; ps = ps; factors = more; products = p; tensors = q; closed = rw append_assoc (rw append-nil at h) })

  plus-after : (ls : List Level) (l : Level) (ts : List Lexeme) (out : Statement) → Operand u ls (next_part false l) ts out → After u ls l (lex.Plus ∷ ts) out
  plus-after ls l ts out (r, x, here, h) =
      record { a = _; b = _; c = h.c; fs = []; es = []; ps = signed false (tensor_of (product_of (factor false x ∷ h.fs) ∷ h.es)) ∷ h.ps; factors = no_factors; products = no_products; tensors = plus (tensor (product here h.factors) h.products) h.tensors; closed = rw append-nil (rw append_assoc at h.closed) }

  after-minus-cases : (ls : List Level) (l : Level) {ts a b c : List Lexeme} {fs : List Factor} {es : List Expr} {ps : List Signed} (out : Statement)
      → Factors (lex.Minus ∷ ts) a fs → Products a b es → Tensors b c ps → Closes u ls (whole l fs es ps) c out → Operand u ls (next_part true l) ts out
  after-minus-cases ls l out no_factors no_products no_tensors h = absurd (Closes-first ls _ _ _ _ h)
  after-minus-cases ls l out no_factors no_products (minus {ps = ps} (tensor {es = es} (product {s = s} {x = x} {fs = fs} here more) p) q) h =
      (s, x, here, record { a = _; b = _; c = _; fs = fs; es = es; ps = ps; factors = more; products = p; tensors = q; closed = rw append_assoc (rw append-nil at h) })

  minus-after : (ls : List Level) (l : Level) (ts : List Lexeme) (out : Statement) → Operand u ls (next_part true l) ts out → After u ls l (lex.Minus ∷ ts) out
  minus-after ls l ts out (r, x, here, h) =
      record { a = _; b = _; c = h.c; fs = []; es = []; ps = signed true (tensor_of (product_of (factor false x ∷ h.fs) ∷ h.es)) ∷ h.ps; factors = no_factors; products = no_products; tensors = minus (tensor (product here h.factors) h.products) h.tensors; closed = rw append-nil (rw append_assoc at h.closed) }

  -- Any other lexeme stands behind the whole sum.
  after-other-cases : (ls : List Level) (l : Level) (t : Lexeme) {ts a b c : List Lexeme} {fs : List Factor} {es : List Expr} {ps : List Signed} (out : Statement)
      → (IsTimes t → ⊥) → (IsHash t → ⊥) → (IsPlus t → ⊥)
      → Factors (t ∷ ts) a fs → Products a b es → Tensors b c ps → Closes u ls (whole l fs es ps) c out → Closes u ls (value_of l) (t ∷ ts) out
  after-other-cases ls l t out nt nh np no_factors no_products no_tensors h = h
  after-other-cases ls l t out nt nh np (times x y) p q h = absurd (nt tt)
  after-other-cases ls l t out nt nh np (over x y) p q h = absurd (nt tt)
  after-other-cases ls l t out nt nh np no_factors (hash x y) q h = absurd (nh tt)
  after-other-cases ls l t out nt nh np no_factors no_products (plus x y) h = absurd (np tt)
  after-other-cases ls l t out nt nh np no_factors no_products (minus x y) h = absurd (np tt)

  after-other : (ls : List Level) (l : Level) (t : Lexeme) (ts : List Lexeme) (out : Statement) → (IsTimes t → ⊥) → (IsHash t → ⊥) → (IsPlus t → ⊥)
      → After u ls l (t ∷ ts) out → Closes u ls (value_of l) (t ∷ ts) out
  after-other ls l t ts out nt nh np h = after-other-cases ls l t out nt nh np h.factors h.products h.tensors h.closed

  pub closes-after : (ls : List Level) (l : Level) (ts : List Lexeme) (out : Statement) → Closes u ls (value_of l) ts out → After u ls l ts out
  closes-after ls l ts out h =
      record { a = ts; b = ts; c = ts; fs = []; es = []; ps = []; factors = no_factors; products = no_products; tensors = no_tensors; closed = h }

  after-dead : (ls : List Level) (l : Level) (t : Lexeme) (ts : List Lexeme) (out : Statement) → (IsTimes t → ⊥) → (IsHash t → ⊥) → (IsPlus t → ⊥) → (IsClosing t → ⊥) → After u ls l (t ∷ ts) out → ⊥
  after-dead ls l t ts out nt nh np nc h = nc (Closes-first ls _ _ _ _ (after-other ls l t ts out nt nh np h))

  -- The end of the text.
  after-end-cases : (ls : List Level) (l : Level) {a b c : List Lexeme} {fs : List Factor} {es : List Expr} {ps : List Signed} (out : Statement)
      → Factors [] a fs → Products a b es → Tensors b c ps → Closes u ls (whole l fs es ps) c out → Closes u ls (value_of l) [] out
  after-end-cases ls l out no_factors no_products no_tensors h = h

  pub after-end : (ls : List Level) (l : Level) (out : Statement) → After u ls l [] out → Closes u ls (value_of l) [] out
  after-end ls l out h = after-end-cases ls l out h.factors h.products h.tensors h.closed

  pub after-open : (ls : List Level) (k l : Level) (out : Statement) → After u (k ∷ ls) l [] out → ⊥
  after-open ls k l out h = Ends-nothing (after-end (k ∷ ls) l out h).2

  -- The bracket of a call, behind its first value.
  abbrev pub Closing : Call → List Level → Level → Expr → List Lexeme → Statement → Type 0
  Closing c ls l x ts out = (r : List Lexeme) × (y : Expr) × Ends c x ts r y × Rest (Closes u ls) (push y l) r out

  abbrev pub ClosingExact : Call → List Level → Level → Expr → Lexeme → Option State → Type 0
  ClosingExact c ls l x t None = (ts : List Lexeme) (out : Statement) → Closing c ls l x (t ∷ ts) out → ⊥
  ClosingExact c ls l x t (Some q) = (ts : List Lexeme) (out : Statement) → Closing c ls l x (t ∷ ts) out ↔ Accepts q.base q.mode q.below q.level ts out

  close-group : (ls : List Level) (l : Level) (x : Expr) (ts : List Lexeme) (out : Statement) → Closing call.Group ls l x (lex.Close ∷ ts) out → After u ls (push x l) ts out
  close-group ls l x ts out (r, y, group_ends, h) = h

  close-map : (f : Map) (ls : List Level) (l : Level) (x : Expr) (ts : List Lexeme) (out : Statement) → Closing (call.Mapped f) ls l x (lex.Close ∷ ts) out → After u ls (push (mapped f x None) l) ts out
  close-map f ls l x ts out (r, y, map_ends bare, h) = h

  close-pair : (w : Expr) (ls : List Level) (l : Level) (x : Expr) (ts : List Lexeme) (out : Statement) → Closing (call.Second w) ls l x (lex.Close ∷ ts) out → After u ls (push (e.Pair w x) l) ts out
  close-pair w ls l x ts out (r, y, pair_ends, h) = h

  no-close-first : {x y : Expr} {ts r : List Lexeme} → Ends call.First x (lex.Close ∷ ts) r y → ⊥
  no-close-first h = elim h [ ]

  no-close-along : {x y : Expr} {ts r : List Lexeme} → Ends call.Along x (lex.Close ∷ ts) r y → ⊥
  no-close-along h = elim h [ ]

  close-in-exact : (c : Call) (ls : List Level) (l : Level) (x : Expr) → ClosingExact c ls l x lex.Close (close_in u c ls l x)
  close-in-exact call.Group ls l x = λ ts out. (close-group ls l x ts out, λ h. (ts, x, group_ends, h))
  close-in-exact (call.Mapped f) ls l x = λ ts out. (close-map f ls l x ts out, λ h. (ts, mapped f x None, map_ends bare, h))
  close-in-exact (call.Second w) ls l x = λ ts out. (close-pair w ls l x ts out, λ h. (ts, e.Pair w x, pair_ends, h))
  close-in-exact call.First ls l x = λ ts out h. no-close-first h.2
  close-in-exact call.Along ls l x = λ ts out h. no-close-along h.2

  comma-map : (f : Map) (ls : List Level) (l : Level) (x : Expr) (ts : List Lexeme) (out : Statement) → Closing (call.Mapped f) ls l x (lex.Comma ∷ ts) out → Accepts u (m.Count f x) ls l ts out
  comma-map f ls l x ts out (r, y, map_ends numbered, h) = next_number (next h)

  map-comma : (f : Map) (ls : List Level) (l : Level) (x : Expr) (ts : List Lexeme) (out : Statement) → Accepts u (m.Count f x) ls l ts out → Closing (call.Mapped f) ls l x (lex.Comma ∷ ts) out
  map-comma f ls l x ts out (next_number (next h)) = (_, _, map_ends numbered, h)

  comma-pair : (ls : List Level) (l : Level) (x : Expr) (ts : List Lexeme) (out : Statement) → Closing call.First ls l x (lex.Comma ∷ ts) out → Start u (calling (call.Second x) l ∷ ls) ts out
  comma-pair ls l x ts out (r, y, pair_goes {y = z} there, h) = (lex.Close ∷ r, z, there, (r, e.Pair x z, pair_ends, Rest-call call.Group h))

  pair-comma : (ls : List Level) (l : Level) (x : Expr) (ts : List Lexeme) (out : Statement) → Start u (calling (call.Second x) l ∷ ls) ts out → Closing call.First ls l x (lex.Comma ∷ ts) out
  pair-comma ls l x ts out (q, z, there, (r, y, pair_ends, h)) = (r, e.Pair x z, pair_goes there, Rest-call l.call h)

  comma-along : (ls : List Level) (l : Level) (x : Expr) (ts : List Lexeme) (out : Statement) → Closing call.Along ls l x (lex.Comma ∷ ts) out → Accepts u (m.Component x) ls l ts out
  comma-along ls l x ts out (r, y, along_goes {bs = bs} there, h) = next_number (next (r, bs, there, h))

  along-comma : (ls : List Level) (l : Level) (x : Expr) (ts : List Lexeme) (out : Statement) → Accepts u (m.Component x) ls l ts out → Closing call.Along ls l x (lex.Comma ∷ ts) out
  along-comma ls l x ts out (next_number (next (r, bs, there, h))) = (r, _, along_goes there, h)

  no-comma-group : {x y : Expr} {ts r : List Lexeme} → Ends call.Group x (lex.Comma ∷ ts) r y → ⊥
  no-comma-group h = elim h [ ]

  no-comma-second : {w x y : Expr} {ts r : List Lexeme} → Ends (call.Second w) x (lex.Comma ∷ ts) r y → ⊥
  no-comma-second h = elim h [ ]

  comma-in-exact : (c : Call) (ls : List Level) (l : Level) (x : Expr) → ClosingExact c ls l x lex.Comma (comma_in u c ls l x)
  comma-in-exact (call.Mapped f) ls l x = λ ts out. (comma-map f ls l x ts out, map-comma f ls l x ts out)
  comma-in-exact call.First ls l x = λ ts out. (comma-pair ls l x ts out, pair-comma ls l x ts out)
  comma-in-exact call.Along ls l x = λ ts out. (comma-along ls l x ts out, along-comma ls l x ts out)
  comma-in-exact call.Group ls l x = λ ts out h. no-comma-group h.2
  comma-in-exact (call.Second w) ls l x = λ ts out h. no-comma-second h.2

  closing-exact : (k : Level) (ls : List Level) (l : Level) (t : Lexeme) (o : Option State) → (IsTimes t → ⊥) → (IsHash t → ⊥) → (IsPlus t → ⊥)
      → ClosingExact k.call ls (calling call.Group k) (value_of l) t o → Exact u m.After (k ∷ ls) l t o
  closing-exact k ls l t None nt nh np h = λ ts out w. h ts out (after-other (k ∷ ls) l t ts out nt nh np w)
  closing-exact k ls l t (Some q) nt nh np h = λ ts out. (
    (λ w. (h ts out).0 (after-other (k ∷ ls) l t ts out nt nh np w)),
    (λ w. closes-after (k ∷ ls) l (t ∷ ts) out ((h ts out).1 w)),
  )

  close-exact : (ls : List Level) (l : Level) → Exact u m.After ls l lex.Close (close_step u ls l)
  close-exact [] l = λ ts out h. Bottom-close (after-other [] l lex.Close ts out (λ w. w) (λ w. w) (λ w. w) h)
  close-exact (k ∷ ls) l = closing-exact k ls l lex.Close _ (λ w. w) (λ w. w) (λ w. w) (close-in-exact k.call ls (calling call.Group k) (value_of l))

  comma-exact : (ls : List Level) (l : Level) → Exact u m.After ls l lex.Comma (comma_step u ls l)
  comma-exact [] l = λ ts out h. Bottom-comma (after-other [] l lex.Comma ts out (λ w. w) (λ w. w) (λ w. w) h)
  comma-exact (k ∷ ls) l = closing-exact k ls l lex.Comma _ (λ w. w) (λ w. w) (λ w. w) (comma-in-exact k.call ls (calling call.Group k) (value_of l))

  equals-deep : (k : Level) (ls : List Level) (l : Level) (ts : List Lexeme) (out : Statement) → After u (k ∷ ls) l (lex.Equals ∷ ts) out → ⊥
  equals-deep k ls l ts out h = Ends-equals (after-other (k ∷ ls) l lex.Equals ts out (λ w. w) (λ w. w) (λ w. w) h).2

  equals-bottom : (l : Level) (v : Base) (ts : List Lexeme) (out : Statement) → u ≡ v → After u [] l (lex.Equals ∷ ts) out → Bottom v (value_of l) (lex.Equals ∷ ts) out
  equals-bottom l v ts out is h = subst (λ (w : Base). Bottom w (value_of l) (lex.Equals ∷ ts) out) is (after-other [] l lex.Equals ts out (λ w. w) (λ w. w) (λ w. w) h)

  equals-exact : (ls : List Level) (l : Level) (v : Base) → u ≡ v → Exact u m.After ls l lex.Equals (equals_step v ls l)
  equals-exact [] l base.Plain is = λ ts out. (
    (λ h. bottom-right (equals-bottom l base.Plain ts out is h)),
    (λ h. closes-after [] l _ _ (subst (λ (w : Base). Bottom w (value_of l) (lex.Equals ∷ ts) out) (sym is) (right-bottom ts out h))),
  )
  equals-exact [] l (base.Assigned w) is = λ ts out h. bottom-assigned (equals-bottom l (base.Assigned w) ts out is h)
  equals-exact [] l (base.Right x) is = λ ts out h. bottom-compared (equals-bottom l (base.Right x) ts out is h)
  equals-exact (k ∷ ls) l base.Plain is = equals-deep k ls l
  equals-exact (k ∷ ls) l (base.Assigned w) is = equals-deep k ls l
  equals-exact (k ∷ ls) l (base.Right x) is = equals-deep k ls l

  pub after-exact : (ls : List Level) (l : Level) (t : Lexeme) → Exact u m.After ls l t (after_step u ls l t)
  after-exact ls l lex.Times = λ ts out. (λ h. after-times-cases ls l out h.factors h.products h.tensors h.closed, times-after ls l ts out)
  after-exact ls l lex.Over = λ ts out. (λ h. after-over-cases ls l out h.factors h.products h.tensors h.closed, over-after ls l ts out)
  after-exact ls l lex.Hash = λ ts out. (λ h. after-hash-cases ls l out h.factors h.products h.tensors h.closed, hash-after ls l ts out)
  after-exact ls l lex.Plus = λ ts out. (λ h. after-plus-cases ls l out h.factors h.products h.tensors h.closed, plus-after ls l ts out)
  after-exact ls l lex.Minus = λ ts out. (λ h. after-minus-cases ls l out h.factors h.products h.tensors h.closed, minus-after ls l ts out)
  after-exact ls l lex.Close = close-exact ls l
  after-exact ls l lex.Comma = comma-exact ls l
  after-exact ls l lex.Equals = equals-exact ls l u refl
  after-exact ls l t = λ ts out. after-dead ls l t ts out (λ h. h) (λ h. h) (λ h. h) (λ h. h)

  -- Operands.
  abbrev pub IsOperandStart : Lexeme → Type 0
  IsOperandStart (lex.Number n) = Unit {0}
  IsOperandStart (lex.Name w) = Unit {0}
  IsOperandStart (lex.Basis b) = Unit {0}
  IsOperandStart (lex.Linear f) = Unit {0}
  IsOperandStart lex.Pair = Unit {0}
  IsOperandStart lex.Along = Unit {0}
  IsOperandStart lex.Open = Unit {0}
  IsOperandStart _ = ⊥

  Atom-first : {t : Lexeme} {ts r : List Lexeme} {x : Expr} → Atom (t ∷ ts) r x → IsOperandStart t
  Atom-first number = tt
  Atom-first named = tt
  Atom-first (element h) = tt
  Atom-first (convert h i) = tt
  Atom-first (apply h i) = tt
  Atom-first (pair h i) = tt
  Atom-first (along h i) = tt
  Atom-first (group h) = tt

  operand-number : (ls : List Level) (l : Level) (n : ℕ) (ts : List Lexeme) (out : Statement) → Operand u ls l (lex.Number n ∷ ts) out → After u ls (push (e.Number n) l) ts out
  operand-number ls l n ts out (r, x, number, h) = h

  operand-name : (ls : List Level) (l : Level) (w : List ℕ) (ts : List Lexeme) (out : Statement) → Operand u ls l (lex.Name w ∷ ts) out → After u ls (push (e.Named w) l) ts out
  operand-name ls l w ts out (r, x, named, h) = h

  operand-basis : (ls : List Level) (l : Level) (b : BasisId) (ts : List Lexeme) (out : Statement) → Operand u ls l (lex.Basis b ∷ ts) out → BehindName u b ls l out ts
  operand-basis ls l b ts out (r, y, element there, h) = with_list there h
  operand-basis ls l b ts out (r, y, convert {s = s} {x = x} {k = k} there ends, h) = with_bracket (s, x, there, (r, y, map_ends ends, Rest-call call.Group h))

  basis-operand : (ls : List Level) (l : Level) (b : BasisId) (ts : List Lexeme) (out : Statement) → BehindName u b ls l out ts → Operand u ls l (lex.Basis b ∷ ts) out
  basis-operand ls l b ts out (with_list {r = r} there h) = (r, _, element there, h)
  basis-operand ls l b ts out (with_bracket (s, x, there, (r, y, map_ends ends, h))) = (r, _, convert there ends, Rest-call l.call h)

  operand-linear : (ls : List Level) (l : Level) (f : Linear) (ts : List Lexeme) (out : Statement) → Operand u ls l (lex.Linear f ∷ ts) out → Accepts u (m.Opens (call.Mapped (map.Linear f))) ls l ts out
  operand-linear ls l f ts out (r, y, apply {s = s} {x = x} {k = k} there ends, h) = next (s, x, there, (r, y, map_ends ends, Rest-call call.Group h))

  linear-operand : (ls : List Level) (l : Level) (f : Linear) (ts : List Lexeme) (out : Statement) → Accepts u (m.Opens (call.Mapped (map.Linear f))) ls l ts out → Operand u ls l (lex.Linear f ∷ ts) out
  linear-operand ls l f ts out (next (s, x, there, (r, y, map_ends ends, h))) = (r, _, apply there ends, Rest-call l.call h)

  operand-pair : (ls : List Level) (l : Level) (ts : List Lexeme) (out : Statement) → Operand u ls l (lex.Pair ∷ ts) out → Accepts u (m.Opens call.First) ls l ts out
  operand-pair ls l ts out (r, y, pair {s = s} {x = x} there behind, h) = next (lex.Comma ∷ s, x, there, (r, y, pair_goes behind, Rest-call call.Group h))

  pair-operand : (ls : List Level) (l : Level) (ts : List Lexeme) (out : Statement) → Accepts u (m.Opens call.First) ls l ts out → Operand u ls l (lex.Pair ∷ ts) out
  pair-operand ls l ts out (next (s, x, there, (r, y, pair_goes behind, h))) = (r, _, pair there behind, Rest-call l.call h)

  operand-along : (ls : List Level) (l : Level) (ts : List Lexeme) (out : Statement) → Operand u ls l (lex.Along ∷ ts) out → Accepts u (m.Opens call.Along) ls l ts out
  operand-along ls l ts out (r, y, along {s = s} {x = x} {k = k} there through, h) = next (lex.Comma ∷ lex.Number k ∷ lex.Comma ∷ s, x, there, (r, y, along_goes through, Rest-call call.Group h))

  along-operand : (ls : List Level) (l : Level) (ts : List Lexeme) (out : Statement) → Accepts u (m.Opens call.Along) ls l ts out → Operand u ls l (lex.Along ∷ ts) out
  along-operand ls l ts out (next (s, x, there, (r, y, along_goes through, h))) = (r, _, along there through, Rest-call l.call h)

  operand-group : (ls : List Level) (l : Level) (ts : List Lexeme) (out : Statement) → Operand u ls l (lex.Open ∷ ts) out → Start u (calling call.Group l ∷ ls) ts out
  operand-group ls l ts out (r, x, group there, h) = (lex.Close ∷ r, x, there, (r, x, group_ends, Rest-call call.Group h))

  group-operand : (ls : List Level) (l : Level) (ts : List Lexeme) (out : Statement) → Start u (calling call.Group l ∷ ls) ts out → Operand u ls l (lex.Open ∷ ts) out
  group-operand ls l ts out (s, x, there, (r, y, group_ends, h)) = (r, x, group there, Rest-call l.call h)

  pub operand-exact : (ls : List Level) (l : Level) (t : Lexeme) → Exact u m.Operand ls l t (operand_step u ls l t)
  operand-exact ls l (lex.Number n) = λ ts out. (operand-number ls l n ts out, λ h. (ts, e.Number n, number, h))
  operand-exact ls l (lex.Name w) = λ ts out. (operand-name ls l w ts out, λ h. (ts, e.Named w, named, h))
  operand-exact ls l (lex.Basis b) = λ ts out. (operand-basis ls l b ts out, basis-operand ls l b ts out)
  operand-exact ls l (lex.Linear f) = λ ts out. (operand-linear ls l f ts out, linear-operand ls l f ts out)
  operand-exact ls l lex.Pair = λ ts out. (operand-pair ls l ts out, pair-operand ls l ts out)
  operand-exact ls l lex.Along = λ ts out. (operand-along ls l ts out, along-operand ls l ts out)
  operand-exact ls l lex.Open = λ ts out. (operand-group ls l ts out, group-operand ls l ts out)
  operand-exact ls l t = λ ts out (r, x, there, h). Atom-first there

  -- Sums.
  start-minus : (ls : List Level) (ts : List Lexeme) (out : Statement) → Start u ls (lex.Minus ∷ ts) out → Operand u ls (fresh true) ts out
  start-minus ls ts out (r, x, negative (tensor (product {s = s} {x = y} here f) p) q, h) =
      (s, y, here, record { a = _; b = _; c = _; fs = _; es = _; ps = _; factors = f; products = p; tensors = q; closed = h })
  start-minus ls ts out (r, x, sum (tensor (product here f) p) q, h) = elim here [ ]

  minus-start : (ls : List Level) (ts : List Lexeme) (out : Statement) → Operand u ls (fresh true) ts out → Start u ls (lex.Minus ∷ ts) out
  minus-start ls ts out (r, x, here, h) = (h.c, _, negative (tensor (product here h.factors) h.products) h.tensors, h.closed)

  pub operand-start : (ls : List Level) (ts : List Lexeme) (out : Statement) → Operand u ls (fresh false) ts out → Start u ls ts out
  operand-start ls ts out (r, x, here, h) = (h.c, _, sum (tensor (product here h.factors) h.products) h.tensors, h.closed)

  abbrev pub IsMinus : Lexeme → Type 0
  IsMinus lex.Minus = Unit {0}
  IsMinus _ = ⊥

  start-other : (ls : List Level) (t : Lexeme) (ts : List Lexeme) (out : Statement) → (IsMinus t → ⊥) → Start u ls (t ∷ ts) out → Operand u ls (fresh false) (t ∷ ts) out
  start-other ls t ts out none (r, x, negative p q, h) = absurd (none tt)
  start-other ls t ts out none (r, x, sum (tensor (product {s = s} {x = y} here f) p) q, h) =
      (s, y, here, record { a = _; b = _; c = _; fs = _; es = _; ps = _; factors = f; products = p; tensors = q; closed = h })

  start-exact-at : (ls : List Level) (t : Lexeme) (o : Option State) → (IsMinus t → ⊥) → Exact u m.Operand ls (fresh false) t o → Exact u m.Start ls (fresh false) t o
  start-exact-at ls t None none h = λ ts out w. h ts out (start-other ls t ts out none w)
  start-exact-at ls t (Some q) none h = λ ts out. (λ w. (h ts out).0 (start-other ls t ts out none w), λ w. operand-start ls _ _ ((h ts out).1 w))

  pub start-exact : (ls : List Level) (l : Level) (t : Lexeme) → Exact u m.Start ls l t (start_step u ls t)
  start-exact ls l lex.Minus = λ ts out. (start-minus ls ts out, minus-start ls ts out)
  start-exact ls l t = start-exact-at ls t (operand_step u ls (fresh false) t) (λ h. h) (operand-exact ls (fresh false) t)
