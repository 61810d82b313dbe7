-- Steps behind the names of bases and of functions, and behind the operands of calls.
use Rattle.std.proofs.Common.{◌≡◌, ℕ, List, [], ◌∷◌, ◌++◌, refl, sym, ◌∙◌, ap, subst, append_assoc}
use Rattle.std.proofs.lemmas.List.{append-nil}
use Rattle.basis_names.specs.declared.bases.BasisId.{BasisId}
use Rattle.session_grammar.specs.declared.expression.Expr.{Expr}
use Rattle.session_grammar.specs.declared.expression.Statement.{Statement}
use Rattle.session_tokens.specs.declared.lexeme.Lexeme.{Lexeme}
use Rattle.session_grammar.specs.declared.state.Base.{Base}
use Rattle.session_grammar.specs.declared.state.Call.{Call}
use Rattle.session_grammar.specs.declared.state.Level.{Level}
use Rattle.session_grammar.specs.declared.state.Map.{Map}
use Rattle.session_grammar.specs.Grammar.{IsList, inside, component, Through, last_basis, one_basis}
use Rattle.session_grammar.specs.ListStates.{element_at}
use Rattle.session_grammar.specs.ParserSteps.{push, calling, basis_step, opens_step, count_step, counted_step, component_step, components_step, through_step, passed_step}
use Rattle.session_grammar.proofs.Accepted.{BehindBasis, bases_end, bases_go, After, Start, Next, next, NextNumber, next_number, BehindName, with_list, with_bracket, Accepts, Exact}
use Rattle.session_grammar.specs.declared.expression.Expr.TheVariants as e
use Rattle.session_tokens.specs.declared.lexeme.Lexeme.TheVariants as lex
use Rattle.session_grammar.specs.declared.state.Call.TheVariants as call
use Rattle.session_grammar.specs.declared.state.Map.TheVariants as map
use Rattle.session_grammar.specs.declared.state.Mode.TheVariants as m

-- What stands in front.
Next-first : {P : List Lexeme → Type 0} {t k : Lexeme} {ts : List Lexeme} → Next P t (k ∷ ts) → k ≡ t
Next-first (next h) = refl

Next-rest : {P : List Lexeme → Type 0} {t k : Lexeme} {ts : List Lexeme} → Next P t (k ∷ ts) → P ts
Next-rest (next h) = h

abbrev pub IsNumber : Lexeme → Type 0
IsNumber (lex.Number n) = Unit {0}
IsNumber _ = ⊥

NextNumber-first : {P : ℕ → List Lexeme → Type 0} {k : Lexeme} {ts : List Lexeme} → NextNumber P (k ∷ ts) → IsNumber k
NextNumber-first (next_number h) = tt

NextNumber-rest : {P : ℕ → List Lexeme → Type 0} {n : ℕ} {ts : List Lexeme} → NextNumber P (lex.Number n ∷ ts) → P n ts
NextNumber-rest (next_number h) = h

module _ (u : Base) (ls : List Level) (l : Level) where
  pub opens-exact : (c : Call) (t : Lexeme) → Exact u (m.Opens c) ls l t (opens_step u c ls l t)
  opens-exact c lex.Open = λ ts out. (λ h. Next-rest h, λ h. next h)
  opens-exact c t = λ ts out h. absurd (let q : t ≡ lex.Open = Next-first h in cc)

  basis-list : (b : BasisId) (ts : List Lexeme) (out : Statement) → BehindName u b ls l out (lex.LeftBracket ∷ ts)
      → (r : List Lexeme) × ((q : List Lexeme) × IsList ts q × (q ≡ r)) × After u ls (push (element_at b (inside 0 ts)) l) r out
  basis-list b ts out (with_list {r = r} here h) = (r, (r, here, refl), h)

  list-basis : (b : BasisId) (ts : List Lexeme) (out : Statement) (q r : List Lexeme) → IsList ts q → q ≡ r → After u ls (push (element_at b (inside 0 ts)) l) r out → BehindName u b ls l out (lex.LeftBracket ∷ ts)
  list-basis b ts out q r here is h = with_list (subst (λ (p : List Lexeme). IsList ts p) is here) h

  basis-bracket : (b : BasisId) (ts : List Lexeme) (out : Statement) → BehindName u b ls l out (lex.Open ∷ ts) → Start u (calling (call.Mapped (map.Convert b)) l ∷ ls) ts out
  basis-bracket b ts out (with_bracket h) = h

  abbrev pub IsBehindName : Lexeme → Type 0
  IsBehindName lex.LeftBracket = Unit {0}
  IsBehindName lex.Open = Unit {0}
  IsBehindName _ = ⊥

  BehindName-first : {b : BasisId} {t : Lexeme} {ts : List Lexeme} {out : Statement} → BehindName u b ls l out (t ∷ ts) → IsBehindName t
  BehindName-first (with_list here h) = tt
  BehindName-first (with_bracket h) = tt

  pub basis-exact : (b : BasisId) (t : Lexeme) → Exact u (m.Basis b) ls l t (basis_step u b ls l t)
  basis-exact b lex.LeftBracket = λ ts out. (basis-list b ts out, λ (r, (q, here, is), h). list-basis b ts out q r here is h)
  basis-exact b lex.Open = λ ts out. (basis-bracket b ts out, λ h. with_bracket h)
  basis-exact b t = λ ts out h. BehindName-first h

  pub count-exact : (f : Map) (x : Expr) (t : Lexeme) → Exact u (m.Count f x) ls l t (count_step u f x ls l t)
  count-exact f x (lex.Number n) = λ ts out. (λ h. NextNumber-rest h, λ h. next_number h)
  count-exact f x t = λ ts out h. NextNumber-first h

  pub counted-exact : (f : Map) (x : Expr) (k : ℕ) (t : Lexeme) → Exact u (m.Counted f x k) ls l t (counted_step u f x k ls l t)
  counted-exact f x k lex.Close = λ ts out. (λ h. Next-rest h, λ h. next h)
  counted-exact f x k t = λ ts out h. absurd (let q : t ≡ lex.Close = Next-first h in cc)

  pub component-exact : (x : Expr) (t : Lexeme) → Exact u (m.Component x) ls l t (component_step u x ls l t)
  component-exact x (lex.Number n) = λ ts out. (λ h. NextNumber-rest h, λ h. next_number h)
  component-exact x t = λ ts out h. NextNumber-first h

  pub components-exact : (x : Expr) (k : ℕ) (t : Lexeme) → Exact u (m.Components x k) ls l t (components_step u x k ls l t)
  components-exact x k lex.Comma = λ ts out. (λ h. Next-rest h, λ h. next h)
  components-exact x k t = λ ts out h. absurd (let q : t ≡ lex.Comma = Next-first h in cc)

  -- The bases of `along`.
  abbrev pub IsBasisName : Lexeme → Type 0
  IsBasisName (lex.Basis b) = Unit {0}
  IsBasisName _ = ⊥

  Through-first : {t : Lexeme} {ts r : List Lexeme} {bs : List BasisId} → Through (t ∷ ts) r bs → IsBasisName t
  Through-first last_basis = tt
  Through-first (one_basis h) = tt

  abbrev pub IsBehindBasis : Lexeme → Type 0
  IsBehindBasis lex.Close = Unit {0}
  IsBehindBasis lex.Comma = Unit {0}
  IsBehindBasis _ = ⊥

  BehindBasis-first : {t : Lexeme} {ts r : List Lexeme} {bs : List BasisId} → BehindBasis (t ∷ ts) r bs → IsBehindBasis t
  BehindBasis-first bases_end = tt
  BehindBasis-first (bases_go h) = tt

  -- The names behind the first one, and all of them.
  through-built : (b : BasisId) {ts r : List Lexeme} {bs : List BasisId} → Through (lex.Basis b ∷ ts) r bs → (more : List BasisId) × BehindBasis ts r more × (bs ≡ b ∷ more)
  through-built b last_basis = ([], bases_end, refl)
  through-built b (one_basis {bs = more} h) = (more, bases_go h, refl)

  built-through : (b : BasisId) {ts r : List Lexeme} {more : List BasisId} → BehindBasis ts r more → Through (lex.Basis b ∷ ts) r (b ∷ more)
  built-through b bases_end = last_basis
  built-through b (bases_go h) = one_basis h

  same-bases : (x : Expr) (k : ℕ) {bs others : List BasisId} (r : List Lexeme) (out : Statement) → bs ≡ others → After u ls (push (e.Along x (component k) bs) l) r out → After u ls (push (e.Along x (component k) others) l) r out
  same-bases x k r out is h = subst (λ (v : List BasisId). After u ls (push (e.Along x (component k) v) l) r out) is h

  pub through-exact : (x : Expr) (k : ℕ) (bs : List BasisId) (t : Lexeme) → Exact u (m.Through x k bs) ls l t (through_step u x k bs ls l t)
  through-exact x k bs (lex.Basis b) = λ ts out. (
    (λ (r, all, here, h). let w = through-built b here in
        (r, w.0, w.1, same-bases x k r out (ap (λ (v : List BasisId). bs ++ v) w.2 ∙ sym (append_assoc bs (b ∷ []) w.0)) h)),
    (λ (r, more, here, h). (r, b ∷ more, built-through b here, same-bases x k r out (append_assoc bs (b ∷ []) more) h)),
  )
  through-exact x k bs t = λ ts out (r, all, here, h). Through-first here

  passed-close : (x : Expr) (k : ℕ) (bs : List BasisId) (ts : List Lexeme) (out : Statement) → Accepts u (m.Passed x k bs) ls l (lex.Close ∷ ts) out → After u ls (push (e.Along x (component k) bs) l) ts out
  passed-close x k bs ts out (r, more, bases_end, h) = same-bases x k ts out (append-nil bs) h

  passed-comma : (x : Expr) (k : ℕ) (bs : List BasisId) (ts : List Lexeme) (out : Statement) → Accepts u (m.Passed x k bs) ls l (lex.Comma ∷ ts) out → Accepts u (m.Through x k bs) ls l ts out
  passed-comma x k bs ts out (r, more, bases_go here, h) = (r, more, here, h)

  pub passed-exact : (x : Expr) (k : ℕ) (bs : List BasisId) (t : Lexeme) → Exact u (m.Passed x k bs) ls l t (passed_step u x k bs ls l t)
  passed-exact x k bs lex.Close = λ ts out. (
    passed-close x k bs ts out,
    (λ h. (ts, [], bases_end, same-bases x k ts out (sym (append-nil bs)) h)),
  )
  passed-exact x k bs lex.Comma = λ ts out. (passed-comma x k bs ts out, λ (r, more, here, h). (r, more, bases_go here, h))
  passed-exact x k bs t = λ ts out (r, more, here, h). BehindBasis-first here
