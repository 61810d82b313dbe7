-- Steps in lists.
use Rattle.std.proofs.Common.{◌≡◌, ℕ, zero, suc, List, [], ◌∷◌, ◌++◌, Option, Some, None, refl, sym, subst, append_assoc, ◌↔◌}
use Rattle.std.proofs.lemmas.List.{append-nil}
use Rattle.basis_names.specs.declared.bases.BasisId.{BasisId}
use Rattle.session_grammar.specs.declared.expression.Statement.{Statement}
use Rattle.session_tokens.specs.declared.lexeme.Lexeme.{Lexeme}
use Rattle.session_grammar.specs.declared.state.Base.{Base}
use Rattle.session_grammar.specs.declared.state.Level.{Level}
use Rattle.session_grammar.specs.Grammar.{AreItems, IsItem, empty_list, full_list, last_item, one_item, number_item, list_item, inside}
use Rattle.session_grammar.specs.ListStates.{ListState, listing, element_at}
use Rattle.session_grammar.specs.ParserSteps.{State, push, list_step, list_ends, item_step, behind_step}
use Rattle.session_grammar.proofs.Accepted.{BehindItem, item_ends, item_goes, EndLists, InList, InItems, After, Accepts, Exact}
use Rattle.session_tokens.specs.declared.lexeme.Lexeme.TheVariants as lex
use Rattle.session_grammar.specs.declared.state.Mode.TheVariants as m

items-join : {ts q r : List Lexeme} → IsItem ts q → BehindItem q r → AreItems ts r
items-join h item_ends = last_item h
items-join h (item_goes i) = one_item h i

-- A number.
items-number : (d n : ℕ) (ts r : List Lexeme) → InItems d (lex.Number n ∷ ts) r → EndLists (suc d) ts r
items-number d n ts r (q, last_item number_item, k) = (q, item_ends, k)
items-number d n ts r (q, one_item number_item i, k) = (q, item_goes i, k)

pub number-items : (d n : ℕ) (ts r : List Lexeme) → EndLists (suc d) ts r → InItems d (lex.Number n ∷ ts) r
number-items d n ts r (q, b, k) = (q, items-join number_item b, k)

-- A list.
items-open : (d : ℕ) (ts r : List Lexeme) → InItems d (lex.LeftBracket ∷ ts) r → InList (suc d) ts r
items-open d ts r (q, last_item (list_item h), k) = (_, h, (q, item_ends, k))
items-open d ts r (q, one_item (list_item h) i, k) = (_, h, (q, item_goes i, k))

open-items : (d : ℕ) (ts r : List Lexeme) → InList (suc d) ts r → InItems d (lex.LeftBracket ∷ ts) r
open-items d ts r (p, h, (q, b, k)) = (q, items-join (list_item h) b, k)

-- Behind the bracket of a list.
items-list : (d : ℕ) (ts r : List Lexeme) → InItems d ts r → InList d ts r
items-list d ts r (q, h, k) = (q, full_list h, k)

abbrev pub IsEnd : Lexeme → Type 0
IsEnd lex.RightBracket = Unit {0}
IsEnd _ = ⊥

list-items : (d : ℕ) (t : Lexeme) (ts r : List Lexeme) → (IsEnd t → ⊥) → InList d (t ∷ ts) r → InItems d (t ∷ ts) r
list-items d t ts r other (q, empty_list, k) = absurd (other tt)
list-items d t ts r other (q, full_list h, k) = (q, h, k)

list-end : (d : ℕ) (ts r : List Lexeme) → InList d (lex.RightBracket ∷ ts) r → EndLists d ts r
list-end d ts r (q, empty_list, k) = k
list-end d ts r (q, full_list (last_item i), k) = elim i [ ]
list-end d ts r (q, full_list (one_item i j), k) = elim i [ ]

-- Behind an item.
behind-end : (d : ℕ) (ts r : List Lexeme) → EndLists (suc d) (lex.RightBracket ∷ ts) r → EndLists d ts r
behind-end d ts r (q, item_ends, k) = k

behind-comma : (d : ℕ) (ts r : List Lexeme) → EndLists (suc d) (lex.Comma ∷ ts) r → InItems d ts r
behind-comma d ts r (q, item_goes h, k) = (q, h, k)

-- What may stand in front.
abbrev pub IsItemStart : Lexeme → Type 0
IsItemStart (lex.Number n) = Unit {0}
IsItemStart lex.LeftBracket = Unit {0}
IsItemStart _ = ⊥

items-first : (d : ℕ) (t : Lexeme) (ts r : List Lexeme) → InItems d (t ∷ ts) r → IsItemStart t
items-first d t ts r (q, last_item number_item, k) = tt
items-first d t ts r (q, last_item (list_item h), k) = tt
items-first d t ts r (q, one_item number_item i, k) = tt
items-first d t ts r (q, one_item (list_item h) i, k) = tt

abbrev pub IsBehindItem : Lexeme → Type 0
IsBehindItem lex.RightBracket = Unit {0}
IsBehindItem lex.Comma = Unit {0}
IsBehindItem _ = ⊥

behind-first : (d : ℕ) (t : Lexeme) (ts r : List Lexeme) → EndLists (suc d) (t ∷ ts) r → IsBehindItem t
behind-first d t ts r (q, item_ends, k) = tt
behind-first d t ts r (q, item_goes h, k) = tt

module _ (u : Base) (ls : List Level) (l : Level) (b : BasisId) where
  -- what the state reads behind the end of a list
  abbrev pub Ended : ℕ → List Lexeme → List Lexeme → Statement → Type 0
  Ended zero items ts out = After u ls (push (element_at b items) l) ts out
  Ended (suc d) items ts out = Accepts u (m.Behind (listing b d (items ++ lex.RightBracket ∷ []))) ls l ts out

  same-items : {items others : List Lexeme} (r : List Lexeme) (out : Statement) → items ≡ others → After u ls (push (element_at b items) l) r out → After u ls (push (element_at b others) l) r out
  same-items r out is h = subst (λ (v : List Lexeme). After u ls (push (element_at b v) l) r out) is h

  -- one more lexeme of a list
  moved : (items : List Lexeme) (t : Lexeme) (rest : List Lexeme) → (items ++ t ∷ []) ++ rest ≡ items ++ t ∷ rest
  moved items t rest = append_assoc items (t ∷ []) rest

  -- A list ends: the element is read, or the list around goes on.
  end-exact : (d : ℕ) (items : List Lexeme) (ts : List Lexeme) (out : Statement)
      → ((r : List Lexeme) × EndLists d ts r × After u ls (push (element_at b (items ++ inside d (lex.RightBracket ∷ ts))) l) r out) ↔ Ended d items ts out
  end-exact zero items ts out = (
    (λ (r, is, h). subst (λ (q : List Lexeme). After u ls (push (element_at b items) l) q out) (sym is) (same-items r out (append-nil items) h)),
    (λ h. (ts, refl, same-items ts out (sym (append-nil items)) h)),
  )
  end-exact (suc d) items ts out = (
    (λ (r, k, h). (r, k, same-items r out (sym (moved items lex.RightBracket (inside d ts))) h)),
    (λ (r, k, h). (r, k, same-items r out (moved items lex.RightBracket (inside d ts)) h)),
  )

  list-ends-exact : (d : ℕ) (items : List Lexeme) → Exact u (m.List (listing b d items)) ls l lex.RightBracket (list_ends u b d items ls l)
  list-ends-exact zero items = λ ts out. (
    (λ (r, k, h). (end-exact zero items ts out).0 (r, list-end zero ts r k, h)),
    (λ h. let w = (end-exact zero items ts out).1 h in (w.0, (ts, empty_list, w.1), w.2)),
  )
  list-ends-exact (suc d) items = λ ts out. (
    (λ (r, k, h). (end-exact (suc d) items ts out).0 (r, list-end (suc d) ts r k, h)),
    (λ h. let w = (end-exact (suc d) items ts out).1 h in (w.0, (ts, empty_list, w.1), w.2)),
  )

  behind-ends-exact : (d : ℕ) (items : List Lexeme) → Exact u (m.Behind (listing b d items)) ls l lex.RightBracket (list_ends u b d items ls l)
  behind-ends-exact zero items = λ ts out. (
    (λ (r, k, h). (end-exact zero items ts out).0 (r, behind-end zero ts r k, h)),
    (λ h. let w = (end-exact zero items ts out).1 h in (w.0, (ts, item_ends, w.1), w.2)),
  )
  behind-ends-exact (suc d) items = λ ts out. (
    (λ (r, k, h). (end-exact (suc d) items ts out).0 (r, behind-end (suc d) ts r k, h)),
    (λ h. let w = (end-exact (suc d) items ts out).1 h in (w.0, (ts, item_ends, w.1), w.2)),
  )

  item-exact-at : (d : ℕ) (items : List Lexeme) (t : Lexeme) → Exact u (m.Item (listing b d items)) ls l t (item_step u b d items ls l t)
  item-exact-at d items (lex.Number n) = λ ts out. (
    (λ (r, k, h). (r, items-number d n ts r k, same-items r out (sym (moved items (lex.Number n) (inside d ts))) h)),
    (λ (r, k, h). (r, number-items d n ts r k, same-items r out (moved items (lex.Number n) (inside d ts)) h)),
  )
  item-exact-at d items lex.LeftBracket = λ ts out. (
    (λ (r, k, h). (r, items-open d ts r k, same-items r out (sym (moved items lex.LeftBracket (inside (suc d) ts))) h)),
    (λ (r, k, h). (r, open-items d ts r k, same-items r out (moved items lex.LeftBracket (inside (suc d) ts)) h)),
  )
  item-exact-at d items t = λ ts out (r, k, h). items-first d t ts r k

  -- At the beginning of a list, what is no bracket that ends it begins an item.
  list-item-exact : (d : ℕ) (items : List Lexeme) (t : Lexeme) (o : Option State) → (IsEnd t → ⊥) → Exact u (m.Item (listing b d items)) ls l t o → Exact u (m.List (listing b d items)) ls l t o
  list-item-exact d items t None other h = λ ts out (r, k, w). h ts out (r, list-items d t ts r other k, w)
  list-item-exact d items t (Some q) other h = λ ts out. (
    (λ (r, k, w). (h ts out).0 (r, list-items d t ts r other k, w)),
    (λ w. let v = (h ts out).1 w in (v.0, items-list d (t ∷ ts) v.0 v.1, v.2)),
  )

  list-exact-at : (d : ℕ) (items : List Lexeme) (t : Lexeme) → Exact u (m.List (listing b d items)) ls l t (list_step u b d items ls l t)
  list-exact-at d items lex.RightBracket = list-ends-exact d items
  list-exact-at d items t = list-item-exact d items t (item_step u b d items ls l t) (λ h. h) (item-exact-at d items t)

  behind-exact-at : (d : ℕ) (items : List Lexeme) (t : Lexeme) → Exact u (m.Behind (listing b d items)) ls l t (behind_step u b d items ls l t)
  behind-exact-at d items lex.RightBracket = behind-ends-exact d items
  behind-exact-at d items lex.Comma = λ ts out. (
    (λ (r, k, h). (r, behind-comma d ts r k, same-items r out (sym (moved items lex.Comma (inside d ts))) h)),
    (λ (r, (q, i, k), h). (r, (q, item_goes i, k), same-items r out (moved items lex.Comma (inside d ts)) h)),
  )
  behind-exact-at d items t = λ ts out (r, k, h). behind-first d t ts r k

module _ (u : Base) (ls : List Level) (l : Level) where
  pub list-exact : (k : ListState) (t : Lexeme) → Exact u (m.List k) ls l t (list_step u k.basis k.depth k.items ls l t)
  list-exact k t = list-exact-at u ls l k.basis k.depth k.items t

  pub item-exact : (k : ListState) (t : Lexeme) → Exact u (m.Item k) ls l t (item_step u k.basis k.depth k.items ls l t)
  item-exact k t = item-exact-at u ls l k.basis k.depth k.items t

  pub behind-exact : (k : ListState) (t : Lexeme) → Exact u (m.Behind k) ls l t (behind_step u k.basis k.depth k.items ls l t)
  behind-exact k t = behind-exact-at u ls l k.basis k.depth k.items t
