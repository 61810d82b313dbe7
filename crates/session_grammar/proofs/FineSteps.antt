-- A state that holds a word was made by a word.
use Rattle.std.proofs.Common.{◌≡◌, ℕ, zero, suc, Bool, true, false, List, [], ◌∷◌, Option, Some, None, refl, if◌then◌else◌}
use Rattle.basis_names.specs.declared.bases.BasisId.{BasisId}
use Rattle.session_grammar.specs.declared.expression.Expr.{Expr}
use Rattle.session_tokens.specs.declared.lexeme.Lexeme.{Lexeme}
use Rattle.session_grammar.specs.declared.state.Base.{Base}
use Rattle.session_grammar.specs.declared.state.Call.{Call}
use Rattle.session_grammar.specs.declared.state.Level.{Level}
use Rattle.session_grammar.specs.declared.state.Map.{Map}
use Rattle.session_grammar.specs.declared.state.Mode.{Mode}
use Rattle.session_tokens.specs.Words.{is_word, word_of}
use Rattle.session_grammar.specs.ParserSteps.{State, fresh, close_in, close_step, comma_in, comma_step, equals_step, after_step, operand_step, start_step, basis_step, item_step, list_ends, list_step, behind_step, opens_step, count_step, counted_step, component_step, components_step, through_step, passed_step, inner_step, and_then, assign_step, word_step, step, step_in}
use Rattle.session_tokens.specs.declared.lexeme.Lexeme.TheVariants as lex
use Rattle.session_grammar.specs.declared.state.Base.TheVariants as base
use Rattle.session_grammar.specs.declared.state.Call.TheVariants as call
use Rattle.session_grammar.specs.declared.state.Mode.TheVariants as m

abbrev pub IsFine : Mode → Type 0
IsFine (m.Word w) = is_word w ≡ true
IsFine _ = Unit {0}

-- a sum has begun
abbrev pub IsInSum : Mode → Type 0
IsInSum m.First = ⊥
IsInSum (m.Word w) = ⊥
IsInSum _ = Unit {0}

abbrev pub AllInSum : Option State → Type 0
AllInSum None = Unit {0}
AllInSum (Some q) = IsInSum q.mode

abbrev pub AllFine : Option State → Type 0
AllFine None = Unit {0}
AllFine (Some q) = IsFine q.mode

module _ (u : Base) (ls : List Level) (l : Level) where
  close-in-in-sum : (c : Call) (x : Expr) → AllInSum (close_in u c ls l x)
  close-in-in-sum call.Group x = tt
  close-in-in-sum (call.Mapped f) x = tt
  close-in-in-sum (call.Second w) x = tt
  close-in-in-sum call.First x = tt
  close-in-in-sum call.Along x = tt

  comma-in-in-sum : (c : Call) (x : Expr) → AllInSum (comma_in u c ls l x)
  comma-in-in-sum call.Group x = tt
  comma-in-in-sum (call.Mapped f) x = tt
  comma-in-in-sum (call.Second w) x = tt
  comma-in-in-sum call.First x = tt
  comma-in-in-sum call.Along x = tt

  operand-in-sum : (t : Lexeme) → AllInSum (operand_step u ls l t)
  operand-in-sum (lex.Number n) = tt
  operand-in-sum (lex.Name w) = tt
  operand-in-sum (lex.Basis b) = tt
  operand-in-sum (lex.Linear f) = tt
  operand-in-sum lex.Pair = tt
  operand-in-sum lex.Along = tt
  operand-in-sum lex.Open = tt
  operand-in-sum t = tt

  basis-in-sum : (b : BasisId) (t : Lexeme) → AllInSum (basis_step u b ls l t)
  basis-in-sum b lex.LeftBracket = tt
  basis-in-sum b lex.Open = tt
  basis-in-sum b t = tt

  item-in-sum : (b : BasisId) (d : ℕ) (items : List Lexeme) (t : Lexeme) → AllInSum (item_step u b d items ls l t)
  item-in-sum b d items (lex.Number n) = tt
  item-in-sum b d items lex.LeftBracket = tt
  item-in-sum b d items t = tt

  list-ends-in-sum : (b : BasisId) (d : ℕ) (items : List Lexeme) → AllInSum (list_ends u b d items ls l)
  list-ends-in-sum b zero items = tt
  list-ends-in-sum b (suc d) items = tt

  list-in-sum : (b : BasisId) (d : ℕ) (items : List Lexeme) (t : Lexeme) → AllInSum (list_step u b d items ls l t)
  list-in-sum b d items lex.RightBracket = list-ends-in-sum b d items
  list-in-sum b d items t = item-in-sum b d items t

  behind-in-sum : (b : BasisId) (d : ℕ) (items : List Lexeme) (t : Lexeme) → AllInSum (behind_step u b d items ls l t)
  behind-in-sum b d items lex.RightBracket = list-ends-in-sum b d items
  behind-in-sum b d items lex.Comma = tt
  behind-in-sum b d items t = tt

  opens-in-sum : (c : Call) (t : Lexeme) → AllInSum (opens_step u c ls l t)
  opens-in-sum c lex.Open = tt
  opens-in-sum c t = tt

  count-in-sum : (f : Map) (x : Expr) (t : Lexeme) → AllInSum (count_step u f x ls l t)
  count-in-sum f x (lex.Number k) = tt
  count-in-sum f x t = tt

  counted-in-sum : (f : Map) (x : Expr) (k : ℕ) (t : Lexeme) → AllInSum (counted_step u f x k ls l t)
  counted-in-sum f x k lex.Close = tt
  counted-in-sum f x k t = tt

  component-in-sum : (x : Expr) (t : Lexeme) → AllInSum (component_step u x ls l t)
  component-in-sum x (lex.Number k) = tt
  component-in-sum x t = tt

  components-in-sum : (x : Expr) (k : ℕ) (t : Lexeme) → AllInSum (components_step u x k ls l t)
  components-in-sum x k lex.Comma = tt
  components-in-sum x k t = tt

  through-in-sum : (x : Expr) (k : ℕ) (bs : List BasisId) (t : Lexeme) → AllInSum (through_step u x k bs ls l t)
  through-in-sum x k bs (lex.Basis b) = tt
  through-in-sum x k bs t = tt

  passed-in-sum : (x : Expr) (k : ℕ) (bs : List BasisId) (t : Lexeme) → AllInSum (passed_step u x k bs ls l t)
  passed-in-sum x k bs lex.Close = tt
  passed-in-sum x k bs lex.Comma = tt
  passed-in-sum x k bs t = tt

close-in-sum : (u : Base) (ls : List Level) (l : Level) → AllInSum (close_step u ls l)
close-in-sum u [] l = tt
close-in-sum u (k ∷ ls) l = close-in-in-sum u ls _ k.call _

comma-in-sum : (u : Base) (ls : List Level) (l : Level) → AllInSum (comma_step u ls l)
comma-in-sum u [] l = tt
comma-in-sum u (k ∷ ls) l = comma-in-in-sum u ls _ k.call _

equals-in-sum : (u : Base) (ls : List Level) (l : Level) → AllInSum (equals_step u ls l)
equals-in-sum base.Plain [] l = tt
equals-in-sum base.Plain (k ∷ ls) l = tt
equals-in-sum (base.Assigned w) ls l = tt
equals-in-sum (base.Right x) ls l = tt

after-in-sum : (u : Base) (ls : List Level) (l : Level) (t : Lexeme) → AllInSum (after_step u ls l t)
after-in-sum u ls l lex.Times = tt
after-in-sum u ls l lex.Over = tt
after-in-sum u ls l lex.Hash = tt
after-in-sum u ls l lex.Plus = tt
after-in-sum u ls l lex.Minus = tt
after-in-sum u ls l lex.Close = close-in-sum u ls l
after-in-sum u ls l lex.Comma = comma-in-sum u ls l
after-in-sum u ls l lex.Equals = equals-in-sum u ls l
after-in-sum u ls l t = tt

pub start-in-sum : (u : Base) (ls : List Level) (t : Lexeme) → AllInSum (start_step u ls t)
start-in-sum u ls lex.Minus = tt
start-in-sum u ls t = operand-in-sum u ls (fresh false) t

inner-in-sum : (u : Base) (mode : Mode) (ls : List Level) (l : Level) (t : Lexeme) → AllInSum (inner_step u mode ls l t)
inner-in-sum u m.First ls l t = tt
inner-in-sum u (m.Word w) ls l t = tt
inner-in-sum u m.Start ls l t = start-in-sum u ls t
inner-in-sum u m.Operand ls l t = operand-in-sum u ls l t
inner-in-sum u m.After ls l t = after-in-sum u ls l t
inner-in-sum u (m.Opens c) ls l t = opens-in-sum u ls l c t
inner-in-sum u (m.Basis b) ls l t = basis-in-sum u ls l b t
inner-in-sum u (m.List k) ls l t = list-in-sum u ls l k.basis k.depth k.items t
inner-in-sum u (m.Item k) ls l t = item-in-sum u ls l k.basis k.depth k.items t
inner-in-sum u (m.Behind k) ls l t = behind-in-sum u ls l k.basis k.depth k.items t
inner-in-sum u (m.Count f x) ls l t = count-in-sum u ls l f x t
inner-in-sum u (m.Counted f x k) ls l t = counted-in-sum u ls l f x k t
inner-in-sum u (m.Component x) ls l t = component-in-sum u ls l x t
inner-in-sum u (m.Components x k) ls l t = components-in-sum u ls l x k t
inner-in-sum u (m.Through x k bs) ls l t = through-in-sum u ls l x k bs t
inner-in-sum u (m.Passed x k bs) ls l t = passed-in-sum u ls l x k bs t

-- A state in a sum holds no word.
fine : (mode : Mode) → IsInSum mode → IsFine mode
fine m.First in_sum = absurd in_sum
fine (m.Word w) in_sum = absurd in_sum
fine mode in_sum = tt

all-fine : (o : Option State) → AllInSum o → AllFine o
all-fine None in_sum = tt
all-fine (Some q) in_sum = fine q.mode in_sum

second-fine : (o : Option State) (t : Lexeme) → AllFine (and_then o t)
second-fine None t = tt
second-fine (Some q) t = all-fine _ (inner-in-sum q.base q.mode q.below q.level t)

assign-fine : (o : Option (List ℕ)) → AllFine (assign_step o)
assign-fine None = tt
assign-fine (Some w) = tt

word-fine : (w t : Lexeme) → AllFine (word_step w t)
word-fine w lex.Assign = assign-fine (word_of w)
word-fine w t = second-fine (start_step base.Plain [] w) t

first-fine : (t : Lexeme) (b : Bool) → is_word t ≡ b → AllFine (if b then Some (record { base = base.Plain; mode = m.Word t; below = []; level = fresh false }) else start_step base.Plain [] t)
first-fine t true is = is
first-fine t false is = all-fine _ (start-in-sum base.Plain [] t)

step-in-fine : (mode : Mode) (q : State) (t : Lexeme) → AllFine (step_in mode q t)
step-in-fine m.First q t = first-fine t (is_word t) refl
step-in-fine (m.Word w) q t = word-fine w t
step-in-fine mode q t = all-fine _ (inner-in-sum q.base mode q.below q.level t)

pub step-fine : (q : State) (t : Lexeme) → AllFine (step q t)
step-fine q t = step-in-fine q.mode q t
