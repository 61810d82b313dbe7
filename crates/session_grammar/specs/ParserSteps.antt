-- Nothing here need be believed: these are the parser's own states and its step at each lexeme, for the contracts of its private parts. That its steps follow the grammar is proved.
use Rattle.std.specs.Prelude.{ℕ, zero, suc, Bool, true, false, List, [], ◌∷◌, ◌++◌, Option, Some, None, reverse, if◌then◌else◌}
use Rattle.basis_names.specs.declared.bases.BasisId.{BasisId}
use Rattle.session_grammar.specs.declared.expression.Expr.{Expr}
use Rattle.session_grammar.specs.declared.expression.Factor.{Factor}
use Rattle.session_grammar.specs.declared.expression.Signed.{Signed}
use Rattle.session_grammar.specs.declared.expression.Statement.{Statement}
use Rattle.session_tokens.specs.declared.lexeme.Lexeme.{Lexeme}
use Rattle.session_grammar.specs.declared.state.Base.{Base}
use Rattle.session_grammar.specs.declared.state.Call.{Call}
use Rattle.session_grammar.specs.declared.state.Level.{Level}
use Rattle.session_grammar.specs.declared.state.Map.{Map}
use Rattle.session_grammar.specs.declared.state.Mode.{Mode}
use Rattle.session_grammar.specs.declared.state.Stack.{Stack}
use Rattle.session_grammar.specs.ListStates.{listing, element_at}
use Rattle.session_grammar.specs.Grammar.{factor, signed, product_of, tensor_of, sum_of, component, place_of}
use Rattle.session_tokens.specs.Words.{word_of, is_word}
use Rattle.session_grammar.specs.declared.expression.Expr.TheVariants as e
use Rattle.session_grammar.specs.declared.expression.Statement.TheVariants as s
use Rattle.session_tokens.specs.declared.lexeme.Lexeme.TheVariants as lex
use Rattle.session_grammar.specs.declared.state.Base.TheVariants as base
use Rattle.session_grammar.specs.declared.state.Call.TheVariants as call
use Rattle.session_grammar.specs.declared.state.Map.TheVariants as map
use Rattle.session_grammar.specs.declared.state.Mode.TheVariants as m

-- A level.

-- one more factor
abbrev pub push : Expr → Level → Level
push x l = record l { factors = l.factors ++ factor l.divides x ∷ [] }

-- the sum of a level, with these factors, tensor factors and parts behind what it has
abbrev pub whole : Level → List Factor → List Expr → List Signed → Expr
whole l fs es ps = sum_of (l.parts ++ signed l.minus (tensor_of (l.tensor ++ product_of (l.factors ++ fs) ∷ es)) ∷ ps)

abbrev pub value_of : Level → Expr
value_of l = whole l [] [] []

-- a level in which nothing was read but a sign
abbrev pub fresh : Bool → Level
fresh b = record { parts = []; minus = b; tensor = []; factors = []; divides = false; call = call.Group }

-- the level behind `#`
abbrev pub next_tensor : Level → Level
next_tensor l = record l { tensor = l.tensor ++ product_of l.factors ∷ []; factors = []; divides = false }

-- the level behind `+` or `-`
abbrev pub next_part : Bool → Level → Level
next_part b l = record l { parts = l.parts ++ signed l.minus (tensor_of (l.tensor ++ product_of l.factors ∷ [])) ∷ []; minus = b; tensor = []; factors = []; divides = false }

-- the level around a bracket that was opened for this
abbrev pub calling : Call → Level → Level
calling c l = record l { call = c }

-- the value of the call of a map
abbrev pub mapped : Map → Expr → Option ℕ → Expr
mapped (map.Convert b) x k = e.Convert b x (place_of k)
mapped (map.Linear f) x k = e.Apply f x (place_of k)

-- States: what the statement is so far, what is awaited, the levels outside the innermost one, the inner ones first, and the innermost one.
pub record State : Type 0 where
  pub base : Base
  pub mode : Mode
  pub below : List Level
  pub level : Level

abbrev pub state_with : Stack → Mode → State
state_with s mode = record { base = s.base; mode = mode; below = reverse s.below; level = s.level }

-- the state over the stack, where something is awaited
abbrev pub goes : Stack → Option Mode → Option State
goes s None = None
goes s (Some mode) = Some (state_with s mode)

-- the stack of a statement in which nothing was read, and the first state
abbrev pub empty_stack : Base → Stack
empty_stack u = record { base = u; below = []; level = fresh false }

abbrev pub first_state : State
first_state = record { base = base.Plain; mode = m.First; below = []; level = fresh false }

abbrev pub to : Base → Mode → List Level → Level → Option State
to u mode ls l = Some (record { base = u; mode = mode; below = ls; level = l })

-- a bracket was opened for this
abbrev pub enter : Base → Call → List Level → Level → Option State
enter u c ls l = to u m.Start (calling c l ∷ ls) (fresh false)

-- an operand was read
abbrev pub put : Base → Expr → List Level → Level → Option State
put u x ls l = to u m.After ls (push x l)

-- Behind an operand.
abbrev pub close_in : Base → Call → List Level → Level → Expr → Option State
close_in u call.Group ls l x = put u x ls l
close_in u (call.Mapped f) ls l x = put u (mapped f x None) ls l
close_in u (call.Second w) ls l x = put u (e.Pair w x) ls l
close_in u call.First ls l x = None
close_in u call.Along ls l x = None

abbrev pub close_step : Base → List Level → Level → Option State
close_step u [] l = None
close_step u (k ∷ ls) l = close_in u k.call ls (calling call.Group k) (value_of l)

abbrev pub comma_in : Base → Call → List Level → Level → Expr → Option State
comma_in u (call.Mapped f) ls l x = to u (m.Count f x) ls l
comma_in u call.First ls l x = enter u (call.Second x) ls l
comma_in u call.Along ls l x = to u (m.Component x) ls l
comma_in u call.Group ls l x = None
comma_in u (call.Second w) ls l x = None

abbrev pub comma_step : Base → List Level → Level → Option State
comma_step u [] l = None
comma_step u (k ∷ ls) l = comma_in u k.call ls (calling call.Group k) (value_of l)

abbrev pub equals_step : Base → List Level → Level → Option State
equals_step base.Plain [] l = to (base.Right (value_of l)) m.Start [] (fresh false)
equals_step base.Plain (k ∷ ls) l = None
equals_step (base.Assigned w) ls l = None
equals_step (base.Right x) ls l = None

abbrev pub after_step : Base → List Level → Level → Lexeme → Option State
after_step u ls l lex.Times = to u m.Operand ls (record l { divides = false })
after_step u ls l lex.Over = to u m.Operand ls (record l { divides = true })
after_step u ls l lex.Hash = to u m.Operand ls (next_tensor l)
after_step u ls l lex.Plus = to u m.Operand ls (next_part false l)
after_step u ls l lex.Minus = to u m.Operand ls (next_part true l)
after_step u ls l lex.Close = close_step u ls l
after_step u ls l lex.Comma = comma_step u ls l
after_step u ls l lex.Equals = equals_step u ls l
after_step u ls l _ = None

-- At an operand, and at a sum.
abbrev pub operand_step : Base → List Level → Level → Lexeme → Option State
operand_step u ls l (lex.Number n) = put u (e.Number n) ls l
operand_step u ls l (lex.Name w) = put u (e.Named w) ls l
operand_step u ls l (lex.Basis b) = to u (m.Basis b) ls l
operand_step u ls l (lex.Linear f) = to u (m.Opens (call.Mapped (map.Linear f))) ls l
operand_step u ls l lex.Pair = to u (m.Opens call.First) ls l
operand_step u ls l lex.Along = to u (m.Opens call.Along) ls l
operand_step u ls l lex.Open = enter u call.Group ls l
operand_step u ls l _ = None

abbrev pub start_step : Base → List Level → Lexeme → Option State
start_step u ls lex.Minus = to u m.Operand ls (fresh true)
start_step u ls t = operand_step u ls (fresh false) t

-- Behind the name of a basis, and in a list.
abbrev pub basis_step : Base → BasisId → List Level → Level → Lexeme → Option State
basis_step u b ls l lex.LeftBracket = to u (m.List (listing b 0 [])) ls l
basis_step u b ls l lex.Open = enter u (call.Mapped (map.Convert b)) ls l
basis_step u b ls l _ = None

abbrev pub item_step : Base → BasisId → ℕ → List Lexeme → List Level → Level → Lexeme → Option State
item_step u b d items ls l (lex.Number n) = to u (m.Behind (listing b d (items ++ lex.Number n ∷ []))) ls l
item_step u b d items ls l lex.LeftBracket = to u (m.List (listing b (suc d) (items ++ lex.LeftBracket ∷ []))) ls l
item_step u b d items ls l _ = None

abbrev pub list_ends : Base → BasisId → ℕ → List Lexeme → List Level → Level → Option State
list_ends u b zero items ls l = put u (element_at b items) ls l
list_ends u b (suc d) items ls l = to u (m.Behind (listing b d (items ++ lex.RightBracket ∷ []))) ls l

abbrev pub list_step : Base → BasisId → ℕ → List Lexeme → List Level → Level → Lexeme → Option State
list_step u b d items ls l lex.RightBracket = list_ends u b d items ls l
list_step u b d items ls l t = item_step u b d items ls l t

abbrev pub behind_step : Base → BasisId → ℕ → List Lexeme → List Level → Level → Lexeme → Option State
behind_step u b d items ls l lex.RightBracket = list_ends u b d items ls l
behind_step u b d items ls l lex.Comma = to u (m.Item (listing b d (items ++ lex.Comma ∷ []))) ls l
behind_step u b d items ls l _ = None

-- Behind the operand of a call.
abbrev pub opens_step : Base → Call → List Level → Level → Lexeme → Option State
opens_step u c ls l lex.Open = enter u c ls l
opens_step u c ls l _ = None

abbrev pub count_step : Base → Map → Expr → List Level → Level → Lexeme → Option State
count_step u f x ls l (lex.Number k) = to u (m.Counted f x k) ls l
count_step u f x ls l _ = None

abbrev pub counted_step : Base → Map → Expr → ℕ → List Level → Level → Lexeme → Option State
counted_step u f x k ls l lex.Close = put u (mapped f x (Some k)) ls l
counted_step u f x k ls l _ = None

abbrev pub component_step : Base → Expr → List Level → Level → Lexeme → Option State
component_step u x ls l (lex.Number k) = to u (m.Components x k) ls l
component_step u x ls l _ = None

abbrev pub components_step : Base → Expr → ℕ → List Level → Level → Lexeme → Option State
components_step u x k ls l lex.Comma = to u (m.Through x k []) ls l
components_step u x k ls l _ = None

abbrev pub through_step : Base → Expr → ℕ → List BasisId → List Level → Level → Lexeme → Option State
through_step u x k bs ls l (lex.Basis b) = to u (m.Passed x k (bs ++ b ∷ [])) ls l
through_step u x k bs ls l _ = None

abbrev pub passed_step : Base → Expr → ℕ → List BasisId → List Level → Level → Lexeme → Option State
passed_step u x k bs ls l lex.Close = put u (e.Along x (component k) bs) ls l
passed_step u x k bs ls l lex.Comma = to u (m.Through x k bs) ls l
passed_step u x k bs ls l _ = None

-- In a sum.
abbrev pub inner_step : Base → Mode → List Level → Level → Lexeme → Option State
inner_step u m.First ls l t = None
inner_step u (m.Word w) ls l t = None
inner_step u m.Start ls l t = start_step u ls t
inner_step u m.Operand ls l t = operand_step u ls l t
inner_step u m.After ls l t = after_step u ls l t
inner_step u (m.Opens c) ls l t = opens_step u c ls l t
inner_step u (m.Basis b) ls l t = basis_step u b ls l t
inner_step u (m.List k) ls l t = list_step u k.basis k.depth k.items ls l t
inner_step u (m.Item k) ls l t = item_step u k.basis k.depth k.items ls l t
inner_step u (m.Behind k) ls l t = behind_step u k.basis k.depth k.items ls l t
inner_step u (m.Count f x) ls l t = count_step u f x ls l t
inner_step u (m.Counted f x k) ls l t = counted_step u f x k ls l t
inner_step u (m.Component x) ls l t = component_step u x ls l t
inner_step u (m.Components x k) ls l t = components_step u x k ls l t
inner_step u (m.Through x k bs) ls l t = through_step u x k bs ls l t
inner_step u (m.Passed x k bs) ls l t = passed_step u x k bs ls l t

-- At the first and the second lexeme of a statement.
abbrev pub and_then : Option State → Lexeme → Option State
and_then None t = None
and_then (Some q) t = inner_step q.base q.mode q.below q.level t

abbrev pub assign_step : Option (List ℕ) → Option State
assign_step None = None
assign_step (Some w) = to (base.Assigned w) m.Start [] (fresh false)

-- the second lexeme, behind a word
abbrev pub word_step : Lexeme → Lexeme → Option State
word_step w lex.Assign = assign_step (word_of w)
word_step w t = and_then (start_step base.Plain [] w) t

abbrev pub first_step : Lexeme → Option State
first_step t = if is_word t then to base.Plain (m.Word t) [] (fresh false) else start_step base.Plain [] t

abbrev pub step_in : Mode → State → Lexeme → Option State
step_in m.First q t = first_step t
step_in (m.Word w) q t = word_step w t
step_in mode q t = inner_step q.base mode q.below q.level t

abbrev pub step : State → Lexeme → Option State
step q t = step_in q.mode q t

-- The statement that was read, where the text ends.
abbrev pub statement_of : Base → Expr → Statement
statement_of base.Plain x = s.Print x
statement_of (base.Assigned w) x = s.Assign w x
statement_of (base.Right y) x = s.Equal y x

abbrev pub end_below : Base → List Level → Level → Option Statement
end_below u [] l = Some (statement_of u (value_of l))
end_below u (k ∷ ls) l = None

abbrev pub is_after : Mode → Bool
is_after m.After = true
is_after _ = false

abbrev pub inner_end : Base → Mode → List Level → Level → Option Statement
inner_end u mode ls l = if is_after mode then end_below u ls l else None

abbrev pub end_of : Option State → Option Statement
end_of None = None
end_of (Some q) = inner_end q.base q.mode q.below q.level

abbrev pub finish_in : Mode → State → Option Statement
finish_in m.First q = Some s.Empty
finish_in (m.Word w) q = end_of (start_step base.Plain [] w)
finish_in mode q = inner_end q.base mode q.below q.level

abbrev pub finish : State → Option Statement
finish q = finish_in q.mode q
