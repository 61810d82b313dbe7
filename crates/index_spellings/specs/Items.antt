-- What the items of a list spell: numbers, rows of numbers, or a tree.
use Rattle.std.specs.Prelude.{ℕ, zero, suc, List, [], ◌∷◌, Option, Some, None}
use Rattle.realisations.specs.Trees.{Tree, empty, node}
use Rattle.session_tokens.specs.declared.lexeme.Lexeme.{Lexeme}
use Rattle.session_tokens.specs.declared.lexeme.Lexeme.TheVariants as lex
use Rattle.session_grammar.specs.Grammar.{inside}

-- a number before others, where there are these
abbrev pub before : ℕ → Option (List ℕ) → Option (List ℕ)
before n None = None
before n (Some ns) = Some (n ∷ ns)

-- the numbers of a list that holds no list
abbrev pub numbers_in : List Lexeme → Option (List ℕ)
numbers_in [] = Some []
numbers_in (lex.Number n ∷ ts) = before n (numbers_in ts)
numbers_in (lex.Comma ∷ ts) = numbers_in ts
numbers_in (t ∷ ts) = None

-- a row without numbers before others, where there are these
abbrev pub new_row : Option (List (List ℕ)) → Option (List (List ℕ))
new_row None = None
new_row (Some rows) = Some ([] ∷ rows)

-- a number before those of the first row
abbrev pub before_first : ℕ → Option (List (List ℕ)) → Option (List (List ℕ))
before_first n None = None
before_first n (Some []) = None
before_first n (Some (row ∷ rows)) = Some ((n ∷ row) ∷ rows)

abbrev mutual
  -- the rows of a list of lists of numbers
  pub rows_in : List Lexeme → Option (List (List ℕ))
  rows_in [] = Some []
  rows_in (lex.LeftBracket ∷ ts) = row_in ts
  rows_in (lex.Comma ∷ ts) = rows_in ts
  rows_in (t ∷ ts) = None

  -- the same where a row is open: its numbers from here on, and the rows behind it
  pub row_in : List Lexeme → Option (List (List ℕ))
  row_in [] = None
  row_in (lex.Number n ∷ ts) = before_first n (row_in ts)
  row_in (lex.Comma ∷ ts) = row_in ts
  row_in (lex.RightBracket ∷ ts) = new_row (rows_in ts)
  row_in (t ∷ ts) = None

-- the lexemes behind the bracket that closes a list, where depth lists are open inside it
abbrev pub after_list : ℕ → List Lexeme → List Lexeme
after_list depth [] = []
after_list depth (lex.LeftBracket ∷ ts) = after_list (suc depth) ts
after_list zero (lex.RightBracket ∷ ts) = ts
after_list (suc depth) (lex.RightBracket ∷ ts) = after_list depth ts
after_list depth (t ∷ ts) = after_list depth ts

-- the node over two trees, where there are these
abbrev pub node_over : Option Tree → Option Tree → Option Tree
node_over None right = None
node_over (Some l) None = None
node_over (Some l) (Some r) = Some (node l r)

-- the items of a list behind which nothing stands
abbrev pub only_list : List Lexeme → List Lexeme → Option (List Lexeme)
only_list items [] = Some items
only_list items (t ∷ ts) = None

-- the items of the second list of a pair, from behind the first one on: a comma, a list, and nothing more
abbrev pub second_list : List Lexeme → Option (List Lexeme)
second_list (lex.Comma ∷ lex.LeftBracket ∷ ts) = only_list (inside 0 ts) (after_list 0 ts)
second_list _ = None

-- the tree that some items spell, where there are these
abbrev pub read_by : (List Lexeme → Option Tree) → Option (List Lexeme) → Option Tree
read_by read None = None
read_by read (Some items) = read items

-- the tree of at most so many levels that items spell: no items spell the empty tree, and a list, a comma and a list a node over the trees that the two lists spell
abbrev pub tree_in : ℕ → List Lexeme → Option Tree
tree_in levels [] = Some empty
tree_in zero (t ∷ ts) = None
tree_in (suc levels) (lex.LeftBracket ∷ ts) = node_over (tree_in levels (inside 0 ts)) (read_by (λ items. tree_in levels items) (second_list (after_list 0 ts)))
tree_in (suc levels) (t ∷ ts) = None
