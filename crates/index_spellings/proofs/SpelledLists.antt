-- The items of a spelling are a list of the grammar, which ends at its own bracket.
use Rattle.std.proofs.Common.{◌≡◌, ℕ, suc, List, [], ◌∷◌, ◌++◌, refl, sym, ◌∙◌, ap, subst, append_assoc, append-nil}
use Rattle.realisations.specs.Codes.{Code}
use Rattle.realisations.specs.IndexKinds.{IndexKind, by_composition, by_permutation, by_packed_word, by_tableau, by_tree}
use Rattle.realisations.specs.Tableaux.{rows_of}
use Rattle.realisations.specs.Trees.{Tree, empty, node, tree_of}
use Rattle.session_grammar.specs.Grammar.{IsList, empty_list, full_list, AreItems, last_item, one_item, number_item, list_item, inside}
use Rattle.session_tokens.specs.declared.lexeme.Lexeme.{Lexeme}
use Rattle.session_tokens.specs.declared.lexeme.Lexeme.TheVariants as lex
use Rattle.index_spellings.specs.Spellings.{items_by, list_with, number_items, row_items, tree_items}
use Rattle.index_spellings.proofs.TreeItems.{inside-items, node_items}

-- a list in front of others
list_before : (items ts : List Lexeme) → list_with items ++ ts ≡ lex.LeftBracket ∷ (items ++ (lex.RightBracket ∷ ts))
list_before items ts = ap (λ us. lex.LeftBracket ∷ us) (append_assoc items (lex.RightBracket ∷ []) ts)

-- and one with others behind a comma
list_and_more : (items more ts : List Lexeme) → (list_with items ++ lex.Comma ∷ more) ++ ts ≡ lex.LeftBracket ∷ (items ++ (lex.RightBracket ∷ lex.Comma ∷ (more ++ ts)))
list_and_more items more ts = append_assoc (list_with items) (lex.Comma ∷ more) ts ∙ list_before items (lex.Comma ∷ (more ++ ts))

-- numbers

are_numbers : (n : ℕ) (ns : List ℕ) (ts : List Lexeme) → AreItems (number_items (n ∷ ns) ++ lex.RightBracket ∷ ts) ts
are_numbers n [] ts = last_item number_item
are_numbers n (m ∷ ns) ts = one_item number_item (are_numbers m ns ts)

number_list : (ns : List ℕ) (ts : List Lexeme) → IsList (number_items ns ++ lex.RightBracket ∷ ts) ts
number_list [] ts = empty_list
number_list (n ∷ ns) ts = full_list (are_numbers n ns ts)

inside-numbers : (ns : List ℕ) (depth : ℕ) (ts : List Lexeme) → inside depth (number_items ns ++ ts) ≡ number_items ns ++ inside depth ts
inside-numbers [] depth ts = refl
inside-numbers (n ∷ []) depth ts = refl
inside-numbers (n ∷ m ∷ ns) depth ts = ap (λ us. lex.Number n ∷ lex.Comma ∷ us) (inside-numbers (m ∷ ns) depth ts)

-- rows

are_rows : (row : List ℕ) (rows : List (List ℕ)) (ts : List Lexeme) → AreItems (row_items (row ∷ rows) ++ lex.RightBracket ∷ ts) ts
are_rows row [] ts =
    subst (λ us. AreItems us ts) (sym (list_before (number_items row) (lex.RightBracket ∷ ts))) (last_item (list_item (number_list row (lex.RightBracket ∷ ts))))
are_rows row (below ∷ rows) ts =
    subst (λ us. AreItems us ts) (sym (list_and_more (number_items row) (row_items (below ∷ rows)) (lex.RightBracket ∷ ts)))
    (one_item (list_item (number_list row (lex.Comma ∷ (row_items (below ∷ rows) ++ lex.RightBracket ∷ ts)))) (are_rows below rows ts))

row_list : (rows : List (List ℕ)) (ts : List Lexeme) → IsList (row_items rows ++ lex.RightBracket ∷ ts) ts
row_list [] ts = empty_list
row_list (row ∷ rows) ts = full_list (are_rows row rows ts)

inside-rows : (rows : List (List ℕ)) (depth : ℕ) (ts : List Lexeme) → inside depth (row_items rows ++ ts) ≡ row_items rows ++ inside depth ts
inside-rows [] depth ts = refl
inside-rows (row ∷ []) depth ts =
    ap (inside depth) (list_before (number_items row) ts)
    ∙ ap (λ us. lex.LeftBracket ∷ us) (inside-numbers row (suc depth) (lex.RightBracket ∷ ts))
    ∙ sym (list_before (number_items row) (inside depth ts))
inside-rows (row ∷ below ∷ rows) depth ts =
    ap (inside depth) (list_and_more (number_items row) (row_items (below ∷ rows)) ts)
    ∙ ap (λ us. lex.LeftBracket ∷ us)
    (inside-numbers row (suc depth) (lex.RightBracket ∷ lex.Comma ∷ (row_items (below ∷ rows) ++ ts))
    ∙ ap (λ us. number_items row ++ (lex.RightBracket ∷ lex.Comma ∷ us)) (inside-rows (below ∷ rows) depth ts))
    ∙ sym (list_and_more (number_items row) (row_items (below ∷ rows)) (inside depth ts))

-- trees

tree_list : (t : Tree) (ts : List Lexeme) → IsList (tree_items t ++ lex.RightBracket ∷ ts) ts
tree_list empty ts = empty_list
tree_list (node l r) ts =
    full_list (subst (λ us. AreItems us ts) (sym (node_items l r (lex.RightBracket ∷ ts)))
    (one_item (list_item (tree_list l (lex.Comma ∷ lex.LeftBracket ∷ (tree_items r ++ (lex.RightBracket ∷ lex.RightBracket ∷ ts)))))
    (last_item (list_item (tree_list r (lex.RightBracket ∷ ts))))))

-- the items of a kind

pub is_list : (kind : IndexKind) (code : Code) (ts : List Lexeme) → IsList (items_by kind code ++ lex.RightBracket ∷ ts) ts
is_list by_composition code ts = number_list code ts
is_list by_permutation code ts = number_list code ts
is_list by_packed_word code ts = number_list code ts
is_list by_tableau code ts = row_list (rows_of code) ts
is_list by_tree code ts = tree_list (tree_of code) ts

passed : (kind : IndexKind) (code : Code) (ts : List Lexeme) → inside 0 (items_by kind code ++ ts) ≡ items_by kind code ++ inside 0 ts
passed by_composition code ts = inside-numbers code 0 ts
passed by_permutation code ts = inside-numbers code 0 ts
passed by_packed_word code ts = inside-numbers code 0 ts
passed by_tableau code ts = inside-rows (rows_of code) 0 ts
passed by_tree code ts = inside-items (tree_of code) 0 ts

pub ends : (kind : IndexKind) (code : Code) (ts : List Lexeme) → inside 0 (items_by kind code ++ lex.RightBracket ∷ ts) ≡ items_by kind code
ends kind code ts = passed kind code (lex.RightBracket ∷ ts) ∙ append-nil (items_by kind code)
