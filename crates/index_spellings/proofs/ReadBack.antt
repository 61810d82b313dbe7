-- An index is read back from the items of its spelling, and what is spelled is an index.
use Rattle.std.proofs.Common.{◌≡◌, ℕ, zero, suc, ◌≤◌, true, List, [], ◌∷◌, ◌++◌, Some, length, refl, sym, ◌∙◌, ap, subst, arith, append_assoc, append-nil}
use Rattle.std.specs.List.{concat, sum}
use Rattle.basis_names.specs.Bases.{algebra_of, limit_of}
use Rattle.realisations.specs.Bases.{index_kind_of}
use Rattle.realisations.specs.Codes.{Code}
use Rattle.realisations.specs.IndexKinds.{IndexKind, IsOfKind, degree_by, by_composition, by_permutation, by_packed_word, by_tableau, by_tree, is_packed, is_permutation, is_standard_tableau}
use Rattle.realisations.specs.Tableaux.{rows_of, tableau_code}
use Rattle.realisations.specs.Trees.{Tree, empty, node, tree_code, tree_of, tree_size}
use Rattle.basis_representatives.proofs.TableauCodes.{rows_of-code}
use Rattle.basis_representatives.proofs.TreeCodes.{length-tree_code}
use Rattle.basis_representatives.proofs.TreesOfCodes.{tree_of-code}
use Rattle.session_grammar.specs.Grammar.{inside}
use Rattle.session_tokens.specs.declared.lexeme.Lexeme.{Lexeme}
use Rattle.session_tokens.specs.declared.lexeme.Lexeme.TheVariants as lex
use Rattle.index_spellings.specs.Items.{after_list, before, before_first, new_row, node_over, numbers_in, only_list, read_by, row_in, rows_in, second_list, tree_in}
use Rattle.index_spellings.specs.Indices.{all_positive, index_by}
use Rattle.index_spellings.specs.Laws.{SpellingLaw}
use Rattle.index_spellings.specs.Spellings.{items_by, number_items, row_items, tree_items}
use Rattle.index_spellings.proofs.Spellings.{code-spelled, composition-positive, positive-composition, spelled-passes}
use Rattle.index_spellings.proofs.SpelledLists.{ends, is_list}
use Rattle.index_spellings.proofs.StandardRows.{length-tableau_code}
use Rattle.index_spellings.proofs.TreeItems.{after-items, inside-items, node_items}

-- numbers

numbers_in-items : (ns : List ℕ) → numbers_in (number_items ns) ≡ Some ns
numbers_in-items [] = refl
numbers_in-items (n ∷ []) = refl
numbers_in-items (n ∷ m ∷ ns) = ap (before n) (numbers_in-items (m ∷ ns))

-- rows

row_in-items : (row : List ℕ) (ts : List Lexeme) (rows : List (List ℕ)) → rows_in ts ≡ Some rows → row_in (number_items row ++ lex.RightBracket ∷ ts) ≡ Some (row ∷ rows)
row_in-items [] ts rows e = ap new_row e
row_in-items (n ∷ []) ts rows e = ap (λ o. before_first n (new_row o)) e
row_in-items (n ∷ m ∷ row) ts rows e = ap (before_first n) (row_in-items (m ∷ row) ts rows e)

rows_in-items : (rows : List (List ℕ)) → rows_in (row_items rows) ≡ Some rows
rows_in-items [] = refl
rows_in-items (row ∷ []) = row_in-items row [] [] refl
rows_in-items (row ∷ next ∷ rows) =
    ap row_in (append_assoc (number_items row) (lex.RightBracket ∷ []) (lex.Comma ∷ row_items (next ∷ rows)))
    ∙ row_in-items row (lex.Comma ∷ row_items (next ∷ rows)) (next ∷ rows) (rows_in-items (next ∷ rows))

-- trees

tree_in-items : (levels : ℕ) (t : Tree) → tree_size t ≤ levels → tree_in levels (tree_items t) ≡ Some t
tree_in-items zero empty le = refl
tree_in-items (suc levels) empty le = refl
tree_in-items zero (node l r) le = absurd (omega arith)
tree_in-items (suc levels) (node l r) le =
    let second : List Lexeme = tree_items r ++ (lex.RightBracket ∷ []) in
    let behind : List Lexeme = lex.Comma ∷ lex.LeftBracket ∷ second in
    let items : tree_items (node l r) ≡ lex.LeftBracket ∷ (tree_items l ++ (lex.RightBracket ∷ behind)) = sym (append-nil (tree_items (node l r))) ∙ node_items l r [] in
    let left : inside 0 (tree_items l ++ (lex.RightBracket ∷ behind)) ≡ tree_items l = inside-items l 0 (lex.RightBracket ∷ behind) ∙ append-nil (tree_items l) in
    let after : after_list 0 (tree_items l ++ (lex.RightBracket ∷ behind)) ≡ behind = after-items l 0 (lex.RightBracket ∷ behind) in
    let right : inside 0 second ≡ tree_items r = inside-items r 0 (lex.RightBracket ∷ []) ∙ append-nil (tree_items r) in
    let nothing : after_list 0 second ≡ [] = after-items r 0 (lex.RightBracket ∷ []) in
    let found : second_list behind ≡ Some (tree_items r) = (λ i. only_list (right i) (nothing i)) in
    ap (tree_in (suc levels)) items
    ∙ (λ i. node_over (tree_in levels (left i)) (read_by (λ us. tree_in levels us) (second_list (after i))))
    ∙ (λ i. node_over (tree_in-items levels l (omega arith) i) (read_by (λ us. tree_in levels us) (found i)))
    ∙ ap (node_over (Some l)) (tree_in-items levels r (omega arith))

-- an index is read back
read_back_by : (kind : IndexKind) (limit : ℕ) (code : Code) → IsOfKind kind code → degree_by kind code ≤ limit → index_by kind limit (items_by kind code) ≡ Some code
read_back_by by_composition limit code h le =
    sym (code-spelled limit all_positive (λ parts. sum parts) (λ parts. parts) (numbers_in (number_items code)) code (numbers_in-items code) (positive-composition code h, le))
read_back_by by_permutation limit code h le =
    sym (code-spelled limit is_permutation (λ letters. length letters) (λ letters. letters) (numbers_in (number_items code)) code (numbers_in-items code) (h, le))
read_back_by by_packed_word limit code h le =
    sym (code-spelled limit is_packed (λ letters. length letters) (λ letters. letters) (numbers_in (number_items code)) code (numbers_in-items code) (h, le))
read_back_by by_tableau limit code (rows, standard, same) le =
    let rows_are : rows_of code ≡ rows = ap rows_of (sym same) ∙ rows_of-code rows standard in
    sym (code-spelled limit is_standard_tableau (λ r. length (concat r)) tableau_code (rows_in (row_items (rows_of code))) rows
    (ap (λ r. rows_in (row_items r)) rows_are ∙ rows_in-items rows)
    (standard, omega (arith, length-tableau_code rows, ap length same, le)))
    ∙ ap Some same
read_back_by by_tree limit code (tree, same) le =
    let tree_is : tree_of code ≡ tree = ap tree_of (sym same) ∙ tree_of-code tree in
    let small : tree_size tree ≤ limit = omega (arith, length-tree_code tree, ap length same, le) in
    sym (code-spelled limit (λ t. true) tree_size tree_code (tree_in limit (tree_items (tree_of code))) tree
    (ap (λ t. tree_in limit (tree_items t)) tree_is ∙ tree_in-items limit tree small)
    (refl, small))
    ∙ ap Some same

-- what is spelled is an index
pub index_of_kind : (kind : IndexKind) (limit : ℕ) (items : List Lexeme) (code : Code) → index_by kind limit items ≡ Some code → IsOfKind kind code × (degree_by kind code ≤ limit)
index_of_kind by_composition limit items code e =
    let (parts, is, passes, same) = spelled-passes limit all_positive (λ ns. sum ns) (λ ns. ns) (numbers_in items) code e in
    (subst (λ ns. IsOfKind by_composition ns) same (composition-positive parts passes.0), omega (arith, passes.1, ap sum same))
index_of_kind by_permutation limit items code e =
    let (letters, is, passes, same) = spelled-passes limit is_permutation (λ ns. length ns) (λ ns. ns) (numbers_in items) code e in
    (subst (λ ns. IsOfKind by_permutation ns) same passes.0, omega (arith, passes.1, ap length same))
index_of_kind by_packed_word limit items code e =
    let (letters, is, passes, same) = spelled-passes limit is_packed (λ ns. length ns) (λ ns. ns) (numbers_in items) code e in
    (subst (λ ns. IsOfKind by_packed_word ns) same passes.0, omega (arith, passes.1, ap length same))
index_of_kind by_tableau limit items code e =
    let (rows, is, passes, same) = spelled-passes limit is_standard_tableau (λ r. length (concat r)) tableau_code (rows_in items) code e in
    ((rows, passes.0, same), omega (arith, passes.1, length-tableau_code rows, ap length same))
index_of_kind by_tree limit items code e =
    let (tree, is, passes, same) = spelled-passes limit (λ t. true) tree_size tree_code (tree_in limit items) code e in
    ((tree, same), omega (arith, passes.1, length-tree_code tree, ap length same))

pub spellings : SpellingLaw
spellings = record {
  read_back = λ basis code h. read_back_by (index_kind_of basis) (limit_of (algebra_of basis)) code h.0 h.1;
  index = λ basis items code e. index_of_kind (index_kind_of basis) (limit_of (algebra_of basis)) items code e;
  is_list = λ basis code ts. is_list (index_kind_of basis) code ts;
  ends = λ basis code ts. ends (index_kind_of basis) code ts;
}
