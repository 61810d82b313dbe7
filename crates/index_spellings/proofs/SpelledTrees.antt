-- The trees that lists spell, and their codes.
use Rattle.std.proofs.Common.{◌≡◌, ℕ, zero, suc, ◌+◌, ◌-◌, ◌≤◌, Bool, true, false, List, [], ◌∷◌, ◌++◌, Option, Some, None, length, refl, sym, ◌∙◌, ap, arith, if◌then◌else◌}
use Rattle.std.specs.Prelude.{nat_le, nat_lt}
use Rattle.std.proofs.lemmas.Bool.Decides.{nat_tests}
use Rattle.realisations.specs.Codes.{Code}
use Rattle.realisations.specs.Trees.{Tree, tree_size, tree_code}
use Rattle.basis_representatives.proofs.TreeCodes.{length-tree_code}
use Rattle.session_grammar.specs.Grammar.{inside}
use Rattle.session_tokens.specs.declared.lexeme.Lexeme.{Lexeme}
use Rattle.session_tokens.specs.declared.lexeme.Lexeme.TheVariants as lex
use Rattle.index_spellings.specs.Items.{after_list, node_over, read_by, second_list, tree_in}
use Rattle.index_spellings.specs.TreeCodes.{code_of_tree, node_within}

-- the code of the node over two trees within a limit, by their codes
abbrev pub node_by : ℕ → Option Code → Option Code → Option Code
node_by limit None right = None
node_by limit (Some l) None = None
node_by limit (Some l) (Some r) = node_within limit l r

node_by-none : (limit : ℕ) (left : Option Code) → node_by limit left None ≡ None
node_by-none limit None = refl
node_by-none limit (Some l) = refl

nat_le-suc : (a b : ℕ) → nat_le (suc a) b ≡ nat_lt a b
nat_le-suc a b = grind (arith, nat_tests)

too_large : (a b limit : ℕ) → b ≤ a → nat_le b limit ≡ false → nat_le (suc a) limit ≡ false
too_large a b limit le h = grind (arith, nat_tests)

-- the code of a node is that of its subtrees, put together
pub code_of_node : (limit : ℕ) (left right : Option Tree) → code_of_tree limit (node_over left right) ≡ node_by limit (code_of_tree limit left) (code_of_tree limit right)
code_of_node limit None right = refl
code_of_node limit (Some l) None = sym (node_by-none limit (code_of_tree limit (Some l)))
code_of_node limit (Some l) (Some r) = by_tests (nat_le (tree_size l) limit) (nat_le (tree_size r) limit) refl refl
  where
    joined : tree_code l ++ suc (tree_size r) ∷ tree_code r ≡ tree_code l ++ suc (length (tree_code r)) ∷ tree_code r
    joined = ap (λ n. tree_code l ++ suc n ∷ tree_code r) (sym (length-tree_code r))

    whole : nat_le (suc (tree_size l + tree_size r)) limit ≡ nat_lt (length (tree_code l) + length (tree_code r)) limit
    whole = ap (λ n. nat_le (suc n) limit) (λ i. sym (length-tree_code l) i + sym (length-tree_code r) i) ∙ nat_le-suc (length (tree_code l) + length (tree_code r)) limit

    by_tests : (p q : Bool) → nat_le (tree_size l) limit ≡ p → nat_le (tree_size r) limit ≡ q
        → (if nat_le (suc (tree_size l + tree_size r)) limit then Some (tree_code l ++ suc (tree_size r) ∷ tree_code r) else None)
        ≡ node_by limit (if p then Some (tree_code l) else None) (if q then Some (tree_code r) else None)
    by_tests true true e f = λ i. if whole i then Some (joined i) else None
    by_tests true false e f = ap (λ b. if b then Some (tree_code l ++ suc (tree_size r) ∷ tree_code r) else None) (too_large (tree_size l + tree_size r) (tree_size r) limit (omega arith) f)
    by_tests false q e f = ap (λ b. if b then Some (tree_code l ++ suc (tree_size r) ∷ tree_code r) else None) (too_large (tree_size l + tree_size r) (tree_size l) limit (omega arith) e)

-- a list in front is the left subtree, and the list behind it the right one
tree_in-list : (levels : ℕ) (items ts : List Lexeme) → 1 ≤ levels → items ≡ lex.LeftBracket ∷ ts
    → tree_in levels items ≡ node_over (tree_in (levels - 1) (inside 0 ts)) (read_by (λ us. tree_in (levels - 1) us) (second_list (after_list 0 ts)))
tree_in-list zero items ts some is = absurd (omega arith)
tree_in-list (suc levels) items ts some is =
    let fewer : levels ≡ suc levels - 1 = omega arith in
    ap (λ us. tree_in (suc levels) us) is
    ∙ ap (λ n. node_over (tree_in n (inside 0 ts)) (read_by (λ us. tree_in n us) (second_list (after_list 0 ts)))) fewer

-- so its code is put together from those of the two lists
pub code_of_pair : (limit levels : ℕ) (items ts left behind : List Lexeme) → 1 ≤ levels → items ≡ lex.LeftBracket ∷ ts → left ≡ inside 0 ts → behind ≡ after_list 0 ts
    → code_of_tree limit (tree_in levels items)
    ≡ node_by limit (code_of_tree limit (tree_in (levels - 1) left)) (code_of_tree limit (read_by (λ us. tree_in (levels - 1) us) (second_list behind)))
code_of_pair limit levels items ts left behind some is first second =
    ap (λ t. code_of_tree limit t) (tree_in-list levels items ts some is)
    ∙ code_of_node limit (tree_in (levels - 1) (inside 0 ts)) (read_by (λ us. tree_in (levels - 1) us) (second_list (after_list 0 ts)))
    ∙ (λ i. node_by limit (code_of_tree limit (tree_in (levels - 1) (sym first i))) (code_of_tree limit (read_by (λ us. tree_in (levels - 1) us) (second_list (sym second i)))))

-- where nothing stands in front that opens a list, there is no tree
pub no_list : (limit levels : ℕ) (items : List Lexeme) → 1 ≤ length items → ((ts : List Lexeme) → items ≡ lex.LeftBracket ∷ ts → ⊥) → None ≡ code_of_tree limit (tree_in levels items)
no_list limit levels [] some none = absurd (omega arith)
no_list limit zero (t ∷ ts) some none = refl
no_list limit (suc levels) (lex.LeftBracket ∷ ts) some none = absurd (none ts refl)
no_list limit (suc levels) (t ∷ ts) some none = refl

module _ (limit levels : ℕ) (items ts left behind : List Lexeme) (some : 1 ≤ levels) (is : items ≡ lex.LeftBracket ∷ ts) (first : left ≡ inside 0 ts) (after : behind ≡ after_list 0 ts) where
  right : Option Code
  right = code_of_tree limit (read_by (λ us. tree_in (levels - 1) us) (second_list behind))

  whole : code_of_tree limit (tree_in levels items) ≡ node_by limit (code_of_tree limit (tree_in (levels - 1) left)) right
  unfolding right
  whole = code_of_pair limit levels items ts left behind some is first after

  -- the left one spells no tree
  pub left_none : None ≡ code_of_tree limit (tree_in (levels - 1) left) → None ≡ code_of_tree limit (tree_in levels items)
  left_none none = sym (whole ∙ ap (λ l. node_by limit l right) (sym none))

  -- there is no right one
  pub second_none : second_list behind ≡ None → None ≡ code_of_tree limit (tree_in levels items)
  unfolding right
  second_none none =
      sym (whole ∙ ap (λ us. node_by limit (code_of_tree limit (tree_in (levels - 1) left)) (code_of_tree limit (read_by (λ vs. tree_in (levels - 1) vs) us))) none
      ∙ node_by-none limit (code_of_tree limit (tree_in (levels - 1) left)))

  module _ (second : List Lexeme) (found : second_list behind ≡ Some second) where
    both : code_of_tree limit (tree_in levels items) ≡ node_by limit (code_of_tree limit (tree_in (levels - 1) left)) (code_of_tree limit (tree_in (levels - 1) second))
    unfolding right
    both = whole ∙ ap (λ us. node_by limit (code_of_tree limit (tree_in (levels - 1) left)) (code_of_tree limit (read_by (λ vs. tree_in (levels - 1) vs) us))) found

    -- the right one spells no tree
    pub right_none : None ≡ code_of_tree limit (tree_in (levels - 1) second) → None ≡ code_of_tree limit (tree_in levels items)
    right_none none =
        sym (both ∙ ap (λ r. node_by limit (code_of_tree limit (tree_in (levels - 1) left)) r) (sym none) ∙ node_by-none limit (code_of_tree limit (tree_in (levels - 1) left)))

    -- both spell trees
    pub both_spelled : (l r : Code) → Some l ≡ code_of_tree limit (tree_in (levels - 1) left) → Some r ≡ code_of_tree limit (tree_in (levels - 1) second)
        → node_within limit l r ≡ code_of_tree limit (tree_in levels items)
    both_spelled l r e f = sym (both ∙ (λ i. node_by limit (sym e i) (sym f i)))
