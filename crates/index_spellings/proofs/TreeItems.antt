-- The items of trees, and the brackets in them.
use Rattle.std.proofs.Common.{◌≡◌, ℕ, suc, List, [], ◌∷◌, ◌++◌, refl, sym, ◌∙◌, ap, append_assoc}
use Rattle.realisations.specs.Trees.{Tree, empty, node}
use Rattle.session_grammar.specs.Grammar.{inside}
use Rattle.session_tokens.specs.declared.lexeme.Lexeme.{Lexeme}
use Rattle.session_tokens.specs.declared.lexeme.Lexeme.TheVariants as lex
use Rattle.index_spellings.specs.Items.{after_list}
use Rattle.index_spellings.specs.Spellings.{tree_items}

-- the lexemes of a node, and others behind them
pub node_items : (l r : Tree) (ts : List Lexeme) → tree_items (node l r) ++ ts ≡ lex.LeftBracket ∷ (tree_items l ++ (lex.RightBracket ∷ lex.Comma ∷ lex.LeftBracket ∷ (tree_items r ++ (lex.RightBracket ∷ ts))))
node_items l r ts =
    let second : List Lexeme = lex.Comma ∷ lex.LeftBracket ∷ (tree_items r ++ (lex.RightBracket ∷ [])) in
    ap (λ us. lex.LeftBracket ∷ us)
    (append_assoc (tree_items l ++ (lex.RightBracket ∷ [])) second ts
    ∙ append_assoc (tree_items l) (lex.RightBracket ∷ []) (second ++ ts)
    ∙ ap (λ us. tree_items l ++ (lex.RightBracket ∷ lex.Comma ∷ lex.LeftBracket ∷ us)) (append_assoc (tree_items r) (lex.RightBracket ∷ []) ts))

pub inside-items : (t : Tree) (depth : ℕ) (ts : List Lexeme) → inside depth (tree_items t ++ ts) ≡ tree_items t ++ inside depth ts
inside-items empty depth ts = refl
inside-items (node l r) depth ts =
    let left = inside-items l (suc depth) (lex.RightBracket ∷ lex.Comma ∷ lex.LeftBracket ∷ (tree_items r ++ (lex.RightBracket ∷ ts))) in
    let right = inside-items r (suc depth) (lex.RightBracket ∷ ts) in
    ap (inside depth) (node_items l r ts)
    ∙ ap (λ us. lex.LeftBracket ∷ us) (left ∙ ap (λ us. tree_items l ++ (lex.RightBracket ∷ lex.Comma ∷ lex.LeftBracket ∷ us)) right)
    ∙ sym (node_items l r (inside depth ts))

pub after-items : (t : Tree) (depth : ℕ) (ts : List Lexeme) → after_list depth (tree_items t ++ ts) ≡ after_list depth ts
after-items empty depth ts = refl
after-items (node l r) depth ts =
    ap (after_list depth) (node_items l r ts)
    ∙ after-items l (suc depth) (lex.RightBracket ∷ lex.Comma ∷ lex.LeftBracket ∷ (tree_items r ++ (lex.RightBracket ∷ ts)))
    ∙ after-items r (suc depth) (lex.RightBracket ∷ ts)
