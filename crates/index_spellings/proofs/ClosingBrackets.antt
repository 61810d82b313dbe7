-- The bracket that closes a list.
use Rattle.std.proofs.Common.{◌≡◌, ℕ, suc, ◌<◌, List, ◌∷◌, length, drop, get_or, sym, ◌∙◌, ap, drop-cons}
use Rattle.session_tokens.specs.declared.lexeme.Lexeme.{Lexeme}
use Rattle.session_tokens.specs.declared.lexeme.Lexeme.TheVariants as lex
use Rattle.index_spellings.specs.Items.{after_list}

-- behind it stands what is left
pub behind_bracket : (ts : List Lexeme) (i depth : ℕ) (t : Lexeme) → i < length ts → get_or ts i t ≡ lex.RightBracket → depth ≡ 0
    → after_list depth (drop i ts) ≡ after_list 0 ts → drop (suc i) ts ≡ after_list 0 ts
behind_bracket ts i depth t lt is zero kept =
    let step : drop i ts ≡ lex.RightBracket ∷ drop (suc i) ts = drop-cons ts i t lt ∙ ap (λ u. u ∷ drop (suc i) ts) is in
    sym (ap (λ us. after_list 0 us) step) ∙ ap (λ d. after_list d (drop i ts)) (sym zero) ∙ kept
