-- Faults that are seen in the lexemes one by one.
use Rattle.std.specs.Prelude.{◌≡◌, ℕ, suc, ◌-◌, ◌^◌, ◌<◌, Bool, true, false, List, [], ◌∷◌, ◌||◌, nat_le, drop, length}
use Rattle.session_tokens.specs.declared.lexeme.Lexeme.{Lexeme}
use Rattle.session_tokens.specs.declared.lexeme.Lexeme.TheVariants as lex

-- so many brackets are open: whether more than 64 come to be; a closing bracket where none is open counts nothing
abbrev pub opens_past_64 : ℕ → List Lexeme → Bool
opens_past_64 depth [] = false
opens_past_64 depth (lex.Open ∷ ts) = nat_le 64 depth || opens_past_64 (suc depth) ts
opens_past_64 depth (lex.LeftBracket ∷ ts) = nat_le 64 depth || opens_past_64 (suc depth) ts
opens_past_64 depth (lex.Close ∷ ts) = opens_past_64 (depth - 1) ts
opens_past_64 depth (lex.RightBracket ∷ ts) = opens_past_64 (depth - 1) ts
opens_past_64 depth (t ∷ ts) = opens_past_64 depth ts

-- a number of at least 2^127 stands in front
abbrev pub begins_large : List Lexeme → Bool
begins_large (lex.Number n ∷ ts) = nat_le (2 ^ 127) n
begins_large _ = false

-- no lexeme before this place begins what is looked for
abbrev pub IsUnseenBefore : (List Lexeme → Bool) → List Lexeme → ℕ → Type 0
IsUnseenBefore begins ls k = (j : ℕ) → j < k → begins (drop j ls) ≡ false

-- no lexeme does
abbrev pub IsUnseen : (List Lexeme → Bool) → List Lexeme → Type 0
IsUnseen begins ls = IsUnseenBefore begins ls (length ls)

-- the lexeme at this place is the first that does
pub record IsFirstSeen (begins : List Lexeme → Bool) (ls : List Lexeme) (k : ℕ) : Type 0 where
  pub within : k < length ls
  pub here : begins (drop k ls) ≡ true
  pub first : IsUnseenBefore begins ls k
