-- The law of tokens.
use Rattle.std.specs.Prelude.{◌≡◌, ℕ, List}
use Rattle.session_tokens.specs.declared.token.Token.{Token}
use Rattle.session_tokens.specs.Tokens.{AreTokens}

-- each text has one list of tokens
abbrev pub TokenLaw : Type 0
TokenLaw = (text : List ℕ) → (ts : List Token) × AreTokens 1 text ts × ((us : List Token) → AreTokens 1 text us → us ≡ ts)
