-- The law of statements.
use Rattle.std.specs.Prelude.{◌≡◌, List}
use Rattle.session_tokens.specs.declared.lexeme.Lexeme.{Lexeme}
use Rattle.session_grammar.specs.declared.parsed.Parsed.{Parsed}
use Rattle.session_grammar.specs.Parses.{IsParsed}

-- each list of lexemes is parsed in one way
abbrev pub StatementLaw : Type 0
StatementLaw = (ls : List Lexeme) → (parsed : Parsed) × IsParsed ls parsed × ((other : Parsed) → IsParsed ls other → other ≡ parsed)
