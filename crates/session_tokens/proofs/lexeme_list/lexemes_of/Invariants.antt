use Rattle.std.proofs.Common.{◌≡◌, ◌++◌, drop}
use Rattle.session_tokens.specs.Lexemes.{lexemes_of}
use Rattle.session_tokens.proofs.lexeme_list.lexemes_of.Given as goal

abbrev pub invariant-loop-place : goal.invariant-loop-place
invariant-loop-place l = lexemes_of l.text l.tokens ≡ l.lexemes.items ++ lexemes_of l.text (drop l.place l.tokens)
