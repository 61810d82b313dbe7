use Rattle.std.proofs.Common.{◌≡◌, length, take, drop}
use Rattle.session_grammar.specs.ParserSteps.{state_with}
use Rattle.session_grammar.proofs.ReachedStates.{IsReached}
use Rattle.session_grammar.proofs.parsed.read.Given as goal

abbrev pub invariant-loop-place : goal.invariant-loop-place
invariant-loop-place l =
    IsReached (take l.place l.fn.lexemes.items) (state_with l.stack l.mode) ×
    (drop l.place l.lexemes.items ≡ drop l.place l.fn.lexemes.items) ×
    (length l.lexemes.items ≡ length l.fn.lexemes.items)
