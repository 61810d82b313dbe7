use Rattle.std.proofs.Common.{◌≡◌, true, false, subst, List, MatchOption, Option}
use Rattle.session_tokens.specs.declared.lexeme.Lexeme.{Lexeme}
use Rattle.session_reading.specs.declared.parsing.Flaw.{Flaw}
use Rattle.session_reading.specs.Faults.{opens_past_64}
use Rattle.session_reading.specs.Parses.{IsFlawless, IsFlawOfStatement, too_deep, no_statement, in_statement}
use Rattle.session_grammar.specs.Parses.{IsParsed}
use Rattle.session_reading.proofs.parsing.judge.Goals as goal

pub returns-then-is_too_deep : goal.returns-then-is_too_deep
returns-then-is_too_deep c = too_deep (let deep : opens_past_64 0 c.args.lexemes.items ≡ true = search in deep)

pub returns-in-Stops : goal.returns-in-Stops
returns-in-Stops c =
    no_statement (let shallow : opens_past_64 0 c.args.lexemes.items ≡ false = search in shallow)
    (subst (IsParsed c.args.lexemes.items) c.in-Stops.is c.in_ok-place.ensures)

pub returns-in-Some : goal.returns-in-Some
returns-in-Some c =
    in_statement (let shallow : opens_past_64 0 c.args.lexemes.items ≡ false = search in shallow)
    (subst (IsParsed c.args.lexemes.items) c.in-Read.is c.in_ok-place.ensures).is
    (subst (λ (ls : List Lexeme). IsFlawOfStatement ls c.in-Some.flaw) c.as_slice-2.ensures.value
    (subst (λ (o : Option Flaw). MatchOption o (IsFlawless c.as_slice-2.result.now) (λ f. IsFlawOfStatement c.as_slice-2.result.now f)) c.in-Some.is c.in_ok-flaw.ensures))
