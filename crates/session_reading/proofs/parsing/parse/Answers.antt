use Rattle.std.proofs.Common.{◌≡◌, List, ◌∙◌, ap, subst, Ok, Err}
use Rattle.std.proofs.lemmas.Result.{err_from_is_err_and}
use Rattle.session_tokens.specs.declared.lexeme.Lexeme.{Lexeme}
use Rattle.session_tokens.specs.declared.token.Token.{Token}
use Rattle.session_tokens.specs.Lexemes.{lexemes_of}
use Rattle.session_reading.specs.Parses.{Judges, no_memory, answered, fault_at}
use Rattle.session_reading.proofs.parsing.parse.Goals as goal

pub returns-in_err-tokens : goal.returns-in_err-tokens
returns-in_err-tokens c = let p = err_from_is_err_and c.from_residual.result c.from_residual.ensures.1 in rw (p.1, p.2) no_memory

pub returns-in_err-lexemes : goal.returns-in_err-lexemes
returns-in_err-lexemes c = let p = err_from_is_err_and c.from_residual-in_err-lexemes.result c.from_residual-in_err-lexemes.ensures.1 in rw (p.1, p.2) no_memory

pub returns-in_err-statement : goal.returns-in_err-statement
returns-in_err-statement c = let p = err_from_is_err_and c.from_residual-in_err-statement.result c.from_residual-in_err-statement.ensures.1 in rw (p.1, p.2) no_memory

pub returns-in-Ok : goal.returns-in-Ok
returns-in-Ok c =
    let same : c.in_ok-lexemes.lexemes.items ≡ lexemes_of c.args.text.now c.in_ok-tokens.tokens = c.in_ok-lexemes.ensures ∙ ap (λ (ts : List Token). lexemes_of c.args.text.now ts) c.as_slice.ensures in
    answered record {
      tokens = c.in_ok-tokens.tokens;
      are = c.in_ok-tokens.ensures;
      answers = subst (λ (ls : List Lexeme). Judges ls (Ok c.in-Ok.statement)) same (subst (Judges c.in_ok-lexemes.lexemes.items) c.in-Ok.is c.in_ok-statement.ensures);
    }

pub returns : goal.returns
returns c =
    let same : c.in_ok-lexemes.lexemes.items ≡ lexemes_of c.args.text.now c.in_ok-tokens.tokens = c.in_ok-lexemes.ensures ∙ ap (λ (ts : List Token). lexemes_of c.args.text.now ts) c.as_slice.ensures in
    answered record {
      tokens = c.in_ok-tokens.tokens;
      are = c.in_ok-tokens.ensures;
      answers = (
        c.in-Err.flaw,
        subst (λ (ls : List Lexeme). Judges ls (Err c.in-Err.flaw)) same (subst (Judges c.in_ok-lexemes.lexemes.items) c.in-Err.is c.in_ok-statement.ensures),
        c.fault_of.ensures ∙ ap (λ (ts : List Token). fault_at ts c.in-Err.flaw) c.as_slice-in-Err.ensures,
      );
    }
