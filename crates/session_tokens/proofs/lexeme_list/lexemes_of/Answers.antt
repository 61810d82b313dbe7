use Rattle.std.proofs.Common.{◌≤◌, ◌+◌, length, arith}
use Rattle.session_tokens.proofs.LexemesOfTokens.{lexemes_of-all}
use Rattle.session_tokens.proofs.lexeme_list.lexemes_of.Goals as goal

pub returns : goal.returns
returns c =
    let past : length c.args.tokens.now ≤ c.loop-place.place + 1 = omega (arith, c.saturating_sub-count.ensures, c.loop-place-test.false) in
    lexemes_of-all c.args.text.now c.args.tokens.now c.loop-place.place c.loop-place.lexemes.items past c.loop-place.invariant
