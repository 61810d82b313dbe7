use Rattle.index_spellings.proofs.ClosingBrackets.{behind_bracket}
use Rattle.index_spellings.proofs.brackets.inside_length.Goals as goal

pub returns-then-depth-eq0-clause-after : goal.returns-then-depth-eq0-clause-after
returns-then-depth-eq0-clause-after c =
    behind_bracket c.args.lexemes.now c.loop-place.place c.loop-place.depth _ c.loop-place-test.true c.in-RightBracket.is c.if-depth-eq0.true c.loop-place.invariant.after
