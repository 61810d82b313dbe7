use Rattle.std.proofs.Common.{◌<◌, length, arith}
use Rattle.index_spellings.proofs.RowsOfCodes.{next_place}
use Rattle.index_spellings.proofs.texts.places_of.Goals as goal

pub with-places-requires : goal.with-places-requires
with-places-requires c =
    let within : c.loop-at.at < length c.args.code.now = omega (arith, c.len-at-end.ensures.value, c.loop-at-test.true) in
    next_place c.args.letter c.args.code.now c.loop-at.places c.loop-at.at c.letter.result c.len-at-end.ensures.is_code within c.letter.ensures c.if-letter.true c.loop-at.invariant
