use Rattle.std.proofs.Common.{◌+◌, ◌∙◌, refl, arith}
use Rattle.realisations.specs.Standardisation.{pack}
use Rattle.realisations.proofs.Packing.{length-pack}
use Rattle.permutation_words.proofs.Building.{next_code, next_front, whole_front}
use Rattle.packed_words.proofs.PackedCodes.{IsCode-pack, letter-pack}
use Rattle.packed_words.proofs.packing.pack.Goals as goal

pub with-letters-requires : goal.with-letters-requires
with-letters-requires c =
    next_code (pack c.args.word.now) c.loop-at.letters c.loop-at.at c.rank.result (IsCode-pack c.args.word.now c.len-at-end.ensures.is_code.short)
    (omega (arith, length-pack c.args.word.now, c.len-at-end.ensures.value)) c.loop-at.invariant
    (letter-pack c.args.word.now c.loop-at.at c.letter.result c.rank.result (omega (arith, c.len-at-end.ensures.value)) c.letter.ensures c.rank.ensures.value)

pub returns : goal.returns
returns c = whole_front (pack c.args.word.now) c.loop-at.letters c.loop-at.at (omega (arith, length-pack c.args.word.now, c.len-at-end.ensures.value)) c.loop-at.invariant

pub loop-at-preserved : goal.loop-at-preserved
loop-at-preserved c =
    c.with-letters.ensures
    ∙ next_front (pack c.args.word.now) c.loop-at.letters c.loop-at.at (c.loop-at.at + 1) c.rank.result (omega (arith, length-pack c.args.word.now, c.len-at-end.ensures.value)) refl c.loop-at.invariant
    (letter-pack c.args.word.now c.loop-at.at c.letter.result c.rank.result (omega (arith, c.len-at-end.ensures.value)) c.letter.ensures c.rank.ensures.value)
