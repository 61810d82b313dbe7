use Rattle.std.proofs.Common.{arith}
use Rattle.realisations.specs.Standardisation.{standardise}
use Rattle.basis_representatives.proofs.SameOrder.{length-standardise}
use Rattle.permutation_words.proofs.Building.{next_code, whole_front}
use Rattle.permutation_words.proofs.Codes.{IsCode-standardise}
use Rattle.permutation_words.proofs.words.standardise.Goals as goal

pub with-letters-requires : goal.with-letters-requires
with-letters-requires c =
    next_code (standardise c.args.word.now) c.loop-at.letters c.loop-at.at c.standard_letter.result (IsCode-standardise c.args.word.now c.len-at-end.ensures.is_code.short)
    (omega (arith, length-standardise c.args.word.now, c.len-at-end.ensures.value)) c.loop-at.invariant c.standard_letter.ensures

pub returns : goal.returns
returns c = whole_front (standardise c.args.word.now) c.loop-at.letters c.loop-at.at (omega (arith, length-standardise c.args.word.now, c.len-at-end.ensures.value)) c.loop-at.invariant
