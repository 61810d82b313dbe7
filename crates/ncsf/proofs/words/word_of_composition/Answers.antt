use Rattle.std.proofs.Common.{◌+◌, ◌-◌, ◌++◌, length, drop, get_or, replicate, sym, subst, arith}
use Rattle.linear_combos.specs.Codes.{IsCode}
use Rattle.linear_combos.proofs.Words.{IsCode-left}
use Rattle.realisations.specs.Codes.{Code}
use Rattle.realisations.specs.Descents.{word_of_composition}
use Rattle.ncsf.proofs.WordCodes.{word_code, word_of-next}
use Rattle.ncsf.proofs.words.word_of_composition.Goals as goal

pub with_repeated-word-requires : goal.with_repeated-word-requires
with_repeated-word-requires c =
    let parts : Code = c.args.parts.now in
    let at = c.loop-at.at in
    rw (c.letter.ensures, c.len.ensures.value)
    (IsCode-left (c.loop-at.word ++ replicate (get_or parts at 0) (length parts - at)) (word_of_composition (drop (at + 1) parts))
    (subst IsCode (sym (word_of-next parts at c.loop-at.word (omega arith) c.loop-at.invariant)) (word_code parts c.requires)))
