use Rattle.std.proofs.Common.{sym}
use Rattle.permutation_words.proofs.Counting.{letter-standardise}
use Rattle.permutation_words.proofs.letters.standard_letter.Goals as goal

pub returns : goal.returns
returns c = rw (c.number_below.ensures.value, c.number_of.ensures.value, c.prefix-front.ensures, c.letter-letter.ensures) (sym (letter-standardise c.args.word.now c.args.at c.requires))
