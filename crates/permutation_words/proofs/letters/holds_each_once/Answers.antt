use Rattle.std.proofs.Common.{arith}
use Rattle.permutation_words.proofs.Counting.{all_once, not_once}
use Rattle.permutation_words.proofs.letters.holds_each_once.Goals as goal

pub returns-then-number_of-ne1 : goal.returns-then-number_of-ne1
returns-then-number_of-ne1 c =
    not_once c.args.word.now c.loop-number.number (omega arith) (omega arith) (λ e. absurd (omega (arith, e, c.number_of.ensures.value, c.if-number_of-ne1.true)))

pub returns : goal.returns
returns c = all_once c.args.word.now (λ k low high. c.loop-number.invariant k low (omega (arith, high)))
