use Rattle.std.proofs.Common.{◌≡◌, false, arith, rules}
use Rattle.realisations.specs.Lists.{is_among}
use Rattle.packed_words.proofs.PackedCodes.{each_number, no_number}
use Rattle.packed_words.proofs.packing.holds_each_number.Goals as goal

pub returns-then-not-among : goal.returns-then-not-among
returns-then-not-among c =
    let none : is_among c.loop-number.number c.args.word.now ≡ false = first_of (cc, grind arith, search rules) in
    no_number c.args.word.now c.loop-number.number (omega arith) (omega arith) none

pub returns : goal.returns
returns c = each_number c.args.word.now c.greatest_letter-number-end.ensures.is_code (λ k low high. c.loop-number.invariant k low (omega (arith, high)))
