use Rattle.std.proofs.Common.{arith}
use Rattle.basis_representatives.proofs.PackedWords.{all_letters}
use Rattle.packed_words.specs.Sizes.{IsSmallPackedWord}
use Rattle.packed_words.proofs.PackedCodes.{IsCode-packed}
use Rattle.packed_words.proofs.packed.PackedWord.new.Goals as goal

pub returns-in_err-code : goal.returns-in_err-code
returns-in_err-code c =
    rw c.from_residual.ensures (λ (h : IsSmallPackedWord c.args.letters.now). c.in_err-code.ensures (IsCode-packed c.args.letters.now (all_letters _ h.packed) (omega (arith, h.small))))
