use Rattle.std.proofs.Common.{arith}
use Rattle.basis_representatives.proofs.Permutations.{each_once}
use Rattle.permutation_words.specs.Sizes.{IsSmallPermutation}
use Rattle.permutation_words.proofs.Codes.{IsCode-permutation}
use Rattle.permutation_words.proofs.permutation.Permutation.new.Goals as goal

pub returns-in_err-code : goal.returns-in_err-code
returns-in_err-code c =
    rw c.from_residual.ensures (λ (h : IsSmallPermutation c.args.letters.now). c.in_err-code.ensures (IsCode-permutation c.args.letters.now (each_once _ h.permutation) (omega (arith, h.small))))
