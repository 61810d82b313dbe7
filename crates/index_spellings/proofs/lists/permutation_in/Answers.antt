use Rattle.std.proofs.Common.{◌∙◌, length, arith}
use Rattle.realisations.specs.IndexKinds.{is_permutation}
use Rattle.permutation_words.proofs.Codes.{IsCode-permutation}
use Rattle.basis_representatives.proofs.Permutations.{each_once}
use Rattle.index_spellings.specs.Items.{numbers_in}
use Rattle.index_spellings.proofs.Spellings.{nothing-spelled}
use Rattle.index_spellings.proofs.lists.permutation_in.Goals as goal

pub returns-in_err-code : goal.returns-in_err-code
returns-in_err-code c =
    c.from_residual.ensures
    ∙ nothing-spelled c.args.limit is_permutation (λ letters. length letters) (λ letters. letters) (numbers_in c.args.items.now)
    (λ code is h. c.in_err-code.ensures code is (IsCode-permutation code (each_once code h.0) (omega (arith, h.1, c.requires))))
