use Rattle.std.proofs.Common.{arith, subst, sym}
use Rattle.basis_representatives.proofs.Inverses.{length-inverse, permutation-inverse}
use Rattle.basis_representatives.proofs.Permutations.{each_once, permutation_from}
use Rattle.permutation_words.specs.Sizes.{IsSmallPermutation}
use Rattle.realisations.specs.Standardisation.{inverse}
use Rattle.inclusion_rules.proofs.standard_tableaux.FsymSInclusionInFqsymG.image_of.Goals as goal

pub insertion_code-requires : goal.insertion_code-requires
insertion_code-requires c =
    let s = c.args.code.now in
    subst IsSmallPermutation (sym c.inverse-inverse.ensures)
    (record { permutation = permutation_from (inverse s) (permutation-inverse s (each_once s c.requires.index)); small = omega (arith, length-inverse s, c.requires.degree) })
