use Rattle.std.proofs.Common.{◌∙◌, ap, arith, subst, sym}
use Rattle.fsym.proofs.Indices.{small_places, small_standard}
use Rattle.permutation_words.specs.Sizes.{IsSmallPermutation}
use Rattle.realisations.specs.Standardisation.{inverse}
use Rattle.inclusion_rules.proofs.standard_tableaux.FsymSInclusionInWqsymM.image_of.Goals as goal

pub inverse-inverse-requires : goal.inverse-inverse-requires
inverse-inverse-requires c = subst IsSmallPermutation (sym c.standardise-standard.ensures) (small_standard c.args.word.now (omega (arith, c.requires.degree)))

pub insertion_code-requires : goal.insertion_code-requires
insertion_code-requires c =
    subst IsSmallPermutation (sym (c.inverse-inverse.ensures ∙ ap inverse c.standardise-standard.ensures)) (small_places c.args.word.now (omega (arith, c.requires.degree)))
