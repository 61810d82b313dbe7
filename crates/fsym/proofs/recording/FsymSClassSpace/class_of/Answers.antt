use Rattle.std.proofs.Common.{◌≡◌, ◌∙◌, ap, subst, sym, arith}
use Rattle.basis_names.specs.declared.bases.BasisId.TheVariants.{FsymS}
use Rattle.index_rules.specs.Spaces.{IsClass}
use Rattle.permutation_words.specs.Sizes.{IsSmallPermutation}
use Rattle.realisations.specs.Standardisation.{inverse, standardise}
use Rattle.realisations.specs.Tableaux.{insertion_tableau, tableau_code}
use Rattle.fsym.proofs.Indices.{small_places, small_standard, tableau_class}
use Rattle.fsym.proofs.recording.FsymSClassSpace.class_of.Goals as goal

pub inverse-places-requires : goal.inverse-places-requires
inverse-places-requires c = subst IsSmallPermutation (sym c.standardise-standard.ensures) (small_standard c.args.point.now (omega (arith, c.requires)))

pub insertion_code-requires : goal.insertion_code-requires
insertion_code-requires c =
    subst IsSmallPermutation (sym (c.inverse-places.ensures ∙ ap inverse c.standardise-standard.ensures)) (small_places c.args.point.now (omega (arith, c.requires)))

pub returns : goal.returns
returns c =
    let places : c.inverse-places.result ≡ inverse (standardise c.args.point.now) = c.inverse-places.ensures ∙ ap inverse c.standardise-standard.ensures in
    subst (IsClass FsymS c.args.point.now) (sym (c.insertion_code.ensures ∙ ap (λ s. tableau_code (insertion_tableau s)) places)) (tableau_class c.args.point.now)
