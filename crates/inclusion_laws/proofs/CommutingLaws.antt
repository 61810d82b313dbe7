-- The commuting images of elements of WQSym, FQSym, NCSF, PBT and FSym.
use Rattle.std.proofs.Common.{refl, ◌∙◌, ap}
use Rattle.basis_names.specs.declared.bases.BasisId.TheVariants.{FqsymF, FqsymG, FsymS, NcsfR, PbtP, QsymF, QsymM, WqsymM}
use Rattle.realisations.specs.Descents.{descent_composition}
use Rattle.realisations.specs.Lists.{one_if}
use Rattle.realisations.specs.Occurrence.{occurs}
use Rattle.realisations.specs.Standardisation.{inverse}
use Rattle.realisations.specs.Tableaux.{insertion_tableau, tableau_code}
use Rattle.realisations.specs.Trees.{decreasing_tree, tree_code}
use Rattle.realisations.specs.Words.{words_of}
use Rattle.realisations.proofs.Sums.{sums_same}
use Rattle.basis_representatives.proofs.Inverses.{length-inverse}
use Rattle.inclusion_laws.specs.CommutingImages.{evaluation}
use Rattle.inclusion_laws.specs.Laws.{FundamentalImageLaw, PackedImageLaw}
use Rattle.inclusion_laws.proofs.CommutingImages.{CountsAsImage, KeepsDegrees, commutes_as, commutes_through}
use Rattle.inclusion_laws.proofs.FundamentalImages.{descents_keep, fundamental_counts}
use Rattle.inclusion_laws.proofs.InclusionsOfClasses.{inverse_index, occurs-inverse, ribbons_over_f, ribbons_over_m, tableaux_over_f, trees_over_f}
use Rattle.inclusion_laws.proofs.PackedImages.{evaluation_counts, evaluation_keeps}

-- over M
pub packed_images_law : PackedImageLaw
packed_images_law = record {
  packed_words = commutes_as WqsymM QsymM (λ u. evaluation u) refl evaluation_keeps evaluation_counts;
  ribbons = commutes_through WqsymM NcsfR QsymM (λ u. descent_composition u) (λ u. evaluation u) refl refl evaluation_keeps evaluation_counts ribbons_over_m;
}

-- G of a permutation is F of its inverse
inverse_counts : CountsAsImage FqsymG QsymF (λ s. descent_composition (inverse s))
inverse_counts p s is =
    sums_same (λ w. one_if (occurs FqsymG s w)) (λ w. one_if (occurs FqsymF (inverse s) w)) (λ w. ap one_if (occurs-inverse s w is).1) (words_of p)
    ∙ fundamental_counts p (inverse s) (inverse_index s is)

inverse_keeps : KeepsDegrees FqsymG QsymF (λ s. descent_composition (inverse s))
inverse_keeps s is = let k = descents_keep (inverse s) (inverse_index s is) in (k.0, k.1 ∙ length-inverse s)

-- over F
pub fundamental_images_law : FundamentalImageLaw
fundamental_images_law = record {
  permutations_f = commutes_as FqsymF QsymF (λ s. descent_composition s) refl descents_keep fundamental_counts;
  permutations_g = commutes_as FqsymG QsymF (λ s. descent_composition (inverse s)) refl inverse_keeps inverse_counts;
  ribbons = commutes_through FqsymF NcsfR QsymF (λ s. descent_composition (inverse s)) (λ s. descent_composition s) refl refl descents_keep fundamental_counts ribbons_over_f;
  trees = commutes_through FqsymF PbtP QsymF (λ s. tree_code (decreasing_tree (inverse s))) (λ s. descent_composition s) refl refl descents_keep fundamental_counts trees_over_f;
  tableaux = commutes_through FqsymF FsymS QsymF (λ s. tableau_code (insertion_tableau s)) (λ s. descent_composition s) refl refl descents_keep fundamental_counts tableaux_over_f;
}
