-- Laws of inclusions and of commuting images. Public functions with empty bodies ensure them (`src/laws.rt`, `src/commuting_laws.rt`).
use Rattle.std.specs.Prelude.{◌≡◌}
use Rattle.basis_names.specs.declared.bases.BasisId.TheVariants.{FqsymF, FqsymG, FsymS, NcsfR, PbtP, QsymF, QsymM, WqsymM}
use Rattle.inclusion_laws.specs.CommutingImages.{CommutesAs, CommutesThrough, evaluation}
use Rattle.inclusion_laws.specs.DescentsOfIndices.{descents_of_tableau, descents_of_tree}
use Rattle.inclusion_laws.specs.Inclusions.{IsByInverse, IsInclusion}
use Rattle.realisations.specs.Descents.{descent_composition}
use Rattle.realisations.specs.Points.{Point}
use Rattle.realisations.specs.Standardisation.{inverse, pack, standardise}
use Rattle.realisations.specs.Tableaux.{insertion_tableau, recording_tableau, tableau_code}
use Rattle.realisations.specs.Trees.{decreasing_tree, tree_code}
use Rattle.tree_laws.specs.SearchTrees.{search_tree, shape}

-- a ribbon is a sum of elements of FQSym (Malvenuto, Reutenauer 1995), PBT (Loday, Ronco 1998), FSym (Poirier, Reutenauer 1995) and WQSym (Novelli, Thibon 2006), by the descents of their indices
pub record RibbonLaw : Type 0 where
  pub in_fqsym_g : IsInclusion FqsymG NcsfR (λ s. descent_composition s)
  pub in_fqsym_f : IsInclusion FqsymF NcsfR (λ s. descent_composition (inverse s))
  pub in_pbt : IsInclusion PbtP NcsfR (λ code. descents_of_tree code)
  pub in_fsym : IsInclusion FsymS NcsfR (λ code. descents_of_tableau code)
  pub in_wqsym : IsInclusion WqsymM NcsfR (λ u. descent_composition u)

-- an element of PBT is a sum of elements of FQSym and of WQSym, by the decreasing tree; for F by that of the inverse, or equally by the binary search tree (Hivert, Novelli, Thibon 2005)
pub record TreeLaw : Type 0 where
  pub in_fqsym_g : IsInclusion FqsymG PbtP (λ s. tree_code (decreasing_tree s))
  pub in_fqsym_f : IsInclusion FqsymF PbtP (λ s. tree_code (decreasing_tree (inverse s)))
  pub by_search_tree : IsInclusion FqsymF PbtP (λ s. tree_code (shape (search_tree s)))
  pub in_wqsym : IsInclusion WqsymM PbtP (λ u. tree_code (decreasing_tree u))

-- an element of FSym is a sum of elements of FQSym and of WQSym: for F by the insertion tableau, for G by that of the inverse, for M by the recording tableau (Poirier, Reutenauer 1995)
pub record TableauLaw : Type 0 where
  pub in_fqsym_f : IsInclusion FqsymF FsymS (λ s. tableau_code (insertion_tableau s))
  pub in_fqsym_g : IsInclusion FqsymG FsymS (λ s. tableau_code (insertion_tableau (inverse s)))
  pub in_wqsym : IsInclusion WqsymM FsymS (λ u. tableau_code (recording_tableau u))

-- an element of FQSym is a sum of elements of WQSym, by standardisation, for F by its inverse (Hivert 1999)
pub record StandardisationLaw : Type 0 where
  pub g_in_wqsym : IsInclusion WqsymM FqsymG (λ u. standardise u)
  pub f_in_wqsym : IsInclusion WqsymM FqsymF (λ u. inverse (standardise u))

-- F of a permutation is G of its inverse, and the other way round (Duchamp, Hivert, Thibon 2002): inclusions in both directions, each of one element
pub record InverseLaw : Type 0 where
  pub f_in_g : IsInclusion FqsymG FqsymF (λ s. inverse s)
  pub g_in_f : IsInclusion FqsymF FqsymG (λ s. inverse s)
  pub f_is_g : IsByInverse FqsymF FqsymG
  pub g_is_f : IsByInverse FqsymG FqsymF

-- the packing of a word determines its standardisation, this one its decreasing tree and its recording tableau, and each of them its descents
pub record DeterminingLaw : Type 0 where
  pub standardisation_by_packing : (w : Point) → standardise (pack w) ≡ standardise w
  pub tree_by_standardisation : (w : Point) → decreasing_tree (standardise w) ≡ decreasing_tree w
  pub tableau_by_standardisation : (w : Point) → recording_tableau (standardise w) ≡ recording_tableau w
  pub descents_by_standardisation : (w : Point) → descent_composition (standardise w) ≡ descent_composition w
  pub descents_by_tree : (w : Point) → descents_of_tree (tree_code (decreasing_tree w)) ≡ descent_composition w
  pub descents_by_tableau : (w : Point) → descents_of_tableau (tableau_code (recording_tableau w)) ≡ descent_composition w

-- the commuting image of M of a packed word is M of its evaluation (Hivert 1999), and that of a ribbon the sum of M of the evaluations of the packed words with its descents
pub record PackedImageLaw : Type 0 where
  pub packed_words : CommutesAs WqsymM QsymM (λ u. evaluation u)
  pub ribbons : CommutesThrough WqsymM NcsfR QsymM (λ u. descent_composition u) (λ u. evaluation u)

-- the commuting image of F of a permutation is F of its descent composition (Malvenuto, Reutenauer 1995), and that of G of it F of that of the inverse; those of ribbons, trees and tableaux are sums of F of the descent compositions of the permutations over them
pub record FundamentalImageLaw : Type 0 where
  pub permutations_f : CommutesAs FqsymF QsymF (λ s. descent_composition s)
  pub permutations_g : CommutesAs FqsymG QsymF (λ s. descent_composition (inverse s))
  pub ribbons : CommutesThrough FqsymF NcsfR QsymF (λ s. descent_composition (inverse s)) (λ s. descent_composition s)
  pub trees : CommutesThrough FqsymF PbtP QsymF (λ s. tree_code (decreasing_tree (inverse s))) (λ s. descent_composition s)
  pub tableaux : CommutesThrough FqsymF FsymS QsymF (λ s. tableau_code (insertion_tableau s)) (λ s. descent_composition s)
