-- The inclusions between NCSF, FSym, PBT, FQSym and WQSym: which classes of words determine which.
use Rattle.std.proofs.Common.{◌≡◌, ℕ, ◌*◌, List, [], ◌∷◌, refl, sym, ◌∙◌, ap, arith}
use Rattle.std.specs.Prelude.{IsTrue}
use Rattle.std.proofs.Math.Nat.{one-le-pow}
use Rattle.basis_names.specs.declared.bases.BasisId.{BasisId}
use Rattle.basis_names.specs.declared.bases.BasisId.TheVariants.{FqsymF, FqsymG, FsymS, NcsfR, PbtP, WqsymM}
use Rattle.realisations.specs.Combinations.{Combination}
use Rattle.realisations.specs.Descents.{descent_composition}
use Rattle.realisations.specs.IndexKinds.{is_permutation}
use Rattle.realisations.specs.Indices.{IsIndex, degree_of}
use Rattle.realisations.specs.Lists.{one_if}
use Rattle.realisations.specs.Occurrence.{occurs}
use Rattle.realisations.specs.Standardisation.{inverse, pack, standardise}
use Rattle.realisations.specs.Tableaux.{insertion_tableau, recording_tableau, tableau_code}
use Rattle.realisations.specs.Trees.{decreasing_tree, tree_code}
use Rattle.realisations.proofs.DescentCompositions.{descends}
use Rattle.realisations.proofs.Packing.{decreasing_tree-pack, descent_composition-pack, standardise-pack}
use Rattle.basis_representatives.proofs.Inverses.{inverse-inverse, length-inverse, permutation-inverse}
use Rattle.basis_representatives.proofs.Permutations.{each_once, permutation-standardise, permutation_from}
use Rattle.basis_representatives.proofs.SameLists.{same_list-both}
use Rattle.basis_representatives.proofs.SameOrder.{descent_composition-standardise, standardise-standardise}
use Rattle.basis_representatives.proofs.TreeCodes.{decreasing_tree-standardise}
use Rattle.linear_combos.specs.Combos.{IsSumOfTerms}
use Rattle.product_laws.specs.Products.{terms_of_codes}
use Rattle.product_laws.proofs.CutRules.{by_packings, by_standardisations}
use Rattle.product_laws.proofs.ShuffleRule.{by_inverses}
use Rattle.product_laws.proofs.TableauRule.{by_tableaux}
use Rattle.product_laws.proofs.TreeRule.{by_trees}
use Rattle.tree_laws.specs.SearchTrees.{search_tree, shape}
use Rattle.tree_laws.proofs.SearchTrees.{shape-search_tree}
use Rattle.inclusion_laws.specs.DescentsOfIndices.{descents_of_tableau, descents_of_tree}
use Rattle.inclusion_laws.specs.Inclusions.{IsByInverse, IsInverted}
use Rattle.inclusion_laws.specs.Laws.{DeterminingLaw, InverseLaw, RibbonLaw, StandardisationLaw, TableauLaw, TreeLaw}
use Rattle.inclusion_laws.proofs.DescentsOfIndices.{descents_of_tableau-recording, descents_of_tree-decreasing}
use Rattle.inclusion_laws.proofs.SumsOfElements.{AreOver, gathered_code, included, norm_of-codes}
use Rattle.inclusion_laws.proofs.Inclusions.{GoesOver, HasClasses, goes_over, has_classes, inclusion}
use Rattle.inclusion_laws.proofs.ListedIndices.{packed_words, permutations_f, permutations_g, tableaux, trees}

-- a word is in the class of its descent composition
ribbons : HasClasses NcsfR descent_composition
ribbons = record { occurs_at = λ code p. refl; degree = λ p. (descends p).0 }

-- the inverse of the inverse of a standardisation
inverse-twice : (w : List ℕ) → inverse (inverse (standardise w)) ≡ standardise w
inverse-twice w = inverse-inverse (standardise w) (permutation-standardise w)

-- what the standardisation of a word determines, over G
from_g : (coarse : BasisId) (class_of : List ℕ → List ℕ) → HasClasses coarse class_of → (to : List ℕ → List ℕ) → ((w : List ℕ) → to (standardise w) ≡ class_of w) → GoesOver FqsymG coarse to
from_g coarse class_of has to brings = goes_over FqsymG permutations_g (λ p. standardise p) _ _ by_standardisations coarse class_of has to brings

-- what its inverse determines, over F
from_f : (coarse : BasisId) (class_of : List ℕ → List ℕ) → HasClasses coarse class_of → (to : List ℕ → List ℕ) → ((w : List ℕ) → to (inverse (standardise w)) ≡ class_of w) → GoesOver FqsymF coarse to
from_f coarse class_of has to brings = goes_over FqsymF permutations_f (λ p. inverse (standardise p)) _ _ by_inverses coarse class_of has to brings

-- and what its packing determines, over M
from_m : (coarse : BasisId) (class_of : List ℕ → List ℕ) → HasClasses coarse class_of → (to : List ℕ → List ℕ) → ((w : List ℕ) → to (pack w) ≡ class_of w) → GoesOver WqsymM coarse to
from_m coarse class_of has to brings = goes_over WqsymM packed_words (λ p. pack p) _ _ by_packings coarse class_of has to brings

-- the other classes
standardised : HasClasses FqsymG (λ p. standardise p)
standardised = has_classes FqsymG _ _ _ by_standardisations

inverted : HasClasses FqsymF (λ p. inverse (standardise p))
inverted = has_classes FqsymF _ _ _ by_inverses

tree_codes : HasClasses PbtP (λ p. tree_code (decreasing_tree p))
tree_codes = has_classes PbtP _ _ _ by_trees

tableau_codes : HasClasses FsymS (λ p. tableau_code (recording_tableau p))
tableau_codes = has_classes FsymS _ _ _ by_tableaux

-- by standardisation
pub standardisations : StandardisationLaw
standardisations = record {
  g_in_wqsym = inclusion WqsymM FqsymG (λ u. standardise u) (from_m FqsymG _ standardised _ (λ w. standardise-pack w));
  f_in_wqsym = inclusion WqsymM FqsymF (λ u. inverse (standardise u)) (from_m FqsymF _ inverted _ (λ w. ap inverse (standardise-pack w)));
}

-- ribbons by descents, over F
pub ribbons_over_f : GoesOver FqsymF NcsfR (λ s. descent_composition (inverse s))
ribbons_over_f = from_f NcsfR descent_composition ribbons _ (λ w. ap descent_composition (inverse-twice w) ∙ descent_composition-standardise w)

-- and over M
pub ribbons_over_m : GoesOver WqsymM NcsfR (λ u. descent_composition u)
ribbons_over_m = from_m NcsfR descent_composition ribbons _ (λ w. descent_composition-pack w)

-- ribbons by descents
pub ribbons_included : RibbonLaw
ribbons_included = record {
  in_fqsym_g = inclusion FqsymG NcsfR (λ s. descent_composition s) (from_g NcsfR descent_composition ribbons _ (λ w. descent_composition-standardise w));
  in_fqsym_f = inclusion FqsymF NcsfR (λ s. descent_composition (inverse s)) ribbons_over_f;
  in_pbt =
      inclusion PbtP NcsfR (λ code. descents_of_tree code)
      (goes_over PbtP trees (λ p. tree_code (decreasing_tree p)) _ _ by_trees NcsfR descent_composition ribbons (λ code. descents_of_tree code) descents_of_tree-decreasing);
  in_fsym =
      inclusion FsymS NcsfR (λ code. descents_of_tableau code)
      (goes_over FsymS tableaux (λ p. tableau_code (recording_tableau p)) _ _ by_tableaux NcsfR descent_composition ribbons (λ code. descents_of_tableau code) descents_of_tableau-recording);
  in_wqsym = inclusion WqsymM NcsfR (λ u. descent_composition u) ribbons_over_m;
}

-- the tree of a standardisation, by its inverse
tree-inverse : (w : List ℕ) → tree_code (decreasing_tree (inverse (inverse (standardise w)))) ≡ tree_code (decreasing_tree w)
tree-inverse w = ap (λ s. tree_code (decreasing_tree s)) (inverse-twice w) ∙ ap tree_code (decreasing_tree-standardise w)

-- trees by decreasing trees, over F
pub trees_over_f : GoesOver FqsymF PbtP (λ s. tree_code (decreasing_tree (inverse s)))
trees_over_f = from_f PbtP _ tree_codes _ tree-inverse

-- trees by decreasing trees
pub trees_included : TreeLaw
trees_included = record {
  in_fqsym_g = inclusion FqsymG PbtP (λ s. tree_code (decreasing_tree s)) (from_g PbtP _ tree_codes _ (λ w. ap tree_code (decreasing_tree-standardise w)));
  in_fqsym_f = inclusion FqsymF PbtP (λ s. tree_code (decreasing_tree (inverse s))) trees_over_f;
  by_search_tree =
      inclusion FqsymF PbtP (λ s. tree_code (shape (search_tree s)))
      (from_f PbtP _ tree_codes _
      (λ w. ap tree_code (shape-search_tree (inverse (standardise w)) (permutation-inverse (standardise w) (permutation-standardise w))) ∙ tree-inverse w));
  in_wqsym = inclusion WqsymM PbtP (λ u. tree_code (decreasing_tree u)) (from_m PbtP _ tree_codes _ (λ w. ap tree_code (decreasing_tree-pack w)));
}

-- tableaux by insertion tableaux, over F
pub tableaux_over_f : GoesOver FqsymF FsymS (λ s. tableau_code (insertion_tableau s))
tableaux_over_f = from_f FsymS _ tableau_codes _ (λ w. refl)

-- tableaux by insertion and recording tableaux
pub tableaux_included : TableauLaw
tableaux_included = record {
  in_fqsym_f = inclusion FqsymF FsymS (λ s. tableau_code (insertion_tableau s)) tableaux_over_f;
  in_fqsym_g = inclusion FqsymG FsymS (λ s. tableau_code (insertion_tableau (inverse s))) (from_g FsymS _ tableau_codes _ (λ w. refl));
  in_wqsym =
      inclusion WqsymM FsymS (λ u. tableau_code (recording_tableau u))
      (from_m FsymS _ tableau_codes _ (λ w. ap (λ s. tableau_code (insertion_tableau (inverse s))) (standardise-pack w)));
}

-- F of a permutation occurs where G of its inverse does, and G where F of the inverse does
pub occurs-inverse : (s w : List ℕ) → IsTrue (is_permutation s) → (occurs FqsymF s w ≡ occurs FqsymG (inverse s) w) × (occurs FqsymG s w ≡ occurs FqsymF (inverse s) w)
occurs-inverse s w h = (
  same_list-both (inverse (standardise w)) s (standardise w) (inverse s) (λ e. sym (inverse-twice w) ∙ ap inverse e) (λ e. ap inverse e ∙ inverse-inverse s (each_once s h)),
  same_list-both (standardise w) s (inverse (standardise w)) (inverse s) (λ e. ap inverse e) (λ e. sym (inverse-twice w) ∙ ap inverse e ∙ inverse-inverse s (each_once s h)),
)

-- the inverse alone
over_inverse : (from to : BasisId) (s : List ℕ) → IsIndex to (inverse s) → degree_of to (inverse s) ≡ degree_of from s → ((p : List ℕ) → occurs from s p ≡ occurs to (inverse s) p)
    → AreOver to from s (inverse s ∷ [])
over_inverse from to s index degree same = record {
  indices = ((index, degree), tt);
  small = one-le-pow (5 * degree_of from s) 2 (omega arith);
  few = λ k le. one-le-pow (k * degree_of from s) 2 (omega arith);
  occur = λ p point. omega (arith, ap one_if (same p));
}

-- the inverse of a permutation is one
pub inverse_index : (s : List ℕ) → IsTrue (is_permutation s) → IsTrue (is_permutation (inverse s))
inverse_index s h = permutation_from (inverse s) (permutation-inverse s (each_once s h))

by_inverse : (from to : BasisId) → ((s : List ℕ) → IsTrue (is_permutation s) → AreOver to from s (inverse s ∷ [])) → IsByInverse from to
by_inverse from to over = record {
  sums = λ s c h is. turned s c h is;
  exists = λ s h. let g = gathered_code (inverse s) in (g.0, turned s g.0 h g.1);
}
  where
    turned : (s : List ℕ) (c : Combination) → IsTrue (is_permutation s) → IsSumOfTerms 1 (terms_of_codes (inverse s ∷ [])) c → IsInverted from to s c
    turned s c h is = record {
      included = included to from s (inverse s ∷ []) c (over s h) is;
      norm = omega (arith, norm_of-codes (inverse s ∷ []), is.gathers.norm);
    }

-- F and G by inverses
pub inverses : InverseLaw
inverses = record {
  f_in_g = inclusion FqsymG FqsymF (λ s. inverse s) (from_g FqsymF _ inverted _ (λ w. refl));
  g_in_f = inclusion FqsymF FqsymG (λ s. inverse s) (from_f FqsymG _ standardised _ inverse-twice);
  f_is_g = by_inverse FqsymF FqsymG (λ s h. over_inverse FqsymF FqsymG s (inverse_index s h) (length-inverse s) (λ p. (occurs-inverse s p h).0));
  g_is_f = by_inverse FqsymG FqsymF (λ s h. over_inverse FqsymG FqsymF s (inverse_index s h) (length-inverse s) (λ p. (occurs-inverse s p h).1));
}

-- what determines what
pub determining : DeterminingLaw
determining = record {
  standardisation_by_packing = λ w. standardise-pack w;
  tree_by_standardisation = decreasing_tree-standardise;
  tableau_by_standardisation = λ w. ap (λ s. insertion_tableau (inverse s)) (standardise-standardise w);
  descents_by_standardisation = descent_composition-standardise;
  descents_by_tree = descents_of_tree-decreasing;
  descents_by_tableau = descents_of_tableau-recording;
}
