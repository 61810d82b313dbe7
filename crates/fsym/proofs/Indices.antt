-- The recording tableaux of words are their classes.
use Rattle.std.proofs.Common.{◌≤◌, List, ℕ, length, refl, arith}
use Rattle.basis_names.specs.declared.bases.BasisId.TheVariants.{FsymS}
use Rattle.basis_representatives.proofs.Inverses.{length-inverse, permutation-inverse}
use Rattle.basis_representatives.proofs.Permutations.{permutation-standardise, permutation_from}
use Rattle.basis_representatives.proofs.SameOrder.{length-standardise}
use Rattle.index_rules.specs.Spaces.{IsClass}
use Rattle.permutation_words.specs.Sizes.{IsSmallPermutation}
use Rattle.product_laws.proofs.TableauRule.{by_tableaux}
use Rattle.realisations.specs.Standardisation.{inverse, standardise}
use Rattle.realisations.specs.Tableaux.{recording_tableau, tableau_code}
use Rattle.tableau_laws.proofs.NumberedTableaux.{standard-insertion}

-- the standardisation of a short word
pub small_standard : (p : List ℕ) → length p ≤ 12 → IsSmallPermutation (standardise p)
small_standard p le = record { permutation = permutation_from (standardise p) (permutation-standardise p); small = omega (arith, length-standardise p, le) }

-- and its inverse
pub small_places : (p : List ℕ) → length p ≤ 12 → IsSmallPermutation (inverse (standardise p))
small_places p le = record {
  permutation = permutation_from (inverse (standardise p)) (permutation-inverse (standardise p) (permutation-standardise p));
  small = omega (arith, length-inverse (standardise p), length-standardise p, le);
}

-- S of its recording tableau is the one element that occurs at a word
pub tableau_class : (p : List ℕ) → IsClass FsymS p (tableau_code (recording_tableau p))
tableau_class p = record {
  index_of = (recording_tableau p, standard-insertion (inverse (standardise p)) (permutation_from (inverse (standardise p)) (permutation-inverse (standardise p) (permutation-standardise p))), refl);
  degree = by_tableaux.degree p;
  occurs_alone = λ code is. refl;
}
