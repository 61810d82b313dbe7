-- Each algebra of words has its class basis, and each class basis the indices of words.
use Rattle.std.proofs.Common.{◌≡◌, ℕ, ◌↔◌, List, refl, sym, ◌∙◌, ap, subst}
use Rattle.std.specs.Prelude.{IsTrue}
use Rattle.basis_names.specs.Bases.{algebra_of}
use Rattle.basis_names.specs.declared.bases.AlgebraId.{AlgebraId}
use Rattle.basis_names.specs.declared.bases.AlgebraId.TheVariants.{Fqsym, Fsym, Ncsf, Pbt, Qsym, Wqsym}
use Rattle.basis_names.specs.declared.bases.BasisId.{BasisId}
use Rattle.basis_names.specs.declared.bases.BasisId.TheVariants.{FqsymF, FqsymG, FsymS, NcsfL, NcsfR, NcsfS, PbtP, QsymF, QsymM, WqsymM}
use Rattle.realisations.specs.Bases.{has_words, kind_of, representative}
use Rattle.realisations.specs.Codes.{Code}
use Rattle.realisations.specs.Descents.{descent_composition}
use Rattle.realisations.specs.IndexKinds.{is_packed}
use Rattle.realisations.specs.Indices.{IsIndex}
use Rattle.realisations.specs.Occurrence.{occurs}
use Rattle.realisations.specs.Points.{IsPoint, Kind, Point, exponents, pattern, word}
use Rattle.realisations.specs.Standardisation.{inverse, pack, standardise}
use Rattle.realisations.specs.Tableaux.{recording_tableau, tableau_code}
use Rattle.realisations.specs.Trees.{decreasing_tree, tree_code}
use Rattle.realisations.proofs.DescentCompositions.{descends}
use Rattle.realisations.proofs.Pattern.{occurs-pattern}
use Rattle.basis_representatives.specs.Laws.{AreClasses}
use Rattle.basis_representatives.proofs.AllRepresentatives.{class_laws}
use Rattle.basis_representatives.proofs.Inverses.{inverse-inverse}
use Rattle.basis_representatives.proofs.PackedWords.{all_letters, pack-packed, packed-pack, packed_from}
use Rattle.basis_representatives.proofs.Permutations.{permutation-standardise}
use Rattle.basis_representatives.proofs.SameLists.{same_list-self, same_list-true}
use Rattle.basis_representatives.proofs.Steps.{IsComposition-descent_composition}
use Rattle.product_laws.specs.Classes.{IsByClasses}
use Rattle.product_laws.proofs.AllClasses.{all_classes}
use Rattle.product_laws.proofs.ClassRules.{class_of-representative}
use Rattle.separation_laws.specs.Classes.{IsClassBasis, class_basis, class_for, index_of_word, is_class_basis}

-- over words a basis element occurs at a word as at its packing
pub occurs-pack : (basis : BasisId) → kind_of basis ≡ word → (code p : List ℕ) → occurs basis code p ≡ occurs basis code (pack p)
occurs-pack basis kind code p = occurs-pattern basis code p ∙ ap (λ k. occurs basis code (pattern k p)) kind

-- a packing is a packed word
pub is_packed-pack : (w : List ℕ) → IsTrue (is_packed (pack w))
is_packed-pack w = packed_from (pack w) (packed-pack w)

-- a packed word is its own packing
pub pack-packed_word : (u : List ℕ) → IsTrue (is_packed u) → pack u ≡ u
pack-packed_word u h = pack-packed u (all_letters u h)

-- and a point of each kind
pub packed_point : (u : List ℕ) → IsTrue (is_packed u) → (kind : Kind) → IsPoint kind u
packed_point u h exponents = tt
packed_point u h word = (all_letters u h).positive

-- a basis by classes, with representatives, is a class basis: a word has the class of its packing
pub class_basis_from : (basis : BasisId) (class_of : Point → Code) (front back : ℕ → Code → Code) → IsByClasses basis class_of front back → AreClasses basis → IsClassBasis basis class_of
class_basis_from basis class_of front back by classes = record {
  kind = by.words;
  occurs_in = by.occurs_at;
  index = λ w. subst (IsIndex basis) (class-pack w) (by.index (pack w) (packed_point (pack w) (is_packed-pack w) word));
  degree = by.degree;
  class = class_of-representative basis class_of front back by classes;
}
  where
    class-pack : (w : Point) → class_of (pack w) ≡ class_of w
    class-pack w =
        let c = class_of w in
        same_list-true (class_of (pack w)) c (sym (by.occurs_at c (pack w)) ∙ sym (occurs-pack basis by.words c w) ∙ by.occurs_at c w ∙ same_list-self c)

-- ribbons, by descent compositions
ribbon_classes : IsClassBasis NcsfR (λ w. descent_composition w)
ribbon_classes = record {
  kind = refl;
  occurs_in = λ code w. refl;
  index = IsComposition-descent_composition;
  degree = λ w. (descends w).0;
  class = λ code is. same_list-true (descent_composition (representative NcsfR code)) code (class_laws.ribbons code is code is ∙ same_list-self code);
}

-- the others, by standardisations and their inverses, packings, tableaux and trees
standardisation_classes : IsClassBasis FqsymG (λ w. standardise w)
standardisation_classes = class_basis_from FqsymG (λ w. standardise w) _ _ all_classes.standardisations class_laws.by_inverses

inverse_classes : IsClassBasis FqsymF (λ w. inverse (standardise w))
inverse_classes = class_basis_from FqsymF (λ w. inverse (standardise w)) _ _ all_classes.inverses class_laws.fundamental

packing_classes : IsClassBasis WqsymM (λ w. pack w)
packing_classes = class_basis_from WqsymM (λ w. pack w) _ _ all_classes.packings class_laws.packed_words

tableau_classes : IsClassBasis FsymS (λ w. tableau_code (recording_tableau w))
tableau_classes = class_basis_from FsymS (λ w. tableau_code (recording_tableau w)) _ _ all_classes.tableaux class_laws.tableaux

tree_classes : IsClassBasis PbtP (λ w. tree_code (decreasing_tree w))
tree_classes = class_basis_from PbtP (λ w. tree_code (decreasing_tree w)) _ _ all_classes.trees class_laws.trees

-- each algebra of words has its class basis
pub classes_of : (target : AlgebraId) → IsTrue (has_words target) → IsClassBasis (class_basis target) (class_for target)
classes_of Qsym h = absurd (cc)
classes_of Ncsf h = ribbon_classes
classes_of Fqsym h = standardisation_classes
classes_of Wqsym h = packing_classes
classes_of Fsym h = tableau_classes
classes_of Pbt h = tree_classes

-- and each class basis the indices of words
pub indices_of : (basis : BasisId) → IsTrue (is_class_basis basis) → IsClassBasis basis (index_of_word basis)
indices_of QsymM h = absurd (cc)
indices_of QsymF h = absurd (cc)
indices_of NcsfS h = absurd (cc)
indices_of NcsfL h = absurd (cc)
indices_of NcsfR h = ribbon_classes
indices_of FqsymF h = inverse_classes
indices_of FqsymG h = standardisation_classes
indices_of WqsymM h = packing_classes
indices_of FsymS h = tableau_classes
indices_of PbtP h = tree_classes

-- the inverses of two standardisations are the same where these are
same_inverses : (u v : Point) → inverse (standardise u) ≡ inverse (standardise v) → standardise u ≡ standardise v
same_inverses u v same = sym (inverse-twice u) ∙ ap inverse same ∙ inverse-twice v
  where
    inverse-twice : (w : Point) → inverse (inverse (standardise w)) ≡ standardise w
    inverse-twice w = inverse-inverse (standardise w) (permutation-standardise w)

-- words have one index where they have one class
pub indices_by_classes : (basis : BasisId) → IsTrue (is_class_basis basis) → (u v : Point) → (index_of_word basis u ≡ index_of_word basis v) ↔ (class_for (algebra_of basis) u ≡ class_for (algebra_of basis) v)
indices_by_classes QsymM h u v = absurd (cc)
indices_by_classes QsymF h u v = absurd (cc)
indices_by_classes NcsfS h u v = absurd (cc)
indices_by_classes NcsfL h u v = absurd (cc)
indices_by_classes NcsfR h u v = ((λ e. e), (λ e. e))
indices_by_classes FqsymF h u v = (same_inverses u v, (λ e. ap inverse e))
indices_by_classes FqsymG h u v = ((λ e. e), (λ e. e))
indices_by_classes WqsymM h u v = ((λ e. e), (λ e. e))
indices_by_classes FsymS h u v = ((λ e. e), (λ e. e))
indices_by_classes PbtP h u v = ((λ e. e), (λ e. e))
