-- The class of a word for an algebra determines that for each algebra of words that lies in it; so elements occur alike at words of one class.
use Rattle.std.proofs.Common.{◌≡◌, ◌&&◌, nat_eq, length, refl, sym, ◌∙◌, ap}
use Rattle.std.specs.Prelude.{IsTrue}
use Rattle.std.specs.List.{sum}
use Rattle.basis_names.specs.Bases.{algebra_of}
use Rattle.basis_names.specs.declared.bases.AlgebraId.{AlgebraId}
use Rattle.basis_names.specs.declared.bases.AlgebraId.TheVariants.{Fqsym, Fsym, Ncsf, Pbt, Qsym, Wqsym}
use Rattle.basis_names.specs.declared.bases.BasisId.{BasisId}
use Rattle.basis_names.specs.declared.bases.BasisId.TheVariants.{FqsymF, FqsymG, FsymS, NcsfL, NcsfR, NcsfS, PbtP, QsymF, QsymM, WqsymM}
use Rattle.realisations.specs.Bases.{has_words, kind_of, lies_in}
use Rattle.realisations.specs.Codes.{Code}
use Rattle.realisations.specs.Descents.{descent_composition, descent_set, descents, places_outside}
use Rattle.realisations.specs.Lists.{is_subset, same_list}
use Rattle.realisations.specs.Occurrence.{occurs}
use Rattle.realisations.specs.Points.{Point, word}
use Rattle.realisations.specs.Standardisation.{inverse, standardise}
use Rattle.realisations.specs.Tableaux.{insertion_tableau, recording_tableau, tableau_code}
use Rattle.realisations.specs.Trees.{decreasing_tree, tree_code}
use Rattle.realisations.proofs.DescentCompositions.{descends}
use Rattle.realisations.proofs.Packing.{decreasing_tree-pack, descent_composition-pack, standardise-pack}
use Rattle.basis_representatives.proofs.Bits.{inside}
use Rattle.inclusion_laws.specs.DescentsOfIndices.{descents_of_tableau, descents_of_tree}
use Rattle.inclusion_laws.proofs.InclusionsOfClasses.{determining}
use Rattle.separation_laws.specs.Classes.{class_for, index_of_word}
use Rattle.separation_laws.specs.FiniteTests.{IsFiner}
use Rattle.separation_laws.proofs.ClassBases.{indices_by_classes}

-- the class for one algebra determines that for another
abbrev pub Determines : AlgebraId → AlgebraId → Type 0
Determines fine target = (u v : Point) → class_for fine u ≡ class_for fine v → class_for target u ≡ class_for target v

-- by a function of classes
determines_by : (fine target : AlgebraId) (to : Code → Code) → ((w : Point) → to (class_for fine w) ≡ class_for target w) → Determines fine target
determines_by fine target to brings u v same = sym (brings u) ∙ ap to same ∙ brings v

-- an algebra of words lies in another one where the class for that determines its own (Duchamp, Hivert, Thibon 2002; Hivert, Novelli, Thibon 2005; Novelli, Thibon 2006)
pub determined : (target fine : AlgebraId) → IsTrue (has_words target) → IsTrue (lies_in target fine) → Determines fine target
determined Qsym fine words inside = absurd (cc)
determined Ncsf Qsym words inside = absurd (cc)
determined Ncsf Ncsf words inside = λ u v same. same
determined Ncsf Fqsym words inside = determines_by Fqsym Ncsf descent_composition determining.descents_by_standardisation
determined Ncsf Wqsym words inside = determines_by Wqsym Ncsf descent_composition (λ w. descent_composition-pack w)
determined Ncsf Fsym words inside = determines_by Fsym Ncsf descents_of_tableau determining.descents_by_tableau
determined Ncsf Pbt words inside = determines_by Pbt Ncsf descents_of_tree determining.descents_by_tree
determined Fsym Qsym words inside = absurd (cc)
determined Fsym Ncsf words inside = absurd (cc)
determined Fsym Fqsym words inside = determines_by Fqsym Fsym (λ s. tableau_code (recording_tableau s)) (λ w. ap tableau_code (determining.tableau_by_standardisation w))
determined Fsym Wqsym words inside = determines_by Wqsym Fsym (λ s. tableau_code (recording_tableau s)) (λ w. ap (λ s. tableau_code (insertion_tableau (inverse s))) (standardise-pack w))
determined Fsym Fsym words inside = λ u v same. same
determined Fsym Pbt words inside = absurd (cc)
determined Pbt Qsym words inside = absurd (cc)
determined Pbt Ncsf words inside = absurd (cc)
determined Pbt Fqsym words inside = determines_by Fqsym Pbt (λ s. tree_code (decreasing_tree s)) (λ w. ap tree_code (determining.tree_by_standardisation w))
determined Pbt Wqsym words inside = determines_by Wqsym Pbt (λ s. tree_code (decreasing_tree s)) (λ w. ap tree_code (decreasing_tree-pack w))
determined Pbt Fsym words inside = absurd (cc)
determined Pbt Pbt words inside = λ u v same. same
determined Fqsym Qsym words inside = absurd (cc)
determined Fqsym Ncsf words inside = absurd (cc)
determined Fqsym Fqsym words inside = λ u v same. same
determined Fqsym Wqsym words inside = determines_by Wqsym Fqsym (λ w. standardise w) determining.standardisation_by_packing
determined Fqsym Fsym words inside = absurd (cc)
determined Fqsym Pbt words inside = absurd (cc)
determined Wqsym Qsym words inside = absurd (cc)
determined Wqsym Ncsf words inside = absurd (cc)
determined Wqsym Fqsym words inside = absurd (cc)
determined Wqsym Wqsym words inside = λ u v same. same
determined Wqsym Fsym words inside = absurd (cc)
determined Wqsym Pbt words inside = absurd (cc)

-- the elements of a basis occur at words of one class for the algebra alike
abbrev pub OccursAlike : BasisId → AlgebraId → Type 0
OccursAlike basis target = (code : Code) (u v : Point) → class_for target u ≡ class_for target v → occurs basis code u ≡ occurs basis code v

-- the descents of a word, and its length, are those of its descent composition
descents_same : (u v : Point) → descent_composition u ≡ descent_composition v → descents u ≡ descents v
descents_same u v same = sym ((descends u).1) ∙ ap descent_set same ∙ (descends v).1

length_same : (u v : Point) → descent_composition u ≡ descent_composition v → length u ≡ length v
length_same u v same = sym ((descends u).0) ∙ ap sum same ∙ (descends v).0

-- each basis of words at words of one class for its own algebra
occurs_in_class : (basis : BasisId) → kind_of basis ≡ word → OccursAlike basis (algebra_of basis)
occurs_in_class QsymM kind code u v same = absurd (cc)
occurs_in_class QsymF kind code u v same = absurd (cc)
occurs_in_class NcsfS kind code u v same =
    let places = descents_same u v same in
    let long = length_same u v same in
    λ i. nat_eq (long i) (sum code) && is_subset (places i) (descent_set code)
occurs_in_class NcsfL kind code u v same =
    let places = descents_same u v same in
    let long = length_same u v same in
    λ i. nat_eq (long i) (sum code) && is_subset (places_outside code) (places i)
occurs_in_class NcsfR kind code u v same = ap (λ c. same_list c code) same
occurs_in_class FqsymF kind code u v same = ap (λ s. same_list (inverse s) code) same
occurs_in_class FqsymG kind code u v same = ap (λ c. same_list c code) same
occurs_in_class WqsymM kind code u v same = ap (λ c. same_list c code) same
occurs_in_class FsymS kind code u v same = ap (λ c. same_list c code) same
occurs_in_class PbtP kind code u v same = ap (λ c. same_list c code) same

-- the algebra of a basis of words has words
pub words_of : (basis : BasisId) → kind_of basis ≡ word → IsTrue (has_words (algebra_of basis))
words_of QsymM kind = absurd (cc)
words_of QsymF kind = absurd (cc)
words_of NcsfS kind = refl
words_of NcsfL kind = refl
words_of NcsfR kind = refl
words_of FqsymF kind = refl
words_of FqsymG kind = refl
words_of WqsymM kind = refl
words_of FsymS kind = refl
words_of PbtP kind = refl

-- so at words of one class for each algebra that its own lies in
pub occurs_alike : (basis : BasisId) (target : AlgebraId) → kind_of basis ≡ word → IsTrue (lies_in (algebra_of basis) target) → OccursAlike basis target
occurs_alike basis target kind inside code u v same = occurs_in_class basis kind code u v (determined (algebra_of basis) target (words_of basis kind) inside u v same)

-- the index of a word over a finer class basis determines its class
abbrev pub Refines : BasisId → AlgebraId → Type 0
Refines fine target = (u v : Point) → index_of_word fine u ≡ index_of_word fine v → class_for target u ≡ class_for target v

pub refines_from : (fine : BasisId) (target : AlgebraId) → IsFiner fine target → Refines fine target
refines_from fine target finer u v same = determined target (algebra_of fine) finer.words finer.inside u v ((indices_by_classes fine finer.classes u v).0 same)
