-- Each of the ten bases has representatives.
use Rattle.basis_names.specs.declared.bases.BasisId.TheVariants.{QsymM, QsymF, NcsfS, NcsfL, NcsfR, FqsymF, FqsymG, WqsymM, FsymS, PbtP}
use Rattle.basis_representatives.specs.Laws.{ClassLaws, RepresentativesLaw}
use Rattle.basis_representatives.proofs.BasesOfCompositions.{representatives_of_classes, classes_of_exponents, classes_of_ribbons, fundamental_representatives, complete_representatives, elementary_representatives}
use Rattle.basis_representatives.proofs.ClassesOfWords.{classes_of_packed_words, classes_of_permutations, classes_of_inverses, classes_of_tableaux, classes_of_trees}

pub class_laws : ClassLaws
class_laws = record {
  monomial = classes_of_exponents;
  ribbons = classes_of_ribbons;
  fundamental = classes_of_inverses;
  by_inverses = classes_of_permutations;
  packed_words = classes_of_packed_words;
  tableaux = classes_of_tableaux;
  trees = classes_of_trees;
}

pub all_have : RepresentativesLaw
all_have QsymM = representatives_of_classes QsymM classes_of_exponents
all_have QsymF = fundamental_representatives
all_have NcsfS = complete_representatives
all_have NcsfL = elementary_representatives
all_have NcsfR = representatives_of_classes NcsfR classes_of_ribbons
all_have FqsymF = representatives_of_classes FqsymF classes_of_inverses
all_have FqsymG = representatives_of_classes FqsymG classes_of_permutations
all_have WqsymM = representatives_of_classes WqsymM classes_of_packed_words
all_have FsymS = representatives_of_classes FsymS classes_of_tableaux
all_have PbtP = representatives_of_classes PbtP classes_of_trees
