-- Classes of words: what the elements of an algebra of words see of a word. Two words are in one class where all elements of the algebra occur alike at both.
use Rattle.std.specs.Prelude.{◌≡◌, Bool, true, false, length}
use Rattle.basis_names.specs.Bases.{algebra_of}
use Rattle.basis_names.specs.declared.bases.AlgebraId.{AlgebraId}
use Rattle.basis_names.specs.declared.bases.AlgebraId.TheVariants.{Qsym, Ncsf, Fqsym, Wqsym, Fsym, Pbt}
use Rattle.basis_names.specs.declared.bases.BasisId.{BasisId}
use Rattle.basis_names.specs.declared.bases.BasisId.TheVariants.{QsymM, NcsfR, FqsymF, FqsymG, WqsymM, FsymS, PbtP}
use Rattle.realisations.specs.Bases.{kind_of, representative}
use Rattle.realisations.specs.Codes.{Code}
use Rattle.realisations.specs.Descents.{descent_composition}
use Rattle.realisations.specs.Exponents.{without_zeros}
use Rattle.realisations.specs.Indices.{IsIndex, degree_of}
use Rattle.realisations.specs.Lists.{same_list}
use Rattle.realisations.specs.Occurrence.{occurs}
use Rattle.realisations.specs.Points.{Point, word}
use Rattle.realisations.specs.Standardisation.{standardise, pack, inverse}
use Rattle.realisations.specs.Tableaux.{recording_tableau, tableau_code}
use Rattle.realisations.specs.Trees.{decreasing_tree, tree_code}

-- the class of a word for an algebra of words: its descent composition for NCSF (Gelfand, Krob, Lascoux, Leclerc, Retakh, Thibon 1995), its standardisation for FQSym (Duchamp, Hivert, Thibon 2002), its packing for WQSym (Hivert 1999),
-- its recording tableau for FSym (Poirier, Reutenauer 1995) and its decreasing tree for PBT (Hivert, Novelli, Thibon 2005), both by their codes; and for QSym the exponents that are not 0 (Gessel 1984)
abbrev pub class_for : AlgebraId → Point → Code
class_for Qsym p = without_zeros p
class_for Ncsf w = descent_composition w
class_for Fqsym w = standardise w
class_for Wqsym w = pack w
class_for Fsym w = tableau_code (recording_tableau w)
class_for Pbt w = tree_code (decreasing_tree w)

-- the basis of an algebra whose elements are the sums of the points of a class, indexed by these
abbrev pub class_basis : AlgebraId → BasisId
class_basis Qsym = QsymM
class_basis Ncsf = NcsfR
class_basis Fqsym = FqsymG
class_basis Wqsym = WqsymM
class_basis Fsym = FsymS
class_basis Pbt = PbtP

-- whether at each word one element of the basis occurs: the class bases of words
abbrev pub is_class_basis : BasisId → Bool
is_class_basis NcsfR = true
is_class_basis FqsymF = true
is_class_basis FqsymG = true
is_class_basis WqsymM = true
is_class_basis FsymS = true
is_class_basis PbtP = true
is_class_basis _ = false

-- the index of this element: the class of the word, and for FQSym.F the inverse of it
abbrev pub index_of_word : BasisId → Point → Code
index_of_word FqsymF w = inverse (standardise w)
index_of_word basis w = class_for (algebra_of basis) w

-- the function brings each word to the index of the one element that occurs there, whose degree is the length of the word; and the representative of an index to the index
pub record IsClassBasis (basis : BasisId) (class_of : Point → Code) : Type 0 where
  pub kind : kind_of basis ≡ word
  pub occurs_in : (code : Code) (w : Point) → occurs basis code w ≡ same_list (class_of w) code
  pub index : (w : Point) → IsIndex basis (class_of w)
  pub degree : (w : Point) → degree_of basis (class_of w) ≡ length w
  pub class : (code : Code) → IsIndex basis code → class_of (representative basis code) ≡ code
