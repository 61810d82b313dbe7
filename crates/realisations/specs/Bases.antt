-- The tables of the bases, a line a basis: at which points each is read, what its elements are indexed by, and the representatives of these. And that of the algebras: which of them lie in which.
use Rattle.std.specs.Prelude.{Bool, true, false, List, [], ◌∷◌}
use Rattle.basis_names.specs.declared.bases.AlgebraId.{AlgebraId}
use Rattle.basis_names.specs.declared.bases.AlgebraId.TheVariants.{Qsym, Ncsf, Fqsym, Wqsym, Fsym, Pbt}
use Rattle.basis_names.specs.declared.bases.BasisId.{BasisId}
use Rattle.basis_names.specs.declared.bases.BasisId.TheVariants.{QsymM, QsymF, NcsfS, NcsfL, NcsfR, FqsymF, FqsymG, WqsymM, FsymS, PbtP}
use Rattle.realisations.specs.Codes.{Code, Key}
use Rattle.realisations.specs.Descents.{word_of_composition, complement}
use Rattle.realisations.specs.Standardisation.{inverse}
use Rattle.realisations.specs.Tableaux.{rows_of, reading_word}
use Rattle.realisations.specs.Trees.{tree_of, subtree_sizes}
use Rattle.realisations.specs.Points.{Kind, exponents, word, Point, Points}
use Rattle.realisations.specs.IndexKinds.{IndexKind, by_composition, by_permutation, by_packed_word, by_tableau, by_tree}

-- the kind of the points at which a basis is read
abbrev pub kind_of : BasisId → Kind
kind_of QsymM = exponents
kind_of QsymF = exponents
kind_of NcsfS = word
kind_of NcsfL = word
kind_of NcsfR = word
kind_of FqsymF = word
kind_of FqsymG = word
kind_of WqsymM = word
kind_of FsymS = word
kind_of PbtP = word

-- the kind of the indices of a basis
abbrev pub index_kind_of : BasisId → IndexKind
index_kind_of QsymM = by_composition
index_kind_of QsymF = by_composition
index_kind_of NcsfS = by_composition
index_kind_of NcsfL = by_composition
index_kind_of NcsfR = by_composition
index_kind_of FqsymF = by_permutation
index_kind_of FqsymG = by_permutation
index_kind_of WqsymM = by_packed_word
index_kind_of FsymS = by_tableau
index_kind_of PbtP = by_tree

-- the representative of an index, a point at which its element occurs and which tells it from the other indices of its degree:
-- a composition as exponents; for R and S a word with this descent composition, for L one with the descents that S has none at;
-- for G and M over words the index itself; for F the inverse permutation;
-- of a tableau the inverse of its reading word; of a tree the sizes of its subtrees
abbrev pub representative : BasisId → Code → Point
representative QsymM code = code
representative QsymF code = code
representative NcsfS code = word_of_composition code
representative NcsfL code = word_of_composition (complement code)
representative NcsfR code = word_of_composition code
representative FqsymF code = inverse code
representative FqsymG code = code
representative WqsymM code = code
representative FsymS code = inverse (reading_word (rows_of code))
representative PbtP code = subtree_sizes (tree_of code)

-- the representatives of the codes of a key
abbrev pub representatives : List BasisId → Key → Points
representatives [] key = []
representatives (basis ∷ bases) [] = []
representatives (basis ∷ bases) (code ∷ key) = representative basis code ∷ representatives bases key

-- whether it is an algebra of words
abbrev pub has_words : AlgebraId → Bool
has_words Qsym = false
has_words _ = true

-- whether the first algebra lies in the second, or is the same: all elements of the first are elements of the second (Duchamp, Hivert, Thibon 2002; Hivert, Novelli, Thibon 2005; Novelli, Thibon 2006)
abbrev pub lies_in : AlgebraId → AlgebraId → Bool
lies_in Qsym Qsym = true
lies_in Qsym _ = false
lies_in Ncsf Qsym = false
lies_in Ncsf _ = true
lies_in Fsym Fsym = true
lies_in Fsym Fqsym = true
lies_in Fsym Wqsym = true
lies_in Fsym _ = false
lies_in Pbt Pbt = true
lies_in Pbt Fqsym = true
lies_in Pbt Wqsym = true
lies_in Pbt _ = false
lies_in Fqsym Fqsym = true
lies_in Fqsym Wqsym = true
lies_in Fqsym _ = false
lies_in Wqsym Wqsym = true
lies_in Wqsym _ = false
