-- The tables of the bases and the algebras: names, algebras and degree limits.
use Rattle.std.specs.Prelude.{ℕ, List, [], ◌∷◌, ◌++◌, Option, Some, None, if◌then◌else◌, codes}
use Rattle.std.specs.Str.{bytes_eq}
use Rattle.basis_names.specs.declared.bases.AlgebraId.{AlgebraId}
use Rattle.basis_names.specs.declared.bases.AlgebraId.TheVariants.{Qsym, Ncsf, Fqsym, Wqsym, Fsym, Pbt}
use Rattle.basis_names.specs.declared.bases.BasisId.{BasisId}
use Rattle.basis_names.specs.declared.bases.BasisId.TheVariants.{QsymM, QsymF, NcsfS, NcsfL, NcsfR, FqsymF, FqsymG, WqsymM, FsymS, PbtP}

-- all bases
abbrev pub bases : List BasisId
bases = QsymM ∷ QsymF ∷ NcsfS ∷ NcsfL ∷ NcsfR ∷ FqsymF ∷ FqsymG ∷ WqsymM ∷ FsymS ∷ PbtP ∷ []

-- the algebra of a basis
abbrev pub algebra_of : BasisId → AlgebraId
algebra_of QsymM = Qsym
algebra_of QsymF = Qsym
algebra_of NcsfS = Ncsf
algebra_of NcsfL = Ncsf
algebra_of NcsfR = Ncsf
algebra_of FqsymF = Fqsym
algebra_of FqsymG = Fqsym
algebra_of WqsymM = Wqsym
algebra_of FsymS = Fsym
algebra_of PbtP = Pbt

-- the greatest degree of the values of an algebra
abbrev pub limit_of : AlgebraId → ℕ
limit_of Qsym = 10
limit_of Ncsf = 10
limit_of Fqsym = 7
limit_of Wqsym = 6
limit_of Fsym = 7
limit_of Pbt = 7

-- the name of an algebra
abbrev pub name_of_algebra : AlgebraId → List ℕ
name_of_algebra Qsym = codes "QSym"
name_of_algebra Ncsf = codes "NCSF"
name_of_algebra Fqsym = codes "FQSym"
name_of_algebra Wqsym = codes "WQSym"
name_of_algebra Fsym = codes "FSym"
name_of_algebra Pbt = codes "PBT"

-- the name of a basis
abbrev pub name_of : BasisId → List ℕ
name_of QsymM = codes "QSym.M"
name_of QsymF = codes "QSym.F"
name_of NcsfS = codes "NCSF.S"
name_of NcsfL = codes "NCSF.L"
name_of NcsfR = codes "NCSF.R"
name_of FqsymF = codes "FQSym.F"
name_of FqsymG = codes "FQSym.G"
name_of WqsymM = codes "WQSym.M"
name_of FsymS = codes "FSym.S"
name_of PbtP = codes "PBT.P"

-- the first of these bases that has the name
abbrev pub named : List BasisId → List ℕ → Option BasisId
named [] name = None
named (basis ∷ others) name = if bytes_eq name (name_of basis) then Some basis else named others name
