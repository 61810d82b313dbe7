-- Laws of the representatives of the ten bases. Public functions with empty bodies ensure them (`src/laws.rt`).
use Rattle.std.specs.Prelude.{◌≡◌, List, length}
use Rattle.basis_names.specs.declared.bases.BasisId.{BasisId}
use Rattle.basis_names.specs.declared.bases.BasisId.TheVariants.{NcsfR, FqsymF, FqsymG, WqsymM, FsymS, PbtP, QsymM}
use Rattle.realisations.specs.Codes.{Code, Key}
use Rattle.realisations.specs.Bases.{representative, representatives}
use Rattle.realisations.specs.Combinations.{Combination, IsCanonical, HasKey}
use Rattle.realisations.specs.Indices.{IsIndex, AreIndices}
use Rattle.realisations.specs.Readings.{leaf, AgreeAt}
use Rattle.basis_representatives.specs.Representatives.{IsRepresentative, HasRepresentatives}

-- at the representative of an index its element occurs, and no other one does
abbrev pub AreClasses : BasisId → Type 0
AreClasses basis = (index : Code) → IsIndex basis index → IsRepresentative basis index (representative basis index)

-- seven bases are class bases
pub record ClassLaws : Type 0 where
  pub monomial : AreClasses QsymM
  pub ribbons : AreClasses NcsfR
  pub fundamental : AreClasses FqsymF
  pub by_inverses : AreClasses FqsymG
  pub packed_words : AreClasses WqsymM
  pub tableaux : AreClasses FsymS
  pub trees : AreClasses PbtP

-- all ten have representatives
abbrev pub RepresentativesLaw : Type 0
RepresentativesLaw = (basis : BasisId) → HasRepresentatives basis

-- canonical combinations over any bases that agree at all tuples of representatives are the same
abbrev pub UniquenessLaw : Type 0
UniquenessLaw = (bases : List BasisId) (c d : Combination) →
    IsCanonical c.rank c.den c.terms → IsCanonical d.rank d.den d.terms →
    c.rank ≡ length bases → d.rank ≡ length bases →
    ((key : Key) → HasKey c.terms key → AreIndices bases key) →
    ((key : Key) → HasKey d.terms key → AreIndices bases key) →
    ((key : Key) → AreIndices bases key → AgreeAt (leaf bases c.den c.terms) (leaf bases d.den d.terms) (representatives bases key)) →
    c ≡ d
