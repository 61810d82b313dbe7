-- What representatives tell: at the representative of an index its element occurs, and what else occurs there is smaller in some measure.
use Rattle.std.specs.Prelude.{◌≡◌, ℕ, ◌<◌, ◌⊎◌, true}
use Rattle.basis_names.specs.declared.bases.BasisId.{BasisId}
use Rattle.realisations.specs.Codes.{Code}
use Rattle.realisations.specs.Lists.{same_list}
use Rattle.realisations.specs.Bases.{kind_of, representative}
use Rattle.realisations.specs.Points.{IsPoint, Point}
use Rattle.realisations.specs.Indices.{IsIndex}
use Rattle.realisations.specs.Occurrence.{occurs}

-- at the point the element of the index occurs, and no other one does
abbrev pub IsRepresentative : BasisId → Code → Point → Type 0
IsRepresentative basis index p = (code : Code) → IsIndex basis code → occurs basis code p ≡ same_list index code

-- representatives are points, and readings there are unit triangular. Over a class basis no other element occurs there; over one that is not, the measure tells finer from coarser
pub record HasRepresentatives (basis : BasisId) : Type 0 where
  pub measure : Code → ℕ
  pub point : (index : Code) → IsIndex basis index → IsPoint (kind_of basis) (representative basis index)
  pub own : (index : Code) → IsIndex basis index → occurs basis index (representative basis index) ≡ true
  pub others : (index code : Code) → IsIndex basis index → IsIndex basis code → occurs basis code (representative basis index) ≡ true →
      (code ≡ index) ⊎ (measure code < measure index)
