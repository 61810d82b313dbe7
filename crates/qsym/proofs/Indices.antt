-- Codes as indices of the bases of QSym, and as points.
use Rattle.std.proofs.Common.{◌↔◌, IsTrue, refl}
use Rattle.std.specs.Prelude.{nat_le}
use Rattle.std.specs.List.{sum}
use Rattle.std.proofs.lemmas.Bool.{leb-true, le-leb}
use Rattle.basis_names.specs.declared.bases.BasisId.TheVariants.{QsymM, QsymF}
use Rattle.basis_representatives.proofs.AllRepresentatives.{class_laws}
use Rattle.compositions.proofs.Parts.{composition_from_letters}
use Rattle.index_rules.specs.Spaces.{IsIndexWithin, IsClass}
use Rattle.linear_combos.specs.Codes.{IsCode}
use Rattle.realisations.specs.Codes.{Code}

-- every code is a composition, so its sum decides
pub monomial_within : (code : Code) → IsCode code → IsTrue (nat_le (sum code) 10) ↔ IsIndexWithin QsymM code
monomial_within code is = (
  λ small. record { index = composition_from_letters code is.letters; degree = leb-true (sum code) 10 small },
  λ index. le-leb (sum code) 10 index.degree,
)

pub fundamental_within : (code : Code) → IsCode code → IsTrue (nat_le (sum code) 10) ↔ IsIndexWithin QsymF code
fundamental_within code is = (
  λ small. record { index = composition_from_letters code is.letters; degree = leb-true (sum code) 10 small },
  λ index. le-leb (sum code) 10 index.degree,
)

-- exponents without zeros are their own class
pub own_class : (p : Code) → IsCode p → IsClass QsymM p p
own_class p is = record { index_of = composition_from_letters p is.letters; degree = refl; occurs_alone = class_laws.monomial p (composition_from_letters p is.letters) }
