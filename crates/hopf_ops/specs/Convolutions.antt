-- The law of convolution, of the values that rows allow.
use Rattle.std.specs.Prelude.{◌≡◌, ◌≢◌, ◌⊎◌, ℕ, ◌+◌, pos, ◌*ℤ◌, [], map, Ok}
use Rattle.antipode_laws.specs.Units.{unit_of_counit}
use Rattle.basis_routes.specs.declared.place.Place.{Place}
use Rattle.basis_routes.specs.Places.{position_of}
use Rattle.change_laws.specs.Lifts.{code_at}
use Rattle.hopf_laws.specs.Values.{Expansion, IsValue, reading_of}
use Rattle.hopf_ops.specs.Operations.{AntipodeRow, CoproductRow, MultRow}
use Rattle.realisations.specs.Bases.{kind_of}
use Rattle.realisations.specs.Codes.{Key}
use Rattle.realisations.specs.Combinations.{HasKey}
use Rattle.realisations.specs.Points.{Points, ArePoints}
use Rattle.realisations.specs.Readings.{numerator}

-- the value is over the bases of another one, and reads as the counit of its component n, counted from 0, and then the unit there; it is 0 where no key of the other one has the empty index there, the only one of degree 0
pub record IsUnitOfCounit (n : ℕ) (a z : Expansion) : Type 0 where
  pub over : z.bases ≡ a.bases
  pub reads : (ps : Points) → ArePoints (map kind_of a.bases) ps →
      numerator (reading_of z) ps *ℤ pos a.combination.den ≡ unit_of_counit n (reading_of a) ps *ℤ pos z.combination.den
  pub zero : ((key : Key) → HasKey a.combination.terms key → code_at n key ≢ []) → z.combination.terms ≡ []

-- whatever values the rows of the coproduct of a component, of the antipode of the first or the second of its two parts, and of the product of both allow in turn, the last one is the unit of the counit of the first (Takeuchi 1971)
abbrev pub ConvolutionLaw : Type 0
ConvolutionLaw = (at part both : Place) (a x y z : Expansion) → IsValue a →
    (position_of part ≡ position_of at) ⊎ (position_of part ≡ position_of at + 1) → position_of both ≡ position_of at →
    CoproductRow at a (Ok x) → AntipodeRow part x (Ok y) → MultRow both y (Ok z) → IsUnitOfCounit (position_of at) a z
