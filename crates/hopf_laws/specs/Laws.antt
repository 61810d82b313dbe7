-- Laws of values.
use Rattle.std.specs.Prelude.{◌≡◌}
use Rattle.realisations.specs.Codes.{Key}
use Rattle.realisations.specs.Indices.{AreIndices}
use Rattle.realisations.specs.Readings.{AgreeAt}
use Rattle.realisations.specs.Bases.{representatives}
use Rattle.hopf_laws.specs.Values.{Expansion, IsValue, reading_of}

-- two values over the same bases whose readings agree at all tuples of representatives are equal in all parts
abbrev pub UniquenessLaw : Type 0
UniquenessLaw = (v w : Expansion) → IsValue v → IsValue w → v.bases ≡ w.bases →
    ((key : Key) → AreIndices v.bases key → AgreeAt (reading_of v) (reading_of w) (representatives v.bases key)) →
    v ≡ w
