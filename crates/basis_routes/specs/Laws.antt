-- The law of conversions.
use Rattle.std.specs.Prelude.{IsTrue, [], ◌∷◌}
use Rattle.basis_names.specs.declared.bases.BasisId.{BasisId}
use Rattle.built_bases.specs.Table.{is_built}
use Rattle.hopf_laws.specs.Values.{Expansion, IsValue, reading_of}
use Rattle.basis_routes.specs.declared.place.Place.{Place}
use Rattle.basis_routes.specs.Conversions.{ConversionRow}
use Rattle.basis_routes.specs.Lists.{replaced}
use Rattle.basis_routes.specs.Places.{position_of}
use Rattle.basis_routes.specs.Rows.{Decides}

-- a conversion to a built basis has exactly one answer, and where this is a value, it reads as before
abbrev pub ConversionLaw : Type 0
ConversionLaw = (at : Place) (new : BasisId) (v : Expansion) → IsValue v → IsTrue (is_built new) →
    Decides (ConversionRow at new v) (replaced (position_of at) (new ∷ []) v.bases) (reading_of v)
