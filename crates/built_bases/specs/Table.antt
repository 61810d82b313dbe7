-- The built bases.
use Rattle.std.specs.Prelude.{Bool, true, false}
use Rattle.basis_names.specs.declared.bases.BasisId.{BasisId}
use Rattle.basis_names.specs.declared.bases.BasisId.TheVariants.{QsymM, QsymF, NcsfS, NcsfL, NcsfR, FqsymF, FqsymG, WqsymM, FsymS, PbtP}

-- whether the elements of a basis are read, computed with and printed
abbrev pub is_built : BasisId → Bool
is_built QsymM = true
is_built QsymF = true
is_built NcsfS = true
is_built NcsfL = true
is_built NcsfR = true
is_built FqsymF = true
is_built FqsymG = true
is_built WqsymM = true
is_built FsymS = true
is_built PbtP = true
