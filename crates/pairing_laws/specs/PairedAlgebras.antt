-- The table of the pairings: which algebras are paired.
use Rattle.std.specs.Prelude.{Bool, true, ◌&&◌}
use Rattle.basis_names.specs.declared.bases.AlgebraId.{AlgebraId}
use Rattle.basis_names.specs.declared.bases.AlgebraId.TheVariants.{Qsym, Ncsf, Fqsym}
use Rattle.realisations.specs.Bases.{lies_in}

-- NCSF and its graded dual QSym (Gelfand, Krob, Lascoux, Leclerc, Retakh, Thibon 1995), and any two algebras that lie in FQSym, which is its own dual (Malvenuto, Reutenauer 1995; Duchamp, Hivert, Thibon 2002)
abbrev pub is_paired : AlgebraId → AlgebraId → Bool
is_paired Qsym Ncsf = true
is_paired Ncsf Qsym = true
is_paired a b = lies_in a Fqsym && lies_in b Fqsym
