use Rattle.std.proofs.Common.{refl}
use Rattle.basis_names.specs.declared.bases.BasisId.TheVariants.{NcsfL}
use Rattle.ncsf.proofs.Indices.{code_within}
use Rattle.ncsf.proofs.elementary.NcsfLSpace.is_index.Goals as goal

pub returns : goal.returns
returns c = rw (c.limit.ensures, c.sum.ensures.value) (code_within NcsfL c.args.code.now refl refl c.sum.ensures.is_code)
