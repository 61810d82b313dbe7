use Rattle.std.proofs.Common.{refl}
use Rattle.basis_names.specs.declared.bases.BasisId.TheVariants.{NcsfR}
use Rattle.ncsf.proofs.Indices.{code_within}
use Rattle.ncsf.proofs.ribbon.NcsfRSpace.is_index.Goals as goal

pub returns : goal.returns
returns c = rw (c.limit.ensures, c.sum.ensures.value) (code_within NcsfR c.args.code.now refl refl c.sum.ensures.is_code)
