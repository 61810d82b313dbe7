use Rattle.std.proofs.Common.{arith}
use Rattle.fqsym.proofs.Indices.{small_standard}
use Rattle.inclusion_rules.proofs.permutations.FqsymFInclusionInWqsymM.image_of.Goals as goal

pub inverse-requires : goal.inverse-requires
inverse-requires c = rw c.standardise-standard.ensures (small_standard c.args.word.now (omega (arith, c.requires.degree)))
