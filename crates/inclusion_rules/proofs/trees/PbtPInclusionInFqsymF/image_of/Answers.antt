use Rattle.std.proofs.Common.{ap, arith, length}
use Rattle.basis_representatives.proofs.Inverses.{length-inverse}
use Rattle.inclusion_rules.proofs.trees.PbtPInclusionInFqsymF.image_of.Goals as goal

pub decreasing_code-requires : goal.decreasing_code-requires
decreasing_code-requires c = omega (arith, ap length c.inverse-inverse.ensures, length-inverse c.args.code.now, c.requires.degree)
