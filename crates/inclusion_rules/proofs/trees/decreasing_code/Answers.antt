use Rattle.std.proofs.Common.{ap, arith}
use Rattle.pbt.proofs.Classes.{size_of_word}
use Rattle.realisations.specs.Trees.{tree_size}
use Rattle.inclusion_rules.proofs.trees.decreasing_code.Goals as goal

pub code-requires : goal.code-requires
code-requires c = omega (arith, ap tree_size c.in_ok-shape.ensures, size_of_word c.args.word.now, c.requires)
