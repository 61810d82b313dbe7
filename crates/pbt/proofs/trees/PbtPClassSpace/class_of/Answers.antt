use Rattle.std.proofs.Common.{◌∙◌, ap, arith, subst, sym}
use Rattle.basis_names.specs.declared.bases.BasisId.TheVariants.{PbtP}
use Rattle.index_rules.specs.Spaces.{IsClass}
use Rattle.realisations.specs.Trees.{tree_code, tree_size}
use Rattle.pbt.proofs.Classes.{size_of_word, tree_class}
use Rattle.pbt.proofs.trees.PbtPClassSpace.class_of.Goals as goal

pub code-requires : goal.code-requires
code-requires c = omega (arith, ap tree_size c.in_ok-shape.ensures, size_of_word c.args.point.now, c.requires)

pub returns : goal.returns
returns c = subst (IsClass PbtP c.args.point.now) (sym (c.code.ensures ∙ ap tree_code c.in_ok-shape.ensures)) (tree_class c.args.point.now)
